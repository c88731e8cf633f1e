-- What makes the error is taken, and put back only with an item.
use Rattle.std.proofs.Common.{sym}
use Rattle.gix_features_parts.proofs.InterruptLemmas.{over, errs, gives, ends}
use Rattle.gix_features_parts.proofs.interrupt.iter.IterWithErrIterator.next.Goals as goal

pub returns-in_err-make_err-clause-steps : goal.returns-in_err-make_err-clause-steps
returns-in_err-make_err-clause-steps g c =
    over (sym c.in_err-make_err.ensures.value) c.from_residual.ensures c.take.ensures.after

pub returns-then-is_set-clause-steps : goal.returns-then-is_set-clause-steps
returns-then-is_set-clause-steps g c =
    errs (sym c.in_ok-make_err.ensures.value) c.take.ensures.after
    (record { told = c.if-is_set.ensures.tells; counted = c.if-is_set.ensures.counts }) c.make_err.ensures

pub next-requires : goal.next-requires
next-requires g c = (c.requires _ (sym c.in_ok-make_err.ensures.value)).1

pub returns-in_err-item-clause-steps : goal.returns-in_err-item-clause-steps
returns-in_err-item-clause-steps g c =
    ends (sym c.in_ok-make_err.ensures.value) c.from_residual-in_err-item.ensures c.take.ensures.after
    (record { told = c.if-is_set.ensures.tells; counted = c.if-is_set.ensures.counts }) c.in_err-item.ensures.steps

pub returns-clause-steps : goal.returns-clause-steps
returns-clause-steps g c =
    gives (sym c.in_ok-make_err.ensures.value) (record { told = c.if-is_set.ensures.tells; counted = c.if-is_set.ensures.counts })
    c.in_ok-item.ensures.steps
