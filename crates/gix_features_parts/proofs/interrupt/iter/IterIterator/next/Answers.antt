-- An item comes if the flag was asked and isn't set.
use Rattle.gix_features_parts.specs.Interrupt.{UntilSet}
use Rattle.gix_features_parts.proofs.interrupt.iter.IterIterator.next.Goals as goal

pub returns-then-is_set-clause-steps : goal.returns-then-is_set-clause-steps
returns-then-is_set-clause-steps g c =
    UntilSet.Set (record { told = c.if-is_set.ensures.tells; counted = c.if-is_set.ensures.counts })

pub returns-clause-steps : goal.returns-clause-steps
returns-clause-steps g c =
    UntilSet.NotSet (record { told = c.if-is_set.ensures.tells; counted = c.if-is_set.ensures.counts }) c.next.ensures.steps
