use Rattle.std.proofs.Common.{arith, sym, ◌∙◌}
use Rattle.odb_script.proofs.PartLemmas.{is_last-first}
use Rattle.odb_script.proofs.part.part_at.Goals as goal

pub returns-then-left-le1-clause-last : goal.returns-then-left-le1-clause-last
returns-then-left-le1-clause-last c =
    sym (is_last-first c.args.separator c.loop-part.rest.now c.in-Some.part.now c.in-Some.more.now c.loop-part.left c.in-Some.ensures.found (omega arith)) ∙ c.loop-part.invariant.last
