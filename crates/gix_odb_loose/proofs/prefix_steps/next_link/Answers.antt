use Rattle.std.proofs.Common.{sym, ◌∙◌}
use Rattle.gix_odb_loose.proofs.PrefixOrderLemmas.{settled_next}
use Rattle.gix_odb_loose.proofs.prefix_steps.next_link.Goals as goal

pub returns : goal.returns
returns c = record { next = settled_next c.matches.head c.matches.left _ (sym c.is_settled.ensures.settled ∙ c.matches-test.false) c.matches.invariant }
