use Rattle.std.proofs.Common.{ap, nat_lt, ◌∙◌}
use Rattle.gix_odb_core.specs.Handles.{is_any_stable}
use Rattle.gix_odb_core.proofs.StableCountLemmas.{stable_count-tells}
use Rattle.gix_odb_core.proofs.handles.HandleTable.is_any_stable.Goals as goal

pub returns : goal.returns
returns c = record { stable = ap (nat_lt 0) c.self.invariant ∙ stable_count-tells c.self.inside.seats.entries ∙ ap is_any_stable c.self.view_is }
