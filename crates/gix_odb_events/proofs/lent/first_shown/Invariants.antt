use Rattle.std.proofs.Common.{◌≡◌, ◌-◌, ◌≤◌, drop, length}
use Rattle.gix_odb_events.specs.Shown.{shown_indices}
use Rattle.gix_odb_events.proofs.lent.first_shown.Given as goal

abbrev pub invariant-loop-gone : goal.invariant-loop-gone
invariant-loop-gone l = (l.gone ≤ length l.places) × (shown_indices l.slots (drop l.gone l.places) ≡ shown_indices l.slots l.places)

abbrev pub decreases-loop-gone : goal.decreases-loop-gone
decreases-loop-gone l = length l.places - l.gone
