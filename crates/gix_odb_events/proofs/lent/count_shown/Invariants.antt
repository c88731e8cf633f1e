use Rattle.std.proofs.Common.{◌≡◌, ◌≤◌, length, take}
use Rattle.gix_odb_events.specs.Shown.{shown_indices}
use Rattle.gix_odb_events.proofs.lent.count_shown.Given as goal

-- those of the places so far
abbrev pub invariant-loop-place : goal.invariant-loop-place
invariant-loop-place l = record { count : l.count ≡ length (shown_indices l.slots (take l.place-index l.places)); within : l.count ≤ l.place-index }
