use Rattle.std.proofs.Common.{◌≡◌, drop}
use Rattle.std.specs.Prelude.{slice_get}
use Rattle.gix_odb_events.specs.Shown.{shown_todo}
use Rattle.gix_odb_events.proofs.lent.unloaded_after.Given as goal

-- it is among those of the places that are left
abbrev pub invariant-loop-place : goal.invariant-loop-place
invariant-loop-place l = slice_get (shown_todo l.slots (drop l.place-index l.places)) l.left ≡ slice_get (shown_todo l.slots l.places) l.before
