use Rattle.std.proofs.Common.{◌≡◌, drop}
use Rattle.std.specs.List.{enumerate_from, filter_map}
use Rattle.std.specs.Prelude.{slice_get}
use Rattle.gix_odb_events.specs.Shown.{kept_at, shown_kept}
use Rattle.gix_odb_events.proofs.lent.kept_after.Given as goal

-- it is among those of the places that are left
abbrev pub invariant-loop-place : goal.invariant-loop-place
invariant-loop-place l = slice_get (filter_map (kept_at l.list) (drop l.place (enumerate_from 0 l.slots))) l.left ≡ slice_get (shown_kept l.slots l.list) l.before
