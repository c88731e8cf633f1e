use Rattle.std.proofs.Common.{◌≡◌, ◌≤◌, length, take}
use Rattle.std.specs.List.{enumerate_from, filter_map}
use Rattle.gix_odb_events.specs.Shown.{kept_at}
use Rattle.gix_odb_events.proofs.lent.count_kept.Given as goal

-- those of the places so far
abbrev pub invariant-loop-place : goal.invariant-loop-place
invariant-loop-place l = record { count : l.count ≡ length (filter_map (kept_at l.list) (take l.place (enumerate_from 0 l.slots))); within : l.count ≤ l.place }
