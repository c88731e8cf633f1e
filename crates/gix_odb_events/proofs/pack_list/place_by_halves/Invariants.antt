use Rattle.std.proofs.Common.{◌-◌, ◌≤◌, length}
use Rattle.gix_odb_events.proofs.pack_list.place_by_halves.Given as goal

abbrev pub invariant-loop-low : goal.invariant-loop-low
invariant-loop-low l = record { ordered : l.low ≤ l.high; within : l.high ≤ length l.packs }

-- the places that are left
abbrev pub decreases-loop-low : goal.decreases-loop-low
decreases-loop-low l = l.high - l.low
