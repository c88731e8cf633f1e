use Rattle.std.proofs.Common.{take}
use Rattle.gix_odb_events.specs.PackList.{IsRising}
use Rattle.gix_odb_events.proofs.pack_list.is_rising.Given as goal

-- the paths so far rise
abbrev pub invariant-loop-place : goal.invariant-loop-place
invariant-loop-place l = IsRising (take l.place l.packs)
