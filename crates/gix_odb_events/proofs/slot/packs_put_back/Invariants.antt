use Rattle.std.proofs.Common.{◌≡◌, map, take}
use Rattle.gix_odb_events.specs.OnDiskFile.{put_back, with_state}
use Rattle.gix_odb_events.proofs.slot.packs_put_back.Given as goal

abbrev pub invariant-loop-pack : goal.invariant-loop-pack
invariant-loop-pack l = l.copies.items ≡ map (with_state put_back) (take l.pack-index l.pack-items)
