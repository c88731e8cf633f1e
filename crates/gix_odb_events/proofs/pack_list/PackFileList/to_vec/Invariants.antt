use Rattle.std.proofs.Common.{◌≡◌, take}
use Rattle.gix_odb_events.proofs.pack_list.PackFileList.to_vec.Given as goal

-- the packs so far
abbrev pub invariant-loop-place : goal.invariant-loop-place
invariant-loop-place l = l.packs.items ≡ take l.place l.self
