use Rattle.std.proofs.Common.{◌≡◌, ◌++◌, ◌^◌, ◌<◌}
use Rattle.gix_pack_write.specs.WrittenPack.{size_bytes}
use Rattle.gix_pack_write.proofs.entries.put_size.Given as goal

abbrev pub invariant-loop-left : goal.invariant-loop-left
invariant-loop-left l = record {
  small : l.left < 2 ^ 60;
  written : l.fn.pack ++ size_bytes 9 l.number ≡ l.pack ++ size_bytes 9 l.left;
}

abbrev pub decreases-loop-left : goal.decreases-loop-left
decreases-loop-left l = l.left
