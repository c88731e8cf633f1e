use Rattle.std.proofs.Common.{◌≡◌, ◌+◌, ◌/◌, ◌^◌, ◌<◌, length}
use Rattle.gix_pack_write.specs.WrittenPack.{size_bytes}
use Rattle.gix_pack_write.proofs.entries.header_len.Given as goal

abbrev pub invariant-loop-high : goal.invariant-loop-high
invariant-loop-high l = record {
  small : l.high < 2 ^ 60;
  counted : l.len + length (size_bytes 9 l.high) ≡ 2 + length (size_bytes 9 (l.size / 16));
}

abbrev pub decreases-loop-high : goal.decreases-loop-high
decreases-loop-high l = l.high
