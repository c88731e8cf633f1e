use Rattle.std.proofs.Common.{◌≡◌, ◌-◌, ◌^◌, ◌<◌, ◌≤◌, length, drop}
use Rattle.gix_pack_read.specs.Pack.{size_bits}
use Rattle.gix_pack_read.proofs.data.entry_head.size_bits_in.Given as goal

abbrev pub invariant-loop-place : goal.invariant-loop-place
invariant-loop-place l = record {
  within : l.place ≤ length l.bytes;
  value_is : l.value ≡ size_bits (drop l.place l.bytes);
  small : l.value < 128 ^ (length l.bytes - l.place);
}

abbrev pub decreases-loop-place : goal.decreases-loop-place
decreases-loop-place l = l.place
