use Rattle.std.proofs.Common.{◌^◌, ◌<◌, length, arith}
use Rattle.gix_pack_read.proofs.EntryLemmas.{bits_fit}
use Rattle.gix_pack_read.proofs.data.entry_head.size_bits_in.Goals as goal

-- there is room for seven more bits
pub overflow_mul-value : goal.overflow_mul-value
overflow_mul-value c =
    let small : c.loop-place.value < 2 ^ 56 = bits_fit (length c.args.bytes.now) c.loop-place.place c.loop-place.value c.requires.short (omega arith) c.loop-place.invariant.small in
    omega arith

pub overflow_add-value : goal.overflow_add-value
overflow_add-value c =
    let small : c.loop-place.value < 2 ^ 56 = bits_fit (length c.args.bytes.now) c.loop-place.place c.loop-place.value c.requires.short (omega arith) c.loop-place.invariant.small in
    omega arith
