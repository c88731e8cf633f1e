use Rattle.std.proofs.Common.{◌≡◌, ◌++◌, replicate}
use Rattle.gix_pack_write.proofs.bytes.put_zeros.Given as goal

abbrev pub invariant-loop : goal.invariant-loop
invariant-loop l = l.list ≡ l.fn.list ++ replicate l.counter 0
