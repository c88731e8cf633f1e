use Rattle.std.proofs.Common.{◌≡◌, ◌++◌, drop}
use Rattle.gix_pack_write.proofs.WrittenMultiIndexLemmas.Loops.{wholes}
use Rattle.gix_pack_write.proofs.multi_index.writing.put_whole.Given as goal

abbrev pub invariant-loop-row : goal.invariant-loop-row
invariant-loop-row l = l.list ++ wholes (drop l.row-index l.rows) ≡ l.initial.list ++ wholes l.rows
