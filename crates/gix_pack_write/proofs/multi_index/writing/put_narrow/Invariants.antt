use Rattle.std.proofs.Common.{◌≡◌, ◌≤◌, ◌++◌, drop}
use Rattle.gix_pack_write.proofs.WrittenMultiIndexLemmas.Loops.{narrow_rows}
use Rattle.gix_pack_write.proofs.multi_index.writing.put_narrow.Given as goal

-- the rows so far with those that are left are all, and no more of them are wide than there are
abbrev pub invariant-loop-row : goal.invariant-loop-row
invariant-loop-row l =
    record {
      written : l.list ++ narrow_rows l.wide (drop l.row-index l.rows) ≡ l.initial.list ++ narrow_rows 0 l.rows;
      few : l.wide ≤ l.row-index;
    }
