use Rattle.std.proofs.Common.{◌≡◌, ◌≤◌, ◌++◌, drop}
use Rattle.gix_pack_write.proofs.PlacedLemmas.Offsets.{narrows}
use Rattle.gix_pack_write.proofs.index.put_narrow.Given as goal

-- the offsets so far with those that are left are all, and no more of them are wide than there are
abbrev pub invariant-loop-row : goal.invariant-loop-row
invariant-loop-row l =
    record {
      written : l.list ++ narrows l.wide (drop l.row-index l.rows) ≡ l.initial.list ++ narrows 0 l.rows;
      few : l.wide ≤ l.row-index;
    }
