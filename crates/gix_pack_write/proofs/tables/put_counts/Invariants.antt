use Rattle.std.proofs.Common.{◌≡◌, ◌-◌, ◌≤◌, ◌++◌, map}
use Rattle.std.specs.List.{range_with_len}
use Rattle.gix_pack_write.specs.PlacedRow.{id_of}
use Rattle.gix_pack_read.specs.Rows.{count_to, counts_of}
use Rattle.gix_pack_write.specs.WrittenTables.{number_bytes}
use Rattle.gix_pack_write.proofs.tables.put_counts.Given as goal

-- the counts so far with those that are left are all, and the last of them is at most the next
abbrev pub invariant-loop-first : goal.invariant-loop-first
invariant-loop-first l =
    record {
      written : l.list ++ number_bytes (map (count_to (map id_of l.rows)) (range_with_len l.first (256 - l.first))) ≡ l.initial.list ++ number_bytes (counts_of (map id_of l.rows));
      known : l.count ≤ count_to (map id_of l.rows) l.first;
    }
