use Rattle.std.proofs.Common.{◌≡◌, ◌-◌, ◌*◌, ◌≤◌, map, length}
use Rattle.std.specs.List.{range_with_len}
use Rattle.gix_pack_read.specs.Bytes.{numbers, same}
use Rattle.gix_pack_read.specs.Rows.{count_to, counts_of, ids_of}
use Rattle.gix_pack_read.proofs.tables.counts_agree.Given as goal

abbrev pub invariant-loop-first : goal.invariant-loop-first
invariant-loop-first l = record {
  counts_left : 4 * (256 - l.first) ≤ length l.rest;
  same_so_far : same (numbers 256 l.counts) (counts_of (ids_of l.kind l.n l.ids))
      ≡ same (numbers (256 - l.first) l.rest) (map (count_to (ids_of l.kind l.n l.ids)) (range_with_len l.first (256 - l.first)));
}
