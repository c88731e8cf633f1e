use Rattle.std.proofs.Common.{◌≡◌, ◌+◌, ◌*◌, ◌≤◌, length}
use Rattle.gix_pack_read.specs.MultiIndex.Chunks.{chunk_rows, ends_at, row_len, trailer_place}
use Rattle.gix_pack_read.specs.ChunkTable.{rows_left}
use Rattle.gix_pack_read.proofs.multi_index.chunks.has_table.Given as goal

abbrev pub invariant-loop-left : goal.invariant-loop-left
invariant-loop-left l = record {
  end_is : l.end ≡ trailer_place l.bytes;
  room : row_len * (l.left + 1) ≤ length l.rest;
  same_so_far : ends_at l.end (chunk_rows l.bytes) ≡ ends_at l.end (rows_left l.left l.rest);
}

abbrev pub decreases-loop-left : goal.decreases-loop-left
decreases-loop-left l = l.left
