use Rattle.std.proofs.Common.{◌≡◌, ◌+◌, ◌*◌, ◌≤◌, true, length}
use Rattle.gix_pack_read.specs.MultiIndex.{at_most_one}
use Rattle.gix_pack_read.specs.MultiIndex.Chunks.{ends_at, named, row_len, trailer_place}
use Rattle.gix_pack_read.specs.ChunkTable.{named_left, rows_left}
use Rattle.gix_pack_read.specs.MultiIndexLayout.{with_found, IsInIfThere}
use Rattle.gix_pack_read.proofs.multi_index.chunks.at_most_one.Given as goal

abbrev pub invariant-loop-left : goal.invariant-loop-left
invariant-loop-left l = record {
  room : row_len * (l.left + 1) ≤ length l.rest;
  table : ends_at (trailer_place l.bytes) (rows_left l.left l.rest) ≡ true;
  within : IsInIfThere l.bytes l.found;
  same_so_far : at_most_one (named l.name l.bytes) ≡ with_found l.bytes l.found (named_left l.name l.bytes l.left l.rest);
}

abbrev pub decreases-loop-left : goal.decreases-loop-left
decreases-loop-left l = l.left
