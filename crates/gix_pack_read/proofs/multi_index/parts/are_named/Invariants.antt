use Rattle.std.proofs.Common.{◌≡◌, ◌*◌, ◌≤◌, length}
use Rattle.std.specs.List.{list_all}
use Rattle.gix_pack_read.specs.Bytes.{table}
use Rattle.gix_pack_read.specs.MultiIndexLayout.{is_row}
use Rattle.gix_pack_read.proofs.multi_index.parts.are_named.Given as goal

abbrev pub invariant-loop-left : goal.invariant-loop-left
invariant-loop-left l = record {
  room : l.left * 8 ≤ length l.rest;
  same_so_far : list_all (is_row l.packs l.wides) (table 8 l.n l.rows) ≡ list_all (is_row l.packs l.wides) (table 8 l.left l.rest);
}

abbrev pub decreases-loop-left : goal.decreases-loop-left
decreases-loop-left l = l.left
