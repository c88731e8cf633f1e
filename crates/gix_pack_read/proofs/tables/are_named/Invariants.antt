use Rattle.std.proofs.Common.{◌≡◌, ◌*◌, ◌≤◌, length}
use Rattle.std.specs.List.{list_all}
use Rattle.gix_pack_read.specs.Bytes.{numbers}
use Rattle.gix_pack_read.specs.Rows.{is_named_below}
use Rattle.gix_pack_read.proofs.tables.are_named.Given as goal

abbrev pub invariant-loop-left : goal.invariant-loop-left
invariant-loop-left l = record {
  room : l.left * 4 ≤ length l.rest;
  same : list_all (is_named_below l.wides) (numbers l.n l.offsets) ≡ list_all (is_named_below l.wides) (numbers l.left l.rest);
}

abbrev pub decreases-loop-left : goal.decreases-loop-left
decreases-loop-left l = l.left
