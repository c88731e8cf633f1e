use Rattle.std.proofs.Common.{◌≡◌, ◌*◌, ◌≤◌, length}
use Rattle.gix_hash.specs.Kind.{len_in_bytes_of}
use Rattle.gix_pack_read.specs.Rows.{ids_of, is_rising}
use Rattle.gix_pack_read.proofs.tables.is_rising.Given as goal

abbrev pub invariant-loop-left : goal.invariant-loop-left
invariant-loop-left l = record {
  size_is : l.size ≡ len_in_bytes_of l.fn.kind;
  room : l.left * len_in_bytes_of l.fn.kind ≤ length l.rest;
  same : is_rising (ids_of l.fn.kind l.n l.ids) ≡ is_rising (ids_of l.fn.kind l.left l.rest);
}

abbrev pub decreases-loop-left : goal.decreases-loop-left
decreases-loop-left l = l.left
