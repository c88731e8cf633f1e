use Rattle.std.proofs.Common.{◌≡◌, ◌+◌, ◌≤◌, ◌++◌, length, take}
use Rattle.gix_pack_read.specs.MultiIndex.Held.{holds_names, name_parts}
use Rattle.gix_pack_read.specs.MultiIndexNames.{go_on}
use Rattle.gix_pack_read.proofs.multi_index.names.names_in.Given as goal

abbrev pub invariant-loop-left : goal.invariant-loop-left
invariant-loop-left l = record {
  few : length l.names.items + l.left ≤ l.packs;
  names_so_far : take l.packs (name_parts l.chunk) ≡ l.names.items ++ take l.left (name_parts l.rest);
  same_so_far : holds_names l.packs l.chunk ≡ go_on l.last l.left l.rest;
}

abbrev pub decreases-loop-left : goal.decreases-loop-left
decreases-loop-left l = l.left
