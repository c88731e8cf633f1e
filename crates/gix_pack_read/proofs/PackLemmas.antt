-- Packs: what follows from their header and their length.
use Rattle.std.proofs.Common.{◌≡◌, ℕ, ◌+◌, ◌≤◌, true, List, length}
use Rattle.std.proofs.lemmas.Bool.{and_parts, leb-true}
use Rattle.gix_hash.specs.Kind.{len_in_bytes_of}
use Rattle.gix_hash.specs.declared.kind.Kind.{Kind}
use Rattle.gix_pack_read.specs.Pack.{entries_place, is_pack}

-- a pack has room for its header and its trailing hash
pub has_room : (kind : Kind) (bytes : List ℕ) → is_pack kind bytes ≡ true → entries_place + len_in_bytes_of kind ≤ length bytes
unfolding is_pack
has_room kind bytes h = leb-true _ _ (and_parts _ _ (and_parts _ _ h).0).1
