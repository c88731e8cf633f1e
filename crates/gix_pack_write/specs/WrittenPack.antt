-- What the encoder of packs writes: version 2, the objects in the order given, the shortest headers.
use Rattle.std.specs.Prelude.{ℕ, zero, suc, ◌+◌, ◌*◌, ◌/◌, ◌%◌, List, [], ◌∷◌, ◌++◌, length, map, codes, nat_lt, if◌then◌else◌}
use Rattle.std.specs.List.{flat_map, zip}
use Rattle.std.specs.Int.{w32, to_be_bytes}
use Rattle.gix_hash.specs.Hash.{hash_of}
use Rattle.gix_hash.specs.ObjectId.{bytes_of}
use Rattle.gix_hash.specs.declared.kind.Kind.{Kind as HashKind}
use Rattle.gix_hash.specs.declared.object_id.ObjectId.{ObjectId}
use Rattle.gix_object.specs.Data.{Object}
use Rattle.gix_object.specs.Id.{object_id}
use Rattle.gix_object.specs.declared.kind.Kind.{Kind}
use Rattle.gix_object.specs.declared.kind.Kind.TheVariants.{Commit, Tree, Blob, Tag}
use Rattle.gix_pack_write.specs.declared.object.Object as given
use Rattle.gix_pack_read.specs.Pack.{entries_place, most_size_bytes}
use Rattle.gix_pack_read.specs.Rows.{Row}

-- an object that is given
abbrev pub object_seen : given.Object → Object
object_seen object = record { kind = object.kind; bytes = object.bytes }

-- the type code of a kind
abbrev pub code_of_kind : Kind → ℕ
code_of_kind Commit = 1
code_of_kind Tree = 2
code_of_kind Blob = 3
code_of_kind Tag = 4

-- a number as bytes of seven bits, the lowest first, in as few bytes as it needs, and at most `most`
unfoldable pub size_bytes : ℕ → ℕ → List ℕ
size_bytes zero number = []
size_bytes (suc most) number = if nat_lt number 128 then number ∷ [] else (128 + number % 128) ∷ size_bytes most (number / 128)

-- the shortest header of a type and a size below 2^64
unfoldable pub header_of : ℕ → ℕ → List ℕ
header_of code size = if nat_lt size 16 then (16 * code + size) ∷ [] else (128 + 16 * code + size % 16) ∷ size_bytes most_size_bytes (size / 16)

-- the entry of an object
abbrev pub entry_of : Object → List ℕ
entry_of object = header_of (code_of_kind object.kind) (length object.bytes) ++ object.bytes

-- a pack without its trailing hash
unfoldable pub pack_front : List Object → List ℕ
pack_front objects = codes "PACK" ++ to_be_bytes w32 2 ++ to_be_bytes w32 (length objects) ++ flat_map entry_of objects

-- the trailing hash of a pack
abbrev pub pack_hash : HashKind → List Object → List ℕ
pack_hash hash objects = bytes_of (hash_of hash (pack_front objects))

-- the pack of some objects
unfoldable pub pack_of : HashKind → List Object → List ℕ
pack_of hash objects = pack_front objects ++ pack_hash hash objects

-- the offsets of the entries, the first of which is at this one
unfoldable pub places_from : ℕ → List Object → List ℕ
places_from place [] = []
places_from place (object ∷ objects) = place ∷ places_from (place + length (entry_of object)) objects

abbrev pub id_of_object : HashKind → Object → ObjectId
id_of_object hash object = object_id hash object.kind object.bytes

abbrev pub row_of : ObjectId × ℕ → Row
row_of pair = record { id = pair.0; offset = pair.1 }

-- the id and the offset of each object, in their order
unfoldable pub rows_in_order : HashKind → List Object → List Row
rows_in_order hash objects = map row_of (zip (map (id_of_object hash) objects) (places_from entries_place objects))
