-- What is read back of a pack that was written: its numbers, and each object at its offset.
use Rattle.std.specs.Prelude.{◌≡◌, ℕ, ◌+◌, List, length, true, None, Ok}
use Rattle.std.specs.List.{flat_map, zip, AllByRecursion}
use Rattle.gix_hash.specs.declared.kind.Kind.{Kind as HashKind}
use Rattle.gix_object.specs.Data.{Object}
use Rattle.gix_pack_write.specs.WrittenPack.{code_of_kind, entry_of, header_of, pack_of, places_from}
use Rattle.gix_pack_read.specs.Bytes.{trailer_place}
use Rattle.gix_pack_read.specs.Pack.{entries_place, is_pack, objects_in, version_in, entry_at, Entry}

-- the entry that is read for an object
abbrev pub read_entry : Object → Entry
read_entry object =
    let header = header_of (code_of_kind object.kind) (length object.bytes) in
    record { kind = object.kind; size = length object.bytes; header_len = length header; bytes = object.bytes }

-- the entry of an object is read at the object's offset in the bytes of a pack
abbrev pub IsReadAt : HashKind → List ℕ → Object × ℕ → Type 0
IsReadAt hash bytes object = entry_at hash bytes object.1 None ≡ Ok (read_entry object.0)

-- the bytes are read as a pack of version 2 that has these objects, each at its offset, and no other entries
pub record ReadsPack (hash : HashKind) (objects : List Object) (bytes : List ℕ) : Type 0 where
  pub pack : is_pack hash bytes ≡ true
  pub version : version_in bytes ≡ 2
  pub count : objects_in bytes ≡ length objects
  pub entries : AllByRecursion (IsReadAt hash bytes) (zip objects (places_from entries_place objects))
  pub filled : entries_place + length (flat_map entry_of objects) ≡ trailer_place hash bytes

-- the bytes are the pack of these objects, and are read as such
pub record IsPackOf (hash : HashKind) (objects : List Object) (bytes : List ℕ) : Type 0 where
  pub bytes_are : bytes ≡ pack_of hash objects
  pub read : ReadsPack hash objects bytes
