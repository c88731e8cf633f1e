-- The id under which an object is written.
use Rattle.std.specs.Prelude.{◌≡◌, ℕ, List, ◌++◌, Option, Some, None}
use Rattle.gix_hash.specs.Hash.{hash_of, hasher_kind, HasTaken}
use Rattle.gix_hash.specs.declared.kind.Kind.{Kind as HashKind}
use Rattle.gix_hash.specs.declared.object_id.ObjectId.{ObjectId}
use Rattle.gix_object.specs.Loose.{header_of}
use Rattle.gix_odb_loose.specs.declared.naming.Naming.{Naming}
use Rattle.gix_odb_loose.specs.declared.naming.Naming.TheVariants.{Known, Hashing}
use Rattle.gix_odb_loose.specs.declared.write_order.WriteHead.{WriteHead}

-- a known id is taken as it is, else the id is that of header and data
abbrev pub name_for : Option ObjectId → HashKind → WriteHead → List ℕ → ObjectId
name_for (Some id) hash head bytes = id
name_for None hash head bytes = hash_of hash (header_of head.kind head.size ++ bytes)

-- a naming of exactly these data, before it returns an id
abbrev pub Names : Option ObjectId → HashKind → WriteHead → List ℕ → Option Naming → Type 0
Names (Some known) hash head bytes (Some (Known id)) = id ≡ known
Names None hash head bytes (Some (Hashing hasher)) = HasTaken hasher (header_of head.kind head.size ++ bytes) × (hasher_kind hasher ≡ hash)
Names (Some known) hash head bytes (Some (Hashing hasher)) = ⊥
Names None hash head bytes (Some (Known id)) = ⊥
Names (Some known) hash head bytes None = ⊥
Names None hash head bytes None = ⊥
