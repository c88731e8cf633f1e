-- The parts of a store of loose objects: its directory, the hash of its ids, and the size limit of finds.
use Rattle.std.specs.Prelude.{ℕ, Option}
use Rattle.odb_base.specs.Path.{Path}
use Rattle.gix_hash.specs.declared.kind.Kind.{Kind}
use Rattle.gix_odb_loose.specs.declared.store.Store.{Store}

-- the objects directory
abbrev pub store_path : Store → Path
store_path store = store.path

-- the hash of its ids
abbrev pub store_hash : Store → Kind
store_hash store = store.object_hash

-- the largest size in bytes of an object's data that a find allows, if there is a limit
abbrev pub store_limit : Store → Option ℕ
store_limit store = store.options.alloc_limit_bytes
