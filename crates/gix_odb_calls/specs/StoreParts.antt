-- The one record of a store: what it is made of when it is opened, and its folders.
use Rattle.std.specs.Prelude.{List, ◌∷◌}
use Rattle.std.specs.FinMap.{from_entries}
use Rattle.odb_base.specs.Path.{Path}
use Rattle.gix_hash.specs.declared.kind.Kind.{Kind as HashKind}
use Rattle.gix_hash.specs.declared.object_id.ObjectId.{ObjectId}
use Rattle.gix_odb_calls.specs.declared.init.Options.{Options}
use Rattle.gix_odb_calls.specs.declared.store_parts.StoreParts.{StoreParts}

-- the parts of a store that is opened with these; of pairs with the same first id the first stands
abbrev pub parts_of_store : (objects : Path) → (folders : List Path) → HashKind → (replacements : List (ObjectId × ObjectId)) → Options → StoreParts
parts_of_store objects folders hash replacements options = record {
  objects = objects;
  folders = folders;
  object_hash = hash;
  replacements = from_entries replacements;
  use_multi_pack_index = options.use_multi_pack_index;
  alloc_limit_bytes = options.alloc_limit_bytes;
  slots = options.slots;
}

-- the folders of a store, the objects directory first
abbrev pub folder_list : StoreParts → List Path
folder_list store = store.objects ∷ store.folders
