-- Runs in whose files all objects hash to their ids.
use Rattle.std.specs.Prelude.{◌≡◌, ℕ, List, Contains}
use Rattle.odb_base.specs.Path.{Path}
use Rattle.odb_disk.specs.Tree.{Tree}
use Rattle.gix_hash.specs.ObjectId.{kind_of}
use Rattle.gix_hash.specs.declared.object_id.ObjectId.{ObjectId}
use Rattle.gix_object.specs.Id.{object_id}
use Rattle.gix_object.specs.declared.kind.Kind.{Kind}
use Rattle.gix_object.specs.declared.want.Want.TheVariants as wants
use Rattle.gix_odb.specs.Contents.{Contents, Holds, Object, folder_list}
use Rattle.gix_odb.specs.Held.{WasShown}
use Rattle.gix_odb_calls.specs.declared.query.Query.{Query}
use Rattle.gix_odb_world.specs.AtWork.{Store}

-- a find of an id
abbrev pub find_of : ObjectId → Query
find_of id = record { want = wants.Object; of = id }

-- Each object that a loose file, an index and the pack of the same name, or a multi-pack index and a pack that it names, of a folder of a store held for
-- its id, as they were shown at moments from the opening of the store up to one, has data that hash to that id.
abbrev pub ObjectsHash : (trees : ℕ → Tree) → (now : ℕ) → Store → Type 0
ObjectsHash trees now store =
    (id : ObjectId) (folder : Path) → Contains (folder_list store.parts) folder → (contents : Contents)
    → WasShown trees store.opened store.opened now folder id contents
    → (kind : Kind) (bytes : List ℕ) → Holds store.parts wants.Object id contents (Object kind bytes) → object_id (kind_of id) kind bytes ≡ id
