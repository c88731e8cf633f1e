-- What a write leaves where the disk reports its states: the object's path reads as the header and the data.
use Rattle.std.specs.Prelude.{◌≡◌, ℕ, false, List, ◌++◌, Option, Some, Ok}
use Rattle.odb_base.specs.Path.{Path}
use Rattle.odb_disk.specs.Tree.{State, tree_of}
use Rattle.odb_disk.specs.Tree.Follow.{read_of}
use Rattle.odb_disk.specs.Tree.Way.{crosses}
use Rattle.odb_disk.specs.Tree.Write.{written, change_of_rename}
use Rattle.odb_disk.specs.declared.change.Change.TheVariants.{Rename}
use Rattle.gix_hash.specs.declared.object_id.ObjectId.{ObjectId}
use Rattle.gix_object.specs.Loose.{header_of}
use Rattle.gix_odb_loose.specs.LooseFile.{loose_path}
use Rattle.gix_odb_loose.specs.WriteOrder.{temp_path}
use Rattle.gix_odb_loose.specs.declared.write_order.WriteHead.{WriteHead}

-- The last change of a write moves the temporary file to the object's path. Then this path reads as the header and the data,
-- unless a link on the way of the path was replaced.
pub record ReadsBack (head : WriteHead) (number : ℕ) (id : ObjectId) (bytes : List ℕ) (before left : Option State) : Type 0 where
  -- the state at the rename, which the calls before it left
  pub state : State
  pub reached : before ≡ Some state
  pub source : Path
  pub target : Path
  pub renames : change_of_rename (tree_of state) (temp_path head.objects number) (loose_path head.objects id) ≡ Ok (Rename source target)
  pub leaves : left ≡ Some (written state (Some (Rename source target)))
  pub reads : crosses (tree_of state) (loose_path head.objects id) target ≡ false
      → read_of (tree_of (written state (Some (Rename source target)))) (loose_path head.objects id) ≡ Ok (header_of head.kind head.size ++ bytes, 0)
