-- An object that moves from a loose file into a pack while a query works, and a store whose list was read.
use Rattle.std.specs.Prelude.{◌≡◌, ℕ, ◌≤◌, true, List, Contains, take}
use Rattle.odb_base.specs.Path.{Name, Path}
use Rattle.odb_disk.specs.Tree.{Tree}
use Rattle.gix_hash.specs.declared.object_id.ObjectId.{ObjectId}
use Rattle.gix_object.specs.declared.want.Want.{Want}
use Rattle.gix_odb_core.specs.History.{present}
use Rattle.gix_odb.specs.Contents.{folder_list}
use Rattle.gix_odb_calls.specs.declared.store_parts.StoreParts.{StoreParts}
use Rattle.gix_odb.specs.Held.{InLooseFile, InPackFile, LiesAt}
use Rattle.gix_odb.specs.Moments.{Throughout}
use Rattle.gix_odb_history.specs.Cores.{cores_after, history_at}
use Rattle.gix_odb_history.specs.Event.{Event}

-- In one folder of a store, at each moment from `begun` to some moment the object of an id is in its loose file, and at each from that one to `now`
-- it is in a pack by the index of one name, at one offset, each time in contents that are sound for what is wanted.
pub record HasMoved (trees : ℕ → Tree) (store : StoreParts) (begun now : ℕ) (want : Want) (id : ObjectId) : Type 0 where
  pub folder : Path
  pub among : Contains (folder_list store) folder
  pub moment : ℕ
  pub from : begun ≤ moment
  pub to : moment ≤ now
  pub loose : Throughout begun moment (λ at. LiesAt store want (trees at) folder id InLooseFile)
  pub name : Name
  pub offset : ℕ
  pub packed : Throughout moment now (λ at. LiesAt store want (trees at) folder id (InPackFile name offset))

-- The core of a number had published a list by the event that has a number: its list was read.
abbrev pub HadPublished : List Event → (core number : ℕ) → Type 0
HadPublished events core number = (present (history_at (cores_after (take number events)) core)).read ≡ true
