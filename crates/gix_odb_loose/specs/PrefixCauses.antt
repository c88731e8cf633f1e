-- Why a look-up of a prefix is refused: each error of a walk, and what was seen where it is returned.
use Rattle.std.specs.Prelude.{◌≡◌, ◌≢◌, ◌⊎◌, true, false, Option, Some, None, Err, IfSome}
use Rattle.odb_base.specs.Path.{Path}
use Rattle.odb_disk.specs.Ask.{error_of}
use Rattle.odb_disk.specs.Tree.{Tree, State, tree_of}
use Rattle.odb_disk.specs.Tree.Follow.{Refusal, Absent, looked}
use Rattle.odb_disk.specs.declared.disk_error.DiskError.{DiskError}
use Rattle.odb_disk.specs.declared.disk_error.DiskError.TheVariants as disk_errors
use Rattle.gix_hash.specs.ObjectId.{IsId}
use Rattle.gix_hash.specs.Prefix.{HasPrefix, PrefixOf}
use Rattle.gix_hash.specs.declared.object_id.ObjectId.{ObjectId}
use Rattle.gix_odb_loose.specs.LooseFile.{loose_path}
use Rattle.gix_odb_loose.specs.WriteOrder.{prefix_path}
use Rattle.walkdir.specs.declared.error.Error.{Error}
use Rattle.walkdir.specs.declared.error.ErrorInner.{ErrorInner}
use Rattle.walkdir.specs.declared.error.ErrorInner.TheVariants.{Io, Loop, NoMemory}

-- A stat of the directory is refused in the tree for this reason: on its way is something of the wrong kind or a link loop, or it is a
-- link loop itself.
pub record IsRefused (folder : Path) (tree : Tree) (error : DiskError) : Type 0 where
  pub refusal : Refusal
  pub error_is : error ≡ error_of refusal
  pub there : refusal ≢ Absent
  pub shown : (looked tree folder false ≡ Err refusal) ⊎ (looked tree folder true ≡ Err refusal)

-- a path is that of the directory, or of the file of an object with the prefix
abbrev pub IsAsked : (objects : Path) → PrefixOf → (path : Path) → Type 0
IsAsked objects prefix path = (path ≡ prefix_path objects prefix.id) ⊎ ((id : ObjectId) × IsId id × HasPrefix prefix id × (path ≡ loose_path objects id))

-- The cause of each error, which has the path of the call that was refused. `Failed`: a call of the disk failed. `Wanting`: memory ran out.
abbrev pub CauseIn : (objects : Path) → PrefixOf → Option State → (Failed Wanting : Type 0) → ErrorInner → Type 0
CauseIn objects prefix state Failed Wanting (Io (Some path) disk_errors.Failed) = Failed × IsAsked objects prefix path
CauseIn objects prefix state Failed Wanting (Io (Some path) error) =
    (path ≡ prefix_path objects prefix.id) × IfSome state (λ s. IsRefused (prefix_path objects prefix.id) (tree_of s) error)
CauseIn objects prefix state Failed Wanting (Io None error) = ⊥
CauseIn objects prefix state Failed Wanting (Loop ancestor child) = ⊥
CauseIn objects prefix state Failed Wanting NoMemory = Wanting

abbrev pub PrefixCause : (objects : Path) → PrefixOf → Option State → (Failed Wanting : Type 0) → Error → Type 0
PrefixCause objects prefix state Failed Wanting error = CauseIn objects prefix state Failed Wanting error.inner
