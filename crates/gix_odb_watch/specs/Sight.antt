-- Where a path leads in a tree, and what a directory has. No public clause cites this.
use Rattle.std.specs.Prelude.{◌≡◌, ◌⊎◌, ◌++◌, true, List, [], ◌∷◌, map, Option, Some, None, Result, Ok, Err}
use Rattle.std.specs.Option.{option_to_list}
use Rattle.odb_base.specs.Path.{Name, Path, parent_of}
use Rattle.odb_disk.specs.Tree.{Tree, node_at}
use Rattle.odb_disk.specs.Tree.Follow.{Pass, Reached, Missing, Blocked, Place, Refusal, followed}
use Rattle.odb_disk.specs.Tree.Follow as following
use Rattle.odb_disk.specs.declared.node.Content.TheVariants.{Dir}
use Rattle.odb_disk.specs.declared.node.Node.{Node}
use Rattle.gix_odb_watch.specs.Kept.{IsIn}
use Rattle.gix_odb_watch.specs.Over.{moved}
use Rattle.gix_odb_watch.specs.declared.sight.End.{End}
use Rattle.gix_odb_watch.specs.declared.sight.End.TheVariants.{At, Onward, Nowhere}
use Rattle.gix_odb_watch.specs.declared.sight.Found.{Found}

-- a pass along a path ends there
abbrev pub IsEnd : Path → End → Pass → Type 0
IsEnd path (At content) told = (node : Node) × (told ≡ Reached path node) × (node.content ≡ content.now)
IsEnd path (Onward onward) told = told ≡ following.Onward onward
IsEnd path Nowhere told = (told ≡ Missing) ⊎ (told ≡ Blocked)

-- this is found where a path leads
abbrev pub IsFound : Result Place Refusal → Option Found → Type 0
IsFound told None = (refusal : Refusal) × (told ≡ Err refusal)
IsFound told (Some found) = (node : Node) × (told ≡ Ok (record { path = found.place; node = node })) × (node.content ≡ found.content.now)

-- ---- what a directory has

-- the path in a directory that has the last name of what a change puts
abbrev pub put_path : (directory : Path) → Option Path → List Path
put_path directory None = []
put_path directory (Some place) = map (λ (front : Path). moved front directory place) (option_to_list (parent_of place))

-- a path leads to a directory that has a name
pub record HasName (t : Tree) (name : Name) (told : Result Place Refusal) : Type 0 where
  pub place : Place
  pub leads : told ≡ Ok place
  pub directory : place.node.content ≡ Dir
  pub node : Node
  pub stands : node_at t (place.path ++ name ∷ []) ≡ Some node

-- These are paths of a directory, and among them all at which there is something.
pub record ArePathsIn (tree : Tree) (directory : Path) (paths : List Path) : Type 0 where
  pub whole : (name : Name) → HasName tree name (followed tree true directory) → IsIn paths (directory ++ name ∷ [])
  pub only : (path : Path) → IsIn paths path → (name : Name) × (path ≡ directory ++ name ∷ [])
