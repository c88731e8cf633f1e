-- A tree after a change, by the tree before it and what the change lays over it. No public clause cites this.
use Rattle.std.specs.Prelude.{◌≡◌, ◌++◌, ℕ, List, Option, Some, None, length, drop, if◌then◌else◌}
use lib.Pointwise.{pointwise}
use Rattle.std.specs.List.{starts_with}
use Rattle.std.specs.Option.{option_map}
use Rattle.std.specs.Result.{result_ok}
use Rattle.odb_base.specs.Path.{Path, same_name}
use Rattle.odb_disk.specs.Tree.{IsTree, Tree, node_at}
use Rattle.odb_disk.specs.Tree.Change.{longer, timed}
use Rattle.odb_disk.specs.Tree.Write.{file_spot}
use Rattle.odb_disk.specs.declared.change.Change.{Change}
use Rattle.odb_disk.specs.declared.change.Change.TheVariants.{PutFile, MakeDir, PutLink, Rename, Append, Remove, SetTime}
use Rattle.odb_disk.specs.declared.node.Content.{Content}
use Rattle.odb_disk.specs.declared.node.Content.TheVariants.{File, Dir, Link}
use Rattle.odb_disk.specs.declared.node.Node.{Node}
use Rattle.gix_odb_watch.specs.declared.over.Over.{Over}
use Rattle.gix_odb_watch.specs.declared.over.Over.TheVariants.{Nothing, At, Moved}

-- what is at a path, by its names alone
abbrev pub content_at : Tree → Path → Option Content
content_at tree path = option_map (λ (node : Node). node.content) (node_at tree path)

-- what lies below one path, below another
abbrev pub moved : (from to path : Path) → Path
moved from to path = to ++ drop (length from) path

-- what is at a path after a change, by what was at each path
abbrev pub laid_over : (Path → Option Content) → Over → Path → Option Content
laid_over before Nothing path = before path
laid_over before (At place content) path = if pointwise same_name path place then content else before path
laid_over before (Moved from to) path =
    if starts_with same_name path to then before (moved to from path) else (if starts_with same_name path from then None else before path)

-- what a change lays over a tree
abbrev pub longer_over : Tree → List ℕ → Option Path → Over
longer_over tree more None = Nothing
longer_over tree more (Some place) = At place (option_map (λ content. longer content more) (content_at tree place))

abbrev pub over_of : Tree → Change → Over
over_of tree (PutFile path time bytes) = At path (Some (File bytes time))
over_of tree (MakeDir path dev) = At path (Some Dir)
over_of tree (PutLink path target) = At path (Some (Link target))
over_of tree (Rename from to) = Moved from to
over_of tree (Append path bytes) = longer_over tree bytes (result_ok (file_spot tree path))
over_of tree (Remove path) = At path None
over_of tree (SetTime path time) = At path (option_map (timed time) (content_at tree path))

-- where what is at a path was before, unless the change put it there
abbrev pub origin_of : Over → Path → Path
origin_of Nothing path = path
origin_of (At place content) path = path
origin_of (Moved from to) path = if starts_with same_name path to then moved to from path else path

-- where a change puts something
abbrev pub place_put : Over → Option Path
place_put Nothing = None
place_put (At place content) = Some place
place_put (Moved from to) = Some to

-- The tree after a change is the one before with this laid over it.
pub record IsLaid (before : Tree) (over : Over) (after : Tree) : Type 0 where
  pub was_tree : IsTree before
  pub is_tree : IsTree after
  pub content : (path : Path) → content_at after path ≡ laid_over (content_at before) over path
