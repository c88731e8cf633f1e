-- The steps of a listing. No public clause cites this.
use Rattle.std.specs.Prelude.{◌≡◌, true, List, ◌++◌, IsSome}
use Rattle.std.specs.declared.cmp.Ordering.TheVariants.{Less}
use Rattle.std.specs.declared.ops.Bound.TheVariants.{Excluded, Unbounded}
use Rattle.std.specs.BTreeMap.Range.{entries_between}
use Rattle.std.specs.List.{filter_map, starts_with}
use Rattle.odb_base.specs.Path.{Path, path_cmp, same_name}
use Rattle.odb_disk.specs.Tree.{Tree, node_at}
use Rattle.odb_disk.specs.Tree.Nodes.{entries_of}
use Rattle.odb_disk.specs.Entries.{entry_in}
use Rattle.odb_disk.specs.declared.entry.Entry.{Entry}

-- the entries of a directory whose paths are after another one
abbrev pub entries_after : Tree → Path → Path → List Entry
entries_after tree directory last = filter_map (entry_in directory) (entries_between path_cmp (Excluded last) Unbounded (entries_of tree))

-- A listing went on from one path to that of a node below the directory, whose entry is the last one listed.
pub record GoesTo (tree : Tree) (directory from to : Path) (old new : List Entry) : Type 0 where
  pub listed : new ++ entries_after tree directory to ≡ old ++ entries_after tree directory from
  pub below : starts_with same_name to directory ≡ true
  pub behind : path_cmp from to ≡ Less
  pub stands : IsSome (node_at tree to)
