-- The result of a pass along a path in a tree in memory. No public clause cites this.
use Rattle.std.specs.Prelude.{◌≡◌, Option, Some, None, Result, Ok, Err}
use Rattle.odb_base.specs.Path.{Path}
use Rattle.odb_disk.specs.Tree.Follow.{Pass, Reached, Onward, Missing, Blocked}
use Rattle.odb_disk.specs.declared.disk_error.DiskError.{DiskError}
use Rattle.odb_mem_disk.specs.declared.tree.follow.Way.{Way}
use Rattle.odb_mem_disk.specs.declared.tree.follow.Way.TheVariants as ways
use Rattle.odb_disk.specs.TreeCalls.{Ends}

-- a pass along a path ends at the node there, or at a link that leads on
abbrev pub Comes : Path → Result Way DiskError → Pass → Type 0
Comes path (Ok (ways.Reached node)) told = told ≡ Reached path node.now
Comes path (Ok (ways.Onward onward)) told = told ≡ Onward onward
Comes path (Err error) told = Ends error told

-- the path that a pass is led on to, if it is
abbrev pub onward_of : Pass → Option Path
onward_of (Reached path node) = None
onward_of (Onward path) = Some path
onward_of Missing = None
onward_of Blocked = None
