-- What the steps of following a path answer. No public clause cites this.
use Rattle.std.specs.Prelude.{◌≡◌, false, IsSome, Result, Ok, Err, Option, Some, None}
use Rattle.std.specs.Borrow.{Bor}
use Rattle.std.specs.Ordering.{is_lt}
use Rattle.std.specs.declared.cmp.Ordering.TheVariants.{Less}
use Rattle.odb_base.specs.Path.{Path, path_cmp}
use Rattle.odb_disk.specs.Tree.{Tree, node_at}
use Rattle.odb_disk.specs.Tree.Follow.{Pass, Onward, Missing, Blocked, Place, Refusal, Absent, WrongKind, LinkLoop}
use Rattle.odb_disk.specs.declared.change.Impossible.{Impossible}
use Rattle.odb_disk.specs.declared.change.Impossible.TheVariants as impossible
use Rattle.odb_disk.specs.declared.node.Node.{Node}
use Rattle.odb_disk.specs.declared.disk_error.DiskError.{DiskError}
use Rattle.odb_disk.specs.declared.disk_error.DiskError.TheVariants as errors

-- the error that ends a pass, unless memory ran out
abbrev pub Ends : DiskError → Pass → Type 0
Ends errors.Absent told = told ≡ Missing
Ends errors.WrongKind told = told ≡ Blocked
Ends errors.LinkLoop told = ⊥
Ends errors.Exists told = ⊥
Ends errors.NotEmpty told = ⊥
Ends errors.Failed told = ⊥
Ends errors.NoMemory told = Unit {0}

-- a pass ends at a link that leads on
abbrev pub ComesOnward : Result Path DiskError → Pass → Type 0
ComesOnward (Ok onward) told = told ≡ Onward onward
ComesOnward (Err error) told = Ends error told

abbrev pub node_of_place : Result Place Refusal → Result Node Refusal
node_of_place (Ok place) = Ok place.node
node_of_place (Err refusal) = Err refusal

-- the node that a path leads to, or why it leads to none, unless memory ran out
abbrev pub Leads : Result (Bor Node) DiskError → Result Place Refusal → Type 0
Leads (Ok node) told = node_of_place told ≡ Ok node.now
Leads (Err errors.Absent) told = told ≡ Err Absent
Leads (Err errors.WrongKind) told = told ≡ Err WrongKind
Leads (Err errors.LinkLoop) told = told ≡ Err LinkLoop
Leads (Err errors.Exists) told = ⊥
Leads (Err errors.NotEmpty) told = ⊥
Leads (Err errors.Failed) told = ⊥
Leads (Err errors.NoMemory) told = Unit {0}

-- the last path with a node that is before another path, if there is one
abbrev pub IsLastBefore : Tree → Path → Option Path → Type 0
IsLastBefore tree path None = (q : Path) → path_cmp q path ≡ Less → node_at tree q ≡ None
IsLastBefore tree path (Some last) =
    (path_cmp last path ≡ Less) × IsSome (node_at tree last) × ((q : Path) → path_cmp q path ≡ Less → IsSome (node_at tree q) → is_lt (path_cmp last q) ≡ false)

-- the path that a path leads to
abbrev pub path_of_place : Result Place Refusal → Result Path Refusal
path_of_place (Ok place) = Ok place.path
path_of_place (Err refusal) = Err refusal

-- why a change isn't made, by the error of a call that follows its path
abbrev pub impossible_by : DiskError → Impossible
impossible_by errors.NoMemory = impossible.NoMemory
impossible_by error = impossible.Impossible
