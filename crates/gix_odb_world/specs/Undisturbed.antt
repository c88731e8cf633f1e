-- Runs in which other programs leave the temporary files of writes alone, and what writes leave alone of one another there.
use Rattle.std.specs.Prelude.{◌≡◌, ◌≢◌, ◌⊎◌, ℕ, ◌+◌, ◌<◌, ◌≤◌, true, List, [], take, slice_get, Some, Ok}
use Rattle.odb_base.specs.Path.{Path}
use Rattle.odb_disk.specs.MemDisk.{Volume}
use Rattle.odb_disk.specs.Tree.{Tree}
use Rattle.odb_disk.specs.Tree.Way.{SameOnWay, crosses}
use Rattle.odb_disk.specs.Tree.Write.{file_spot}
use Rattle.odb_disk.specs.declared.ask.DiskAnswer.TheVariants as answers
use Rattle.odb_disk.specs.declared.ask.DiskAsk.TheVariants as asks
use Rattle.odb_disk.specs.declared.change.Change.{Change}
use Rattle.odb_disk.specs.declared.change.Change.TheVariants.{PutFile, Rename}
use Rattle.gix_odb_loose.specs.WriteOrder.{temp_path}
use Rattle.gix_odb_loose.specs.declared.call.LooseCall.{LooseCall}
use Rattle.gix_odb_calls.specs.declared.step.Step.TheVariants as steps
use Rattle.gix_odb_calls.specs.declared.step.Outcome.TheVariants as outcomes
use Rattle.gix_odb_history.specs.Event.{Event}
use Rattle.gix_odb_world.specs.Status.{IsAtWrite, Running, status_of}
use Rattle.gix_odb_history.specs.Run.{IsTurnOf, tree_at}
use Rattle.gix_odb_history.specs.Writing.{AskedAt, IsRename, LeavesAlone, LeftAlone}

-- ---- undisturbed runs

-- After the first so many events a handle runs a write, which made its temporary file at this path in the event at the
-- place `made`.
pub record HasMade (first : Volume) (events : List Event) (handle made : ℕ) (path : Path) (now : ℕ) : Type 0 where
  pub running : Running
  pub call : LooseCall
  pub at : IsAtWrite (status_of (take now events) handle) running call
  pub later : running.begun ≤ made
  pub before : made < now
  pub number : ℕ
  pub named : path ≡ temp_path running.store.parts.objects number
  pub makes : AskedAt first events handle made (asks.NewFile path) answers.Done

-- a change that another program made
abbrev pub IsOutside : Event → Type 0
IsOutside e = (change : Change) × (e.step ≡ steps.Disk change) × (e.outcome ≡ outcomes.Applied)

-- A run is undisturbed up to a state: no change of another program before it changed what lies on the way of the path of
-- a temporary file, the file included, from the making of that file to the end of its write.
abbrev pub IsUndisturbed : Volume → List Event → (now : ℕ) → Type 0
IsUndisturbed first events now =
    (place : ℕ) (e : Event) → place < now → slice_get events place ≡ Some e → IsOutside e → (handle made : ℕ) (path : Path)
    → HasMade first events handle made path place
    → LeavesAlone first events path place

-- ---- what writes leave alone there

-- A rename replaced a link that a path crosses. The file at s, to which the path led, stays as it was, and the path leads to
-- no file any more.
pub record CutsOff (before after : Tree) (path s : Path) (e : Event) : Type 0 where
  pub from : Path
  pub to : Path
  pub renames : e.entry.change ≡ Some (Rename from to)
  pub link : crosses before path to ≡ true
  pub file : SameOnWay before after true s
  pub gone : (r : Path) → file_spot after path ≢ Ok r

-- What a turn of another handle does to a temporary file, its path and the way to it, where its path leads to it: nothing, except
-- that it may rename onto a link on that way.
abbrev pub IsSpared : Volume → List Event → Type 0
IsSpared first events =
    (place : ℕ) (e : Event) (other handle made : ℕ) (path s : Path) → IsUndisturbed first events place → slice_get events place ≡ Some e
    → IsTurnOf other e → other ≢ handle
    → HasMade first events handle made path place → file_spot (tree_at first events place) path ≡ Ok s
    → LeavesAlone first events path place ⊎ CutsOff (tree_at first events place) (tree_at first events (place + 1)) path s e

-- its path leads to the file that the write made, and no step but the write's own turns touched that file, its path or the way
-- to it since
pub record StandsAlone (first : Volume) (events : List Event) (handle made : ℕ) (path : Path) (now : ℕ) : Type 0 where
  pub spot : Path
  pub put : (e : Event) → slice_get events made ≡ Some e → e.entry.change ≡ Some (PutFile spot 0 [])
  pub leads : file_spot (tree_at first events now) path ≡ Ok spot
  pub alone : LeftAlone first events handle path (made + 1) now

-- from one place of a run to another, no change of another program changed what lies on the way of a path, the file that it
-- leads to included
abbrev pub OthersLeave : Volume → List Event → Path → (from to : ℕ) → Type 0
OthersLeave first events path from to =
    (place : ℕ) (e : Event) → from ≤ place → place < to → slice_get events place ≡ Some e → IsOutside e → LeavesAlone first events path place

-- A file was alone until a turn of another handle cut its path off, which leads to no file since. As long as other programs
-- leave the file at its spot and the way to it alone, every event does.
pub record IsCutOff (first : Volume) (events : List Event) (handle made : ℕ) (path : Path) (now : ℕ) : Type 0 where
  pub place : ℕ
  pub later : made < place
  pub before : place < now
  pub stood : StandsAlone first events handle made path place
  pub event : Event
  pub there : slice_get events place ≡ Some event
  pub other : ℕ
  pub apart : other ≢ handle
  pub turn : IsTurnOf other event
  pub cuts : CutsOff (tree_at first events place) (tree_at first events (place + 1)) path stood.spot event
  pub gone : (r : Path) → file_spot (tree_at first events now) path ≢ Ok r
  pub stays : (step : ℕ) → place ≤ step → step < now → OthersLeave first events stood.spot (place + 1) (step + 1)
      → LeavesAlone first events stood.spot step

-- so a temporary file is as its write left it, or was cut off
abbrev pub IsKept : Volume → List Event → Type 0
IsKept first events =
    (handle made now : ℕ) (path : Path) → IsUndisturbed first events now → HasMade first events handle made path now
    → StandsAlone first events handle made path now ⊎ IsCutOff first events handle made path now

-- a write that renames has had its file to itself
abbrev pub IsAloneAtRename : Volume → List Event → Type 0
IsAloneAtRename first events =
    (place : ℕ) (e : Event) (handle made : ℕ) (path : Path) → IsUndisturbed first events place → slice_get events place ≡ Some e
    → IsTurnOf handle e → IsRename e.entry.change
    → HasMade first events handle made path place → LeftAlone first events handle path (made + 1) place

-- two writes that run at one moment have two files
abbrev pub AreApart : Volume → List Event → Type 0
AreApart first events =
    (handle other made last now : ℕ) (path twin s r : Path) → IsUndisturbed first events now → handle ≢ other
    → HasMade first events handle made path now → HasMade first events other last twin now
    → file_spot (tree_at first events now) path ≡ Ok s → file_spot (tree_at first events now) twin ≡ Ok r → s ≢ r

-- What holds of the writes of an undisturbed run: none changes the temporary file of another, its path or the way to it, except
-- that a rename may replace a link on that way.
pub record WritesStandAlone (first : Volume) (events : List Event) : Type 0 where
  pub spared : IsSpared first events
  pub kept : IsKept first events
  pub renamed : IsAloneAtRename first events
  pub apart : AreApart first events
