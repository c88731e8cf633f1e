-- A temporary file whose way was cut off: what has become of it.
use Rattle.std.proofs.Common.{◌≡◌, ◌≢◌, ◌⊎◌, ℕ, ◌+◌, ◌<◌, ◌≤◌, true, Some}
use Rattle.std.specs.Prelude.{slice_get}
use Rattle.odb_base.specs.Path.{Path}
use Rattle.odb_disk.specs.Tree.{Tree}
use Rattle.odb_disk.specs.Tree.Way.{SameOnWay}
use Rattle.odb_disk.proofs.OwnWayLaws.{Stops}
use Rattle.gix_odb_loose.proofs.NameLaws.{IsTemporary}
use Rattle.gix_odb_history.specs.Event.{Event}
use Rattle.gix_odb_history.specs.Run.{IsTurnOf, tree_at}
use Rattle.gix_odb_world.specs.Undisturbed.{CutsOff, HasMade, OthersLeave}
use Rattle.gix_odb_world.proofs.LawfulRun.{LawfulRun}
use Rattle.gix_odb_world.proofs.OwnFiles.Standing as files

module _ (run : LawfulRun) where
  open run use {first, events}

  abbrev tree : ℕ → Tree
  tree = tree_at first events

  -- an event leaves a path and its way alone
  abbrev pub Leaves : Path → ℕ → Type 0
  Leaves s now = SameOnWay (tree now) (tree (now + 1)) true s

  -- ---- what has become of a temporary file that was cut off

  -- a file is at a spot, and it is that of no other handle's write
  pub record Stands (handle now : ℕ) (s : Path) : Type 0 where
    pub stops : Stops (tree now) true s s
    pub apart : (other last : ℕ) (twin : Path) → other ≢ handle → HasMade first events other last twin now → (o : files.Own run other last twin now)
        → o.spot ≢ s

  -- the event at a place is a turn of another handle that cut the file off, which was alone until then
  pub record CutAt (handle made : ℕ) (path : Path) (place : ℕ) : Type 0 where
    pub own : files.Own run handle made path place
    pub temporary : IsTemporary own.spot
    pub event : Event
    pub there : slice_get events place ≡ Some event
    pub other : ℕ
    pub apart : other ≢ handle
    pub turn : IsTurnOf other event
    pub cuts : CutsOff (tree place) (tree (place + 1)) path own.spot event

  pub record CutOff (handle made : ℕ) (path : Path) (now : ℕ) : Type 0 where
    pub lost : files.Lost run path now
    pub place : ℕ
    pub later : made < place
    pub before : place < now
    pub cut : CutAt handle made path place
    pub stays : (step : ℕ) → place ≤ step → step < now → OthersLeave first events cut.own.spot (place + 1) (step + 1) → Leaves cut.own.spot step
    pub stands : OthersLeave first events cut.own.spot (place + 1) now → Stands handle now cut.own.spot

  abbrev pub AllKept : ℕ → Type 0
  AllKept now = (handle made : ℕ) (path : Path) → HasMade first events handle made path now → files.Own run handle made path now ⊎ CutOff handle made path now
