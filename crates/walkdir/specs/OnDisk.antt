-- A walk on the disk that it borrows, by the meanings of the disk and of the walk's own state.
use Rattle.std.specs.Prelude.{◌≡◌, ℕ, true, Option, None}
use Rattle.odb_disk.specs.Streams.{Streams}
use Rattle.odb_disk.specs.Tree.{State}
use Rattle.odb_disk.specs.declared.ask.DiskAsk.{DiskAsk}
use Rattle.odb_disk.specs.declared.ask.DiskAnswer.{DiskAnswer}
use Rattle.walkdir.specs.Answered.{TellsOn}
use Rattle.walkdir.specs.Failures.{failures_given}
use Rattle.walkdir.specs.Progress.{Progress, FailsByFault, Steps, has_its_streams}
use Rattle.walkdir.specs.Skips.{Skips}
use Rattle.walkdir.specs.Walk.{Item}
use Rattle.walkdir.specs.declared.iter.OnDisk.{OnDisk}

module _ {D W : Type 0} (state : D → Option State) (streams : D → Streams) (faults : D → ℕ) (answered : D → DiskAsk → DiskAnswer → D → Type 0)
    (progress : W → Streams → Progress) where
  -- how far it is
  abbrev pub at_walk : OnDisk D W → Progress
  at_walk s = progress s.walk (streams s.disk.now)

  -- what `next` gives there
  abbrev pub NextOn : OnDisk D W → Option Item → OnDisk D W → Type 0
  NextOn s item t = (has_its_streams (at_walk t) ≡ true) × Steps (state s.disk.now) (at_walk s) item (at_walk t)
      × FailsByFault (at_walk s) (faults s.disk.now) (failures_given item) (at_walk t) (faults t.disk.now) × (state t.disk.now ≡ state s.disk.now)
      × (t.disk.ghost_name ≡ s.disk.ghost_name)
      × TellsOn answered s.disk.now (at_walk s).stack item t.disk.now (at_walk t).stack

  -- what a skip leaves there
  abbrev pub SkipsOn : OnDisk D W → OnDisk D W → Type 0
  SkipsOn s t = Skips (at_walk s) (at_walk t) × (state t.disk.now ≡ state s.disk.now) × (faults t.disk.now ≡ faults s.disk.now)
      × (t.disk.ghost_name ≡ s.disk.ghost_name)
      × TellsOn answered s.disk.now (at_walk s).stack None t.disk.now (at_walk t).stack
