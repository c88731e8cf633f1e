use Rattle.std.proofs.Common.{◌≡◌, ◌≤◌, length}
use Rattle.walkdir.specs.OwnStreams.{AreBack}
use Rattle.list_walk.specs.Asked.{options_of}
use Rattle.list_walk.proofs.WalksLemmas.{Walked}
use Rattle.list_walk.proofs.run.listed.Given as goal

-- the folders before those that are left were walked
abbrev pub invariant-folders : goal.invariant-folders
invariant-folders g l = record {
  state : g.D.Disk.state l.disk ≡ g.D.Disk.state l.initial.disk;
  faults : g.K.Sink.faults l.initial.sink ≤ g.K.Sink.faults l.sink;
  error_faults : g.E.Sink.faults l.initial.errors ≤ g.E.Sink.faults l.errors;
  back : AreBack (g.D.Disk.streams l.initial.disk) (options_of l.choices).max_open (g.D.Disk.streams l.disk);
  walked : Walked l.choices (g.D.Disk.state l.initial.disk)
      (record { streams = g.D.Disk.streams l.initial.disk; disk_faults = g.D.Disk.faults l.initial.disk; held = g.K.Sink.held l.initial.sink; told = g.E.Sink.held l.initial.errors })
      l.initial.rest l.rest
      (record { streams = g.D.Disk.streams l.disk; disk_faults = g.D.Disk.faults l.disk; held = g.K.Sink.held l.sink; told = g.E.Sink.held l.errors })
      l.status;
}

abbrev pub decreases-folders : goal.decreases-folders
decreases-folders g l = length l.rest
