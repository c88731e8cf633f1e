use Rattle.std.proofs.Common.{◌≡◌, ◌≤◌, true}
use Rattle.std.specs.String.{string_bytes}
use Rattle.walkdir.specs.Progress.{has_its_streams, work_left}
use Rattle.list_walk.specs.Lines.{Leaves}
use Rattle.list_walk.proofs.WrittenLemmas.{SoFar}
use Rattle.list_walk.proofs.run.written.Given as goal

-- the lines of the items so far are written or gathered, and the disk is as it was
abbrev pub invariant-items : goal.invariant-items
invariant-items g l = record {
  own : has_its_streams (g.W.Steps.progress l.walk.walk (g.D.Disk.streams l.walk.disk.now)) ≡ true;
  state : g.D.Disk.state l.walk.disk.now ≡ g.D.Disk.state l.initial.walk.disk.now;
  name : l.walk.disk.ghost_name ≡ l.initial.walk.disk.ghost_name;
  faults : g.K.Sink.faults l.initial.sink ≤ g.K.Sink.faults l.sink;
  error_faults : g.E.Sink.faults l.initial.errors ≤ g.E.Sink.faults l.errors;
  nul : l.lines.nul ≡ l.nul;
  leaves : Leaves (g.W.Steps.progress l.initial.walk.walk (g.D.Disk.streams l.initial.walk.disk.now)) (g.W.Steps.progress l.walk.walk (g.D.Disk.streams l.walk.disk.now));
  so_far : SoFar l.nul (g.D.Disk.state l.initial.walk.disk.now) (g.W.Steps.progress l.initial.walk.walk (g.D.Disk.streams l.initial.walk.disk.now))
      (g.W.Steps.progress l.walk.walk (g.D.Disk.streams l.walk.disk.now))
      (g.D.Disk.faults l.initial.walk.disk.now) (g.D.Disk.faults l.walk.disk.now) (g.K.Sink.held l.initial.sink) (g.K.Sink.held l.sink) (g.E.Sink.held l.initial.errors)
      (g.E.Sink.held l.errors) (string_bytes l.lines.text) l.status;
}

abbrev pub decreases-items : goal.decreases-items
decreases-items g l = work_left (g.W.Steps.progress l.walk.walk (g.D.Disk.streams l.walk.disk.now))
