-- The directories that are not left yet have their streams, which are still the walk's own.
use Rattle.std.proofs.Common.{◌≡◌, None, false, length}
use Rattle.odb_disk.specs.CallsMade.{Leads}
use Rattle.odb_disk.specs.Streams.{Streams}
use Rattle.walkdir.specs.Progress.{Keeps}
use Rattle.walkdir.specs.StackProgress.{progress}
use Rattle.walkdir.proofs.stack.StackSteps.end.Given as goal

abbrev pub invariant-loop-self : goal.invariant-loop-self
invariant-loop-self g l = record {
  keeps : (before : Streams) → Keeps before (progress g.S.Sorter.order l.fn.self (g.D.Disk.streams l.fn.disk))
      → Keeps before (progress g.S.Sorter.order l.self (g.D.Disk.streams l.disk));
  options : l.self.options ≡ l.fn.self.options;
  start : l.self.start ≡ None;
  entered : l.self.entered ≡ false;
  state : g.D.Disk.state l.disk ≡ g.D.Disk.state l.fn.disk;
  faults : g.D.Disk.faults l.disk ≡ g.D.Disk.faults l.fn.disk;
  leads : Leads g.D.Disk.answered l.fn.disk l.disk;
}

abbrev pub decreases-loop-self : goal.decreases-loop-self
decreases-loop-self g l = length l.self.lists.items
