-- The turns so far gave nothing.
use Rattle.std.proofs.Common.{◌≡◌, None, reverse}
use Rattle.walkdir.specs.Answered.{TellsOn}
use Rattle.walkdir.specs.Progress.{FailsByFault, work_left}
use Rattle.walkdir.specs.StackProgress.{progress}
use Rattle.walkdir.proofs.TurnsLemmas.Passes.{Passes}
use Rattle.walkdir.proofs.stack.StackSteps.step.Given as goal

abbrev pub invariant-loop-entry : goal.invariant-loop-entry
invariant-loop-entry g l = record {
  passes : Passes (g.D.Disk.state l.fn.disk) (progress g.S.Sorter.order l.fn.self (g.D.Disk.streams l.fn.disk))
      (progress g.S.Sorter.order l.self (g.D.Disk.streams l.disk));
  faults : FailsByFault (progress g.S.Sorter.order l.fn.self (g.D.Disk.streams l.fn.disk))
      (g.D.Disk.faults l.fn.disk) 0 (progress g.S.Sorter.order l.self (g.D.Disk.streams l.disk)) (g.D.Disk.faults l.disk);
  state : g.D.Disk.state l.disk ≡ g.D.Disk.state l.fn.disk;
  answered : TellsOn g.D.Disk.answered l.fn.disk (reverse l.fn.self.lists.items) None l.disk (reverse l.self.lists.items);
}

abbrev pub decreases-loop-entry : goal.decreases-loop-entry
decreases-loop-entry g l = work_left (progress g.S.Sorter.order l.self (g.D.Disk.streams l.disk))
