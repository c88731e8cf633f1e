use Rattle.std.proofs.Common.{◌≡◌, ◌≤◌}
use Rattle.gix_odb_loose.specs.StreamJobs.AtStage.{calls_left}
use Rattle.gix_odb_loose.specs.StreamJobs.Progress.{Begun}
use Rattle.gix_odb_loose.specs.StreamJobs.{IsSomeUnderway, IsUnderway, Since}
use Rattle.gix_odb_loose.specs.declared.write_order.WriteAsk.TheVariants as wants
use Rattle.gix_odb_loose.proofs.write_streamed.StreamJob.run.Given as goal

-- a write that is underway stays so
abbrev pub invariant-turns : goal.invariant-turns
invariant-turns g l = record {
  some : IsSomeUnderway g.D.Disk.answered l.disk (g.D.Disk.state l.disk) (g.D.Disk.faults l.disk) (g.S.Source.left l.from) (g.S.Source.faults l.from) l.self;
  underway :
      (w : Begun) (first : g.row.D.Denot)
      → Since g.D.Disk.answered first l.fn.disk
      (λ past. IsUnderway w (g.D.Disk.state l.fn.disk) (g.D.Disk.faults l.fn.disk) past (g.S.Source.left l.fn.from) (g.S.Source.faults l.fn.from) l.fn.self)
      → Since g.D.Disk.answered first l.disk (λ past. IsUnderway w (g.D.Disk.state l.disk) (g.D.Disk.faults l.disk) past (g.S.Source.left l.from) (g.S.Source.faults l.from) l.self);
  head : l.self.head ≡ l.fn.self.head;
  later : g.D.Disk.faults l.fn.disk ≤ g.D.Disk.faults l.disk;
  streams : g.D.Disk.streams l.disk ≡ g.D.Disk.streams l.fn.disk;
}

abbrev pub decreases-turns : goal.decreases-turns
decreases-turns g l = calls_left l.self (wants.Disk l.self.stage)
