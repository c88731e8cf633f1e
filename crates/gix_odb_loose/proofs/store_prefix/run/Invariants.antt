use Rattle.std.proofs.Common.{◌≡◌, ◌≤◌, List}
use Rattle.odb_disk.specs.declared.ask.DiskAnswer.{DiskAnswer}
use Rattle.gix_odb_loose.specs.PrefixRuns.{Comes}
use Rattle.gix_odb_loose.specs.PrefixSearches.{Began, Stands, calls_at}
use Rattle.gix_odb_loose.specs.declared.prefix_search.SearchStep.TheVariants.{More}
use Rattle.gix_odb_loose.proofs.store_prefix.run.Given as goal

-- a look-up that stands stays so
abbrev pub invariant-turns : goal.invariant-turns
invariant-turns g l = record {
  some : (b : Began) × (b.state ≡ g.D.Disk.state l.disk) × Stands b (g.D.Disk.streams l.disk) (g.D.Disk.faults l.disk) l.current;
  each :
      (b : Began) → b.state ≡ g.D.Disk.state l.fn.disk → Stands b (g.D.Disk.streams l.fn.disk) (g.D.Disk.faults l.fn.disk) l.fn.search
      → (b.state ≡ g.D.Disk.state l.disk) × Stands b (g.D.Disk.streams l.disk) (g.D.Disk.faults l.disk) l.current;
  kept : g.D.Disk.state l.disk ≡ g.D.Disk.state l.fn.disk;
  came : (given : List DiskAnswer) × Comes g.D.Disk.answered given (More l.fn.search) l.fn.disk l.disk (More l.current);
  later : g.D.Disk.faults l.fn.disk ≤ g.D.Disk.faults l.disk;
}

abbrev pub decreases-turns : goal.decreases-turns
decreases-turns g l = calls_at (g.D.Disk.streams l.disk) l.current.stage
