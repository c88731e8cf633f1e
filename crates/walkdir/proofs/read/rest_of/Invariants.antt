-- Each entry that was read is one less that is left.
use Rattle.std.proofs.Common.{◌≡◌, ◌+◌, ◌≤◌, length}
use Rattle.odb_disk.specs.CallsMade.{Leads}
use Rattle.walkdir.specs.Answered.{AreHeld}
use Rattle.walkdir.specs.Failures.{failures_among}
use Rattle.walkdir.specs.Directory.{AreAt}
use Rattle.walkdir.specs.Turns.Drawn.{IsDrawn, left_of}
use Rattle.walkdir.proofs.DrawsLemmas.{StreamsOn}
use Rattle.walkdir.proofs.read.rest_of.Given as goal

abbrev pub invariant-loop-items : goal.invariant-loop-items
invariant-loop-items g l = record {
  drawn : IsDrawn (g.D.Disk.streams l.fn.disk) l.dir (g.D.Disk.streams l.disk);
  streams : StreamsOn l.depth l.parent (g.D.Disk.streams l.fn.disk) l.dir l.items.items (g.D.Disk.streams l.disk);
  few : length l.items.items + left_of (g.D.Disk.streams l.disk) l.dir ≤ left_of (g.D.Disk.streams l.fn.disk) l.dir;
  children : AreAt l.parent l.depth l.items.items;
  no_failure : failures_among l.items.items ≡ 0;
  leads : Leads g.D.Disk.answered l.fn.disk l.disk;
  told : AreHeld g.D.Disk.answered l.fn.disk l.disk l.items.items;
  kept : g.D.Disk.state l.disk ≡ g.D.Disk.state l.fn.disk;
  later : g.D.Disk.faults l.fn.disk ≤ g.D.Disk.faults l.disk;
}

abbrev pub decreases-loop-items : goal.decreases-loop-items
decreases-loop-items g l = left_of (g.D.Disk.streams l.disk) l.dir
