use Rattle.std.proofs.Common.{◌≡◌, ◌≤◌}
use Rattle.std.specs.Prelude.{IfSome}
use Rattle.odb_disk.specs.Tree.{tree_of}
use Rattle.walkdir_uses.specs.Found.{total_size}
use Rattle.walkdir_uses.proofs.total_of.Given as goal

-- the disk is as it was, its streams too, and the sizes of the files so far are added up
abbrev pub invariant-loop-entry : goal.invariant-loop-entry
invariant-loop-entry g l = record {
  kept : g.D.Disk.state l.disk ≡ g.D.Disk.state l.fn.disk;
  same : g.D.Disk.streams l.disk ≡ g.D.Disk.streams l.fn.disk;
  later : g.D.Disk.faults l.fn.disk ≤ g.D.Disk.faults l.disk;
  size : IfSome (g.D.Disk.state l.fn.disk) (λ s. l.size ≡ total_size (tree_of s) l.yielded);
}
