use Rattle.std.proofs.Common.{◌≡◌, ◌≤◌, take}
use Rattle.std.specs.List.{AllZip}
use Rattle.std.specs.Option.{IfSome}
use Rattle.gix_odb_uses.specs.Objects.{IsKindAt}
use Rattle.gix_odb_uses.specs.Reads.{MayReadEach}
use Rattle.gix_odb_uses.proofs.asking.kinds_of.Given as goal

-- the kinds of the ids so far, on an unchanged disk
abbrev pub invariant-loop-id : goal.invariant-loop-id
invariant-loop-id g l = record {
  kinds : IfSome (g.D.Disk.state l.initial.disk) (λ s. AllZip (IsKindAt l.store s) (take l.id-index l.ids) l.kinds.items);
  kept : g.D.Disk.state l.disk ≡ g.D.Disk.state l.initial.disk;
  later : g.D.Disk.faults l.initial.disk ≤ g.D.Disk.faults l.disk;
  streams : g.D.Disk.streams l.disk ≡ g.D.Disk.streams l.initial.disk;
  asked : MayReadEach g.D.Disk.answered l.store (take l.id-index l.ids) l.initial.disk l.disk;
}
