use Rattle.std.proofs.Common.{◌∙◌, sym, ap, refl}
use Rattle.std.proofs.lemmas.Result.{on_ok_weaker}
use Rattle.odb_disk.specs.Tree.{state_of}
use Rattle.odb_disk.specs.Tree.Change.{is_possible}
use Rattle.odb_disk.specs.MemDisk.{Volume, after_outside_change}
use Rattle.odb_mem_disk.specs.declared.mem_disk.MemDisk.TheInside.{Inside}
use Rattle.odb_disk.proofs.TreeLemmas.Changed.{is_possible-state_of}
use Rattle.odb_disk.proofs.MemDiskLemmas.{IsTree-after, outside_change}
use Rattle.odb_mem_disk.proofs.mem_disk.MemDisk.change.Goals as goal

abbrev seen : Inside → Volume
seen inside = record { state = state_of inside.tree; streams = inside.streams; calls = inside.calls }

pub invariant_of-self : goal.invariant_of-self
invariant_of-self c = IsTree-after c.change.result _ _ _ c.self.invariant c.change.ensures.made c.change.ensures.possible c.change.ensures.kept

pub returns-clause-made : goal.returns-clause-made
returns-clause-made c =
    let v = seen c.self.inside in
    on_ok_weaker c.change.result
    (λ made. ap (λ t. record v { state = state_of t }) made ∙ outside_change v c.self.inside.tree c.args.change.now refl ∙ ap (λ w. after_outside_change w c.args.change.now) c.self.view_is)
    c.change.ensures.made

pub returns-clause-possible : goal.returns-clause-possible
returns-clause-possible c =
    on_ok_weaker c.change.result
    (λ is. ap (λ v. is_possible v.state c.args.change.now) (sym c.self.view_is) ∙ is_possible-state_of c.self.inside.tree c.args.change.now ∙ is)
    c.change.ensures.possible

pub returns-clause-impossible : goal.returns-clause-impossible
returns-clause-impossible c = λ refused.
    ap (λ v. is_possible v.state c.args.change.now) (sym c.self.view_is) ∙ is_possible-state_of c.self.inside.tree c.args.change.now ∙ c.change.ensures.impossible refused
