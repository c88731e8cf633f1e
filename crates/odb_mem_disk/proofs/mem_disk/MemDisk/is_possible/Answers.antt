-- The disk's state shows its tree.
use Rattle.std.proofs.Common.{◌≡◌, Bool, sym, ap, ◌∙◌}
use Rattle.std.proofs.lemmas.Result.{IfOk-weaker}
use Rattle.odb_disk.specs.Tree.Change.{is_possible, is_possible_in}
use Rattle.odb_disk.proofs.TreeLemmas.Changed.{is_possible-state_of}
use Rattle.odb_mem_disk.proofs.mem_disk.MemDisk.is_possible.Goals as goal

pub returns : goal.returns
returns c = record {
  possible = IfOk-weaker c.is_possible.result (λ (b : Bool). b ≡ is_possible_in c.self.inside.tree c.args.change.now) (λ (b : Bool). b ≡ is_possible c.args.self.now.state c.args.change.now)
      (λ possible is. is ∙ sym (ap (λ v. is_possible v.state c.args.change.now) (sym c.self.view_is) ∙ is_possible-state_of c.self.inside.tree c.args.change.now))
      c.is_possible.ensures.possible;
}
