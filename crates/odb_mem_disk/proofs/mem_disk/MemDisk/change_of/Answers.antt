use Rattle.std.proofs.Common.{◌≡◌, IfOk, ◌∙◌, sym, ap, subst}
use Rattle.odb_disk.specs.Tree.{tree_of}
use Rattle.odb_disk.specs.Ask.{change_of_ask}
use Rattle.odb_disk.proofs.TreeLemmas.{tree_of-state_of}
use Rattle.odb_mem_disk.proofs.mem_disk.MemDisk.change_of.Goals as goal

pub returns : goal.returns
returns c = record {
  change = let same = sym (tree_of-state_of c.self.inside.tree) ∙ ap (λ v. tree_of v.state) c.self.view_is in
      subst (λ t. IfOk c.change_of.result (λ change. change ≡ change_of_ask t c.args.ask.now)) same c.change_of.ensures.change;
}
