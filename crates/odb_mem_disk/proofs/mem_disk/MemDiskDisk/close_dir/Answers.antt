use Rattle.std.proofs.Common.{◌∙◌, sym, ap, subst}
use Rattle.odb_disk.specs.Tree.{IsTree, tree_of}
use Rattle.odb_disk.specs.Streams.{with_closed}
use Rattle.odb_disk.proofs.TreeLemmas.{tree_of-state_of}
use Rattle.odb_mem_disk.proofs.mem_disk.MemDiskDisk.close_dir.Goals as goal

pub returns-clause-closed : goal.returns-clause-closed
returns-clause-closed c = c.close.ensures.closed ∙ ap (λ v. with_closed v.streams c.args.dir) c.self.view_is

pub returns-clause-tree : goal.returns-clause-tree
returns-clause-tree c = subst IsTree (sym (tree_of-state_of c.self.inside.tree) ∙ ap (λ v. tree_of v.state) c.self.view_is) c.self.invariant
