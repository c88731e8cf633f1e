use Rattle.std.proofs.Common.{◌∙◌, sym, ap, subst}
use Rattle.odb_base.specs.Calls as calls
use Rattle.odb_disk.specs.Tree.{IsTree, tree_of, state_of}
use Rattle.odb_disk.specs.MemDisk.{Volume, after_call}
use Rattle.odb_mem_disk.specs.declared.mem_disk.MemDisk.TheInside.{Inside}
use Rattle.odb_disk.proofs.TreeLemmas.{tree_of-state_of}
use Rattle.odb_disk.proofs.MemDiskLemmas.{counted_call}
use Rattle.odb_mem_disk.proofs.mem_disk.MemDisk.count.Goals as goal

abbrev seen : Inside → Volume
seen inside = record { state = state_of inside.tree; streams = inside.streams; calls = inside.calls }

pub returns-clause-counted : goal.returns-clause-counted
returns-clause-counted c =
    counted_call (seen c.self.inside) _ (c.count.ensures.counted ∙ ap (λ b. calls.after_call b c.self.inside.calls) c.next_fails-fails.ensures.fails) ∙ ap after_call c.self.view_is

pub returns-clause-tree : goal.returns-clause-tree
returns-clause-tree c = subst IsTree (sym (tree_of-state_of c.self.inside.tree) ∙ ap (λ v. tree_of v.state) c.self.view_is) c.self.invariant
