use Rattle.std.proofs.Common.{◌∙◌, sym, ap, ◌||◌}
use Rattle.odb_disk.specs.TreeNumbers.{has_number, is_listed}
use Rattle.odb_disk.proofs.TreeLemmas.{node_at-entries}
use Rattle.odb_disk.proofs.TreeNumbersLemmas.Taken.{freed_number}
use Rattle.odb_mem_disk.proofs.node_map.free_number.Goals as goal

pub returns-in_ok-insert-clause-freed : goal.returns-in_ok-insert-clause-freed
returns-in_ok-insert-clause-freed c =
    freed_number c.args.free.now.keys c.insert.new.self.keys _ c.in-Some.node.now (c.in-Some.ensures.value ∙ sym (node_at-entries c.args.nodes.now.entries c.args.path.now))
    c.in_ok-insert.ensures.updates.0

pub returns-in_default-clause-freed : goal.returns-in_default-clause-freed
returns-in_default-clause-freed c = λ n. ap (λ o. has_number o n || is_listed c.args.free.now.keys n) (c.in_default.ensures.value ∙ sym (node_at-entries c.args.nodes.now.entries c.args.path.now))
