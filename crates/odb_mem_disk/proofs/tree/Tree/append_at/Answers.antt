use Rattle.odb_disk.specs.Tree.{tree_of_entries}
use Rattle.odb_disk.proofs.MovedNumbersLemmas.{file_there, IsTree-grown, AreNumbers-grown}
use Rattle.odb_mem_disk.proofs.tree.Tree.append_at.Goals as goal

pub invariant_of-self : goal.invariant_of-self
invariant_of-self c =
    let t = tree_of_entries c.self.inside.nodes.entries in
    let i = c.self.invariant in
    let f = file_there t c.args.path.now (rw c.self.view_is c.requires.stands) (rw c.self.view_is c.requires.file) in
    record {
      is_tree = IsTree-grown c.append.result t _ i.is_tree _ _ i.numbers c.args.path.now c.args.more.now f.node f.at f.file c.append.ensures.made c.append.ensures.kept;
      numbers = AreNumbers-grown c.append.result t _ i.is_tree _ _ i.numbers c.args.path.now c.args.more.now f.node f.at f.file c.append.ensures.made c.append.ensures.kept;
    }
