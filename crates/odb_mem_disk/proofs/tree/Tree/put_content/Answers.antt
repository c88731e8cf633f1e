use Rattle.odb_disk.specs.Tree.{tree_of_entries}
use Rattle.odb_disk.proofs.TreeNumbersLemmas.Kept.{IsTree-over, AreNumbers-changed}
use Rattle.odb_mem_disk.proofs.tree.Tree.put_content.Goals as goal

pub invariant_of-self : goal.invariant_of-self
invariant_of-self c =
    let t = tree_of_entries c.self.inside.nodes.entries in
    let i = c.self.invariant in
    record {
      is_tree =
          IsTree-over t _ i.is_tree _ _ i.numbers c.args.path.now (rw c.self.view_is c.requires.lies) (rw c.self.view_is c.requires.no_directory) c.args.content
          (rw c.self.view_is c.requires.stands) c.put_content.ensures.made;
      numbers =
          AreNumbers-changed t _ i.is_tree _ _ i.numbers c.args.path.now (rw c.self.view_is c.requires.lies) (rw c.self.view_is c.requires.no_directory) c.args.content
          (rw c.self.view_is c.requires.stands) c.put_content.ensures.made;
    }
