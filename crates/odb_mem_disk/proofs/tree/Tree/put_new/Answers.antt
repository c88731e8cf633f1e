use Rattle.std.proofs.Common.{◌∙◌, ap, sym}
use Rattle.odb_disk.specs.Tree.{tree_of_entries, with_node}
use Rattle.odb_disk.specs.Tree.Change.{least_free}
use Rattle.odb_disk.proofs.TreeNumbersLemmas.Kept.{IsTree-new, AreNumbers-new, least_free-least}
use Rattle.odb_mem_disk.proofs.tree.Tree.put_new.Goals as goal

pub invariant_of-self-2 : goal.invariant_of-self-2
invariant_of-self-2 c =
    let t = tree_of_entries c.self.inside.nodes.entries in
    let i = c.self.invariant in
    record {
      is_tree = IsTree-new t _ i.is_tree _ _ i.numbers c.args.path.now (rw c.self.view_is c.requires.lies) (rw c.self.view_is c.requires.no_directory)
          (record { dev = c.args.dev; ino = c.in_ok-ino.ino; content = c.args.content }) _ _ _ c.in_ok-ino.ensures.least c.in_ok-ino.ensures.freed c.use_number.ensures.next
          c.use_number.ensures.used c.in_ok-put_over.ensures.made;
      numbers = AreNumbers-new t _ i.is_tree _ _ i.numbers c.args.path.now (rw c.self.view_is c.requires.lies) (rw c.self.view_is c.requires.no_directory)
          (record { dev = c.args.dev; ino = c.in_ok-ino.ino; content = c.args.content }) _ _ _ c.in_ok-ino.ensures.least c.in_ok-ino.ensures.freed c.use_number.ensures.next
          c.use_number.ensures.used c.in_ok-put_over.ensures.made;
    }

pub returns-clause-made : goal.returns-clause-made
returns-clause-made c =
    let t = tree_of_entries c.self.inside.nodes.entries in
    let i = c.self.invariant in
    c.in_ok-put_over.ensures.made
    ∙ ap (λ n. with_node t c.args.path.now (record { dev = c.args.dev; ino = n; content = c.args.content }))
    (sym (least_free-least t i.is_tree _ _ i.numbers c.in_ok-ino.ino c.in_ok-ino.ensures.least))
    ∙ ap (λ u. with_node u c.args.path.now (record { dev = c.args.dev; ino = least_free u; content = c.args.content })) c.self.view_is
