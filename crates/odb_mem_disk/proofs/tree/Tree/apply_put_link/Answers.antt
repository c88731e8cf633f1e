use Rattle.std.proofs.Common.{◌∙◌, ap, sym, is_some}
use Rattle.std.proofs.lemmas.Result.{on_ok_weaker}
use Rattle.odb_disk.specs.Tree.{node_at, with_node}
use Rattle.odb_disk.specs.Tree.Change.{new_node}
use Rattle.odb_disk.specs.declared.node.Content.TheVariants.{Link}
use Rattle.odb_disk.proofs.TreeLemmas.Change.{made-put_link}
use Rattle.odb_disk.proofs.TreeLemmas.Possible.{can_put_link}
use Rattle.odb_disk.proofs.TreeLemmas.Put.{link_stands, link_node-link, link_node-other}
use Rattle.odb_mem_disk.proofs.tree.Tree.apply_put_link.Goals as goal

pub put_content-requires-clause-lies : goal.put_content-requires-clause-lies
put_content-requires-clause-lies c = (can_put_link _ _ _ c.requires.possible).lies

pub put_content-requires-clause-no_directory : goal.put_content-requires-clause-no_directory
put_content-requires-clause-no_directory c = (can_put_link _ _ _ c.requires.possible).no_directory

pub put_content-requires-clause-stands : goal.put_content-requires-clause-stands
put_content-requires-clause-stands c = ap is_some (link_stands (node_at c.args.self.now c.args.path.now) (sym c.stands_link.ensures.link ∙ c.if-stands_link.true)).at

pub put_new_node-requires-clause-lies : goal.put_new_node-requires-clause-lies
put_new_node-requires-clause-lies c = (can_put_link _ _ _ c.requires.possible).lies

pub put_new_node-requires-clause-no_directory : goal.put_new_node-requires-clause-no_directory
put_new_node-requires-clause-no_directory c = (can_put_link _ _ _ c.requires.possible).no_directory

pub returns-then-stands_link-clause-made : goal.returns-then-stands_link-clause-made
returns-then-stands_link-clause-made c =
    let t = c.args.self.now in
    let p = c.args.path.now in
    let l = link_stands (node_at t p) (sym c.stands_link.ensures.link ∙ c.if-stands_link.true) in
    c.put_content.ensures.made l.node l.at
    ∙ ap (λ target. with_node t p (record l.node { content = Link target })) c.in_ok-target.ensures.copy
    ∙ sym (made-put_link t p c.args.target.now ∙ ap (with_node t p) (link_node-link t p c.args.target.now l))

pub returns-clause-made : goal.returns-clause-made
returns-clause-made c =
    let t = c.args.self.now in
    let p = c.args.path.now in
    on_ok_weaker c.put_new_node.result
    (λ is.
    is ∙ ap (λ target. with_node t p (new_node t p (Link target))) c.in_ok-target.ensures.copy
    ∙ sym (made-put_link t p c.args.target.now ∙ ap (with_node t p) (link_node-other t p c.args.target.now (node_at t p) (sym c.stands_link.ensures.link ∙ c.if-stands_link.false))))
    c.put_new_node.ensures.made
