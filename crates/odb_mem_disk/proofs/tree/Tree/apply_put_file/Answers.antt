use Rattle.std.proofs.Common.{◌∙◌, ap, sym, is_some}
use Rattle.std.proofs.lemmas.Result.{on_ok_weaker}
use Rattle.odb_disk.specs.Tree.{node_at, with_node}
use Rattle.odb_disk.specs.Tree.Change.{new_node}
use Rattle.odb_disk.specs.declared.node.Content.TheVariants.{File}
use Rattle.odb_disk.proofs.TreeLemmas.Change.{made-put_file}
use Rattle.odb_disk.proofs.TreeLemmas.Possible.{can_put_file}
use Rattle.odb_disk.proofs.TreeLemmas.Put.{file_stands, put_node-file, put_node-other}
use Rattle.odb_mem_disk.proofs.tree.Tree.apply_put_file.Goals as goal

pub put_content-requires-clause-lies : goal.put_content-requires-clause-lies
put_content-requires-clause-lies c = (can_put_file _ _ _ _ c.requires.possible).lies

pub put_content-requires-clause-no_directory : goal.put_content-requires-clause-no_directory
put_content-requires-clause-no_directory c = (can_put_file _ _ _ _ c.requires.possible).no_directory

pub put_content-requires-clause-stands : goal.put_content-requires-clause-stands
put_content-requires-clause-stands c = ap is_some (file_stands (node_at c.args.self.now c.args.path.now) (sym c.stands_file.ensures.file ∙ c.if-stands_file.true)).at

pub put_new_node-requires-clause-lies : goal.put_new_node-requires-clause-lies
put_new_node-requires-clause-lies c = (can_put_file _ _ _ _ c.requires.possible).lies

pub put_new_node-requires-clause-no_directory : goal.put_new_node-requires-clause-no_directory
put_new_node-requires-clause-no_directory c = (can_put_file _ _ _ _ c.requires.possible).no_directory

pub returns-then-stands_file-clause-made : goal.returns-then-stands_file-clause-made
returns-then-stands_file-clause-made c =
    let t = c.args.self.now in
    let p = c.args.path.now in
    let f = file_stands (node_at t p) (sym c.stands_file.ensures.file ∙ c.if-stands_file.true) in
    c.put_content.ensures.made f.node f.at
    ∙ ap (λ bytes. with_node t p (record f.node { content = File bytes c.args.time })) c.in_ok-bytes.ensures.copy
    ∙ sym (made-put_file t p c.args.time c.args.bytes.now ∙ ap (with_node t p) (put_node-file t p (File c.args.bytes.now c.args.time) f))

pub returns-clause-made : goal.returns-clause-made
returns-clause-made c =
    let t = c.args.self.now in
    let p = c.args.path.now in
    on_ok_weaker c.put_new_node.result
    (λ is.
    is ∙ ap (λ bytes. with_node t p (new_node t p (File bytes c.args.time))) c.in_ok-bytes.ensures.copy
    ∙ sym (made-put_file t p c.args.time c.args.bytes.now
    ∙ ap (with_node t p) (put_node-other t p (File c.args.bytes.now c.args.time) (node_at t p) (sym c.stands_file.ensures.file ∙ c.if-stands_file.false))))
    c.put_new_node.ensures.made
