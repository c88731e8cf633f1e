use Rattle.std.proofs.Common.{◌≡◌, ◌∙◌, false, ap, subst}
use Rattle.odb_base.specs.Path.{Path}
use Rattle.odb_disk.specs.Tree.{node_at, tree_of_entries}
use Rattle.odb_mem_disk.specs.TreeMoves.{is_among, with_copies, without_all}
use Rattle.odb_mem_disk.proofs.TreeMovesLemmas.{ends_apart, target_free, source_stands, whole_move, taken_back}
use Rattle.odb_mem_disk.proofs.node_moves.move_below.Goals as goal

pub paths_below-requires : goal.paths_below-requires
paths_below-requires c =
    record { stands = source_stands (tree_of_entries c.args.nodes.now.entries) c.requires.is_tree c.args.from.now c.args.to.now c.requires.directory c.requires.absent c.requires.outside }

pub returns-in-Ok-clause-made : goal.returns-in-Ok-clause-made
returns-in-Ok-clause-made c =
    let t = tree_of_entries c.args.nodes.now.entries in
    let from = c.args.from.now in
    let to = c.args.to.now in
    let ss = c.in_ok-sources.sources.items in
    let apart = ends_apart t c.requires.is_tree from to c.requires.directory c.requires.absent c.requires.outside in
    let free = target_free t c.requires.is_tree from to c.requires.directory c.requires.absent c.requires.outside in
    c.take_all.ensures.taken ∙ ap (without_all _) c.deref-in-Ok.ensures.value ∙ ap (λ u. without_all u ss) c.in-Ok.ensures.made
    ∙ ap (λ xs. without_all (with_copies t xs c.deref-2.result.now) ss) c.deref.ensures.value
    ∙ ap (λ ys. without_all (with_copies t ss ys) ss) (c.deref-2.ensures.value ∙ c.in_ok-sources.ensures.targets)
    ∙ whole_move from to apart t ss c.in_ok-sources.ensures.sources free

pub returns-clause-kept : goal.returns-clause-kept
returns-clause-kept c =
    let t = tree_of_entries c.args.nodes.now.entries in
    let from = c.args.from.now in
    let to = c.args.to.now in
    let ss = c.in_ok-sources.sources.items in
    let apart = ends_apart t c.requires.is_tree from to c.requires.directory c.requires.absent c.requires.outside in
    let free = target_free t c.requires.is_tree from to c.requires.directory c.requires.absent c.requires.outside in
    let u = tree_of_entries c.put_copies.new.nodes.entries in
    let targets = c.in_ok-sources.ensures.targets in
    let others = subst (λ ds. (q : Path) → is_among q ds ≡ false → node_at u q ≡ node_at t q) (c.deref-2.ensures.value ∙ targets) c.in-Err.ensures.others in
    c.take_all-in-Err.ensures.taken ∙ ap (without_all u) (c.deref-in-Err.ensures.value ∙ targets)
    ∙ taken_back from to apart t ss c.in_ok-sources.ensures.sources free u others
