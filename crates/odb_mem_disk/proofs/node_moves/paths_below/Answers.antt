use Rattle.std.proofs.Common.{◌≡◌, ◌∙◌, [], ◌∷◌, ◌++◌, map, sym, ap, subst, IsSome}
use Rattle.odb_disk.specs.Tree.{tree_of_entries}
use Rattle.odb_mem_disk.specs.TreeMoves.{moved_path}
use Rattle.odb_disk.proofs.TreeLemmas.{node_at-entries}
use Rattle.odb_disk.proofs.TreeLemmas.Moved.{begins-own}
use Rattle.odb_mem_disk.proofs.TreeMovesLemmas.{AreSoFar, so_far_first, so_far_next, fewer_behind, map_push}
use Rattle.odb_mem_disk.proofs.node_moves.paths_below.Goals as goal

pub add_move-requires : goal.add_move-requires
add_move-requires c = record { below = begins-own c.args.from.now }

pub loop-path-init : goal.loop-path-init
loop-path-init c =
    let t = tree_of_entries c.args.nodes.now.entries in
    let from = c.args.from.now in
    let to = c.args.to.now in
    let sources : c.add_move.new.sources.items ≡ from ∷ [] = c.in_ok-add_move.ensures.source ∙ ap (λ xs. xs ++ from ∷ []) c.new-sources.ensures.items in
    let targets : c.add_move.new.targets.items ≡ moved_path from to from ∷ [] = c.in_ok-add_move.ensures.target ∙ ap (λ xs. xs ++ moved_path from to from ∷ []) c.new-targets.ensures.items in
    record {
      so_far = subst (λ xs. AreSoFar t from from xs) (sym sources) (so_far_first t from c.requires.stands);
      targets = targets ∙ ap (map (moved_path from to)) (sym sources);
    }

pub loop-path-smaller : goal.loop-path-smaller
loop-path-smaller c =
    let es = c.args.nodes.now.entries in
    let next = c.in-Some.ensures.next in
    fewer_behind c.loop-path.last.now c.in-Some.path.now next.behind es (subst IsSome (node_at-entries es c.in-Some.path.now) next.stands)

pub loop-path-preserved : goal.loop-path-preserved
loop-path-preserved c =
    let t = tree_of_entries c.args.nodes.now.entries in
    let from = c.args.from.now in
    let p = c.in-Some.path.now in
    let f = moved_path from c.args.to.now in
    let old = c.loop-path.sources.items in
    let sources : c.add_move-in-Some.new.sources.items ≡ old ++ p ∷ [] = c.in_ok-add_move-2.ensures.source in
    let targets : c.add_move-in-Some.new.targets.items ≡ c.loop-path.targets.items ++ f p ∷ [] = c.in_ok-add_move-2.ensures.target in
    record {
      so_far = subst (λ xs. AreSoFar t from p xs) (sym sources) (so_far_next t from c.loop-path.last.now p old c.loop-path.invariant.so_far c.in-Some.ensures.next);
      targets = targets ∙ ap (λ xs. xs ++ f p ∷ []) c.loop-path.invariant.targets ∙ sym (map_push f old p) ∙ ap (map f) (sym sources);
    }
