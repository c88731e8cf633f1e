use Rattle.std.proofs.Common.{◌≡◌, map, Ok, subst}
use Rattle.std.specs.Prelude.{IfSome}
use Rattle.odb_disk.specs.Tree.{tree_of}
use Rattle.walkdir.specs.BuiltWalk.{walking}
use Rattle.walkdir.specs.Walk.{IsWalk}
use Rattle.walkdir.proofs.WholeWalks.{if_told}
use Rattle.walkdir_uses.proofs.FoundLemmas.{by_names, walks_inside}
use Rattle.walkdir_uses.specs.Found.{inside}
use Rattle.walkdir_uses.proofs.visible_names_in.Goals as goal

pub returns-clause-names : goal.returns-clause-names
returns-clause-names g c =
    let entries = c.in_ok-entries.entries.items in
    let built = c.sort_by_file_name-walk.result in
    if_told (g.D.Disk.state c.args.disk.now) _ (λ s told.
    let walked : IsWalk (walking by_names (tree_of s) built) (map Ok entries) =
    subst (λ o. IfSome o (λ x. IsWalk (walking by_names (tree_of x) built) (map Ok entries))) told c.in_ok-entries.ensures.entries in
    let same : walking by_names (tree_of s) built ≡ inside (tree_of s) c.args.folder.now =
    walks_inside c.in_ok-new.field-0 c.max_depth.result c.min_depth.result built
    (record {}) c.args.folder.now c.in_ok-new.ensures.root c.in_ok-new.ensures.options c.max_depth.ensures.options c.min_depth.ensures.options
    c.sort_by_file_name-walk.ensures.sorted (tree_of s) in
    (entries, subst (λ walk. IsWalk walk (map Ok entries)) same walked, c.in_ok-visible_names_of.ensures.names))
