use Rattle.std.proofs.Common.{◌≡◌, map, Ok, inr, subst, ◌∙◌}
use Rattle.std.specs.Prelude.{IfErr, IfOk, IfSome}
use Rattle.odb_disk.specs.Tree.{tree_of}
use Rattle.walkdir.specs.BuiltWalk.{walking}
use Rattle.walkdir.specs.Failures.{failures_of}
use Rattle.walkdir.specs.Walk.{IsWalk}
use Rattle.walkdir.proofs.WholeWalks.{if_told}
use Rattle.walkdir.proofs.FailuresLaws.{costs_earlier}
use Rattle.walkdir_uses.proofs.FoundLemmas.{if_err_then, if_ok_then, walks_below}
use Rattle.walkdir_uses.specs.Found.{IsRefusedAmong, as_given, total_size}
use Rattle.walkdir_uses.proofs.size_below.Goals as goal

pub returns-clause-size : goal.returns-clause-size
returns-clause-size g c =
    let entries = c.in_ok-entries.entries.items in
    let built = c.in_ok-new.field-0 in
    if_told (g.D.Disk.state c.args.disk.now) _ (λ s told.
    let walked : IsWalk (walking as_given (tree_of s) built) (map Ok entries) =
    subst (λ o. IfSome o (λ x. IsWalk (walking as_given (tree_of x) built) (map Ok entries))) told c.in_ok-entries.ensures.entries in
    let same = walks_below as_given built c.args.folder.now (tree_of s) c.in_ok-new.ensures.root c.in_ok-new.ensures.options c.in_ok-new.ensures.sorter in
    let sized = subst (λ o. IfSome o (λ x. IfOk c.total_of.result (λ size. size ≡ total_size (tree_of x) entries))) (c.in_ok-entries.ensures.state ∙ told) c.total_of.ensures.size in
    if_ok_then c.total_of.result _ _ sized (λ size is. (entries, subst (λ walk. IsWalk walk (map Ok entries)) same walked, is)))

-- it is a stat of a file of the walk
pub returns-clause-first : goal.returns-clause-first
returns-clause-first g c =
    let entries = c.in_ok-entries.entries.items in
    let built = c.in_ok-new.field-0 in
    if_told (g.D.Disk.state c.args.disk.now) _ (λ s told.
    let walked : IsWalk (walking as_given (tree_of s) built) (map Ok entries) =
    subst (λ o. IfSome o (λ x. IsWalk (walking as_given (tree_of x) built) (map Ok entries))) told c.in_ok-entries.ensures.entries in
    let same = walks_below as_given built c.args.folder.now (tree_of s) c.in_ok-new.ensures.root c.in_ok-new.ensures.options c.in_ok-new.ensures.sorter in
    let refused = subst (λ o. IfSome o (λ x. IfErr c.total_of.result (IsRefusedAmong (tree_of x) entries))) (c.in_ok-entries.ensures.state ∙ told) c.total_of.ensures.refused in
    if_err_then c.total_of.result _ _ refused (λ error is. inr (entries, subst (λ walk. IsWalk walk (map Ok entries)) same walked, is)))

pub returns-clause-cost : goal.returns-clause-cost
returns-clause-cost g c = costs_earlier (failures_of c.total_of.result) _ _ _ c.in_ok-entries.ensures.cost.later c.total_of.ensures.cost
