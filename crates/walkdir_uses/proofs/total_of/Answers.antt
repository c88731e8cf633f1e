use Rattle.std.proofs.Common.{rules, arith, ◌≡◌, ◌++◌, ◌∷◌, [], append-nil, Ok, Err, Global, sym, ap, subst, ◌∙◌}
use Rattle.std.specs.List.{Contains, filter}
use Rattle.std.specs.Prelude.{IfSome}
use Rattle.odb_disk.specs.Tree.{tree_of}
use Rattle.std.specs.declared.vec.IntoIter.{IntoIter}
use Rattle.odb_disk.specs.Tree.Follow.{looked}
use Rattle.odb_disk.specs.declared.meta.Meta.{Meta}
use Rattle.walkdir.specs.Error.{failures}
use Rattle.walkdir.specs.declared.dent.DirEntry.{DirEntry}
use Rattle.walkdir.proofs.WholeWalks.{if_told}
use Rattle.walkdir.specs.Walk.{Tells, told_at}
use Rattle.walkdir.proofs.FailuresLaws.{costs_earlier, costs_later, costs_none, costs_of_error}
use Rattle.walkdir_uses.proofs.FoundLemmas.{all_taken, if_err, none_left, passes_among, size_file, size_other}
use Rattle.walkdir_uses.specs.Found.{is_file, total_size}
use Rattle.walkdir_uses.proofs.total_of.Goals as goal
use Rattle.walkdir_uses.proofs.total_of.Goals.{then-eq+in_ok-metadata, else-eq}

pub loop-entry-preserved : goal.loop-entry-preserved
loop-entry-preserved g c =
    let entry = c.in-Some.entry in
    let entries = c.loop-entry.yielded in
    elim c.if-eq.branch [
      | then-eq+in_ok-metadata w ↦ record {
        kept = search rules;
        same = search rules;
        later = (let more = costs_later 0 _ _ _ (costs_none _ _ c.loop-entry.invariant.later) w.in_ok-metadata.ensures.cause.later in let most = more.later in search rules);
        size = if_told (g.D.Disk.state c.args.disk.now) (λ s. c.if-eq.size ≡ total_size (tree_of s) (entries ++ entry ∷ [])) (λ s told.
            w.size-is ∙ w.saturating_add-size.ensures
            ∙ size_file (tree_of s) entries entry w.in_ok-metadata.field-0 c.loop-entry.size (search rules)
            (subst (λ o. IfSome o (λ x. Tells entry.depth entry.path (Ok w.in_ok-metadata.field-0) (told_at entry.depth entry.path (looked (tree_of x) entry.path entry.followed))))
            (c.loop-entry.invariant.kept ∙ told)
            w.in_ok-metadata.ensures.told)
            (subst (λ o. IfSome o (λ x. c.loop-entry.size ≡ total_size (tree_of x) entries)) told c.loop-entry.invariant.size));
      }
      | else-eq w ↦ record {
        kept = search rules;
        same = search rules;
        later = search rules;
        size = if_told (g.D.Disk.state c.args.disk.now) (λ s. c.if-eq.size ≡ total_size (tree_of s) (entries ++ entry ∷ [])) (λ s told.
            w.size-is
            ∙ size_other (tree_of s) entries entry c.loop-entry.size (search rules)
            (subst (λ o. IfSome o (λ x. c.loop-entry.size ≡ total_size (tree_of x) entries)) told c.loop-entry.invariant.size));
      }
    ]

pub returns-clause-cost : goal.returns-clause-cost
returns-clause-cost g c = costs_none _ _ c.loop-entry.invariant.later

-- a stat that is refused has its failure by a fault
pub returns-in_err-metadata-clause-cost : goal.returns-in_err-metadata-clause-cost
returns-in_err-metadata-clause-cost g c =
    let error = c.in_err-metadata.field-0.0 in
    costs_of_error c.from_residual.result error _ _ c.from_residual.ensures.1 (costs_earlier (failures error) _ _ _ c.loop-entry.invariant.later c.in_err-metadata.ensures.cause)

-- it is a stat of a file among the entries
pub returns-in_err-metadata-clause-refused : goal.returns-in_err-metadata-clause-refused
returns-in_err-metadata-clause-refused g c =
    let error = c.in_err-metadata.field-0.0 in
    let entries = c.args.entries.items in
    let entry = c.in-Some.entry in
    let taken = all_taken (λ (i : IntoIter DirEntry Global). i.rest.items) (λ (i : IntoIter DirEntry Global). i.rest.len) c.into_iter-entry-iterator.result c.loop-entry.yielded
    c.loop-entry.entry-iterator c.loop-entry.yielded_by in
    let split : entries ≡ c.loop-entry.yielded ++ entry ∷ c.next.new.self.rest.items =
    sym c.into_iter-entry-iterator.ensures.into_iter_gives.0 ∙ taken ∙ ap (λ rest. c.loop-entry.yielded ++ rest) c.in-Some.ensures.steps.0 in
    let among : Contains (filter is_file entries) entry =
    subst (λ xs. Contains (filter is_file xs) entry) (sym split) (passes_among is_file c.loop-entry.yielded entry c.next.new.self.rest.items (search rules)) in
    if_told (g.D.Disk.state c.args.disk.now) _ (λ s told.
    let tells : Tells {A = Meta} entry.depth entry.path (Err error) (told_at entry.depth entry.path (looked (tree_of s) entry.path entry.followed)) =
    subst (λ o. IfSome o (λ x. Tells {A = Meta} entry.depth entry.path (Err error) (told_at entry.depth entry.path (looked (tree_of x) entry.path entry.followed))))
    (c.loop-entry.invariant.kept ∙ told)
    c.in_err-metadata.ensures.told in
    if_err c.from_residual.result error _ c.from_residual.ensures.1 (entry, among, tells))

-- all entries were taken
pub returns-clause-size : goal.returns-clause-size
returns-clause-size g c =
    let none : c.loop-entry.entry-iterator.rest.items ≡ [] = none_left c.loop-entry.entry-iterator.rest.items (omega (arith, c.in-None.ensures.steps.0)) in
    let taken = all_taken (λ (i : IntoIter DirEntry Global). i.rest.items) (λ (i : IntoIter DirEntry Global). i.rest.len) c.into_iter-entry-iterator.result c.loop-entry.yielded
    c.loop-entry.entry-iterator c.loop-entry.yielded_by in
    let all : c.loop-entry.yielded ≡ c.args.entries.items =
    sym (append-nil c.loop-entry.yielded) ∙ ap (λ rest. c.loop-entry.yielded ++ rest) (sym none) ∙ sym taken ∙ c.into_iter-entry-iterator.ensures.into_iter_gives.0 in
    if_told (g.D.Disk.state c.args.disk.now) _ (λ s told.
    subst (λ xs. c.loop-entry.size ≡ total_size (tree_of s) xs) all (subst (λ o. IfSome o (λ x. c.loop-entry.size ≡ total_size (tree_of x) c.loop-entry.yielded)) told c.loop-entry.invariant.size))
