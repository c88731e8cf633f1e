use Rattle.std.proofs.Common.{◌∷◌, ◌++◌, Some, Err, refl, Ok, map, sym, subst, ap, ◌∙◌, rules}
use Rattle.std.specs.Prelude.{IfSome}
use Rattle.odb_disk.specs.Tree.{tree_of}
use Rattle.walkdir.specs.Answered.{IsToldIn}
use Rattle.walkdir.specs.BuiltWalk.{walking}
use Rattle.walkdir.specs.Error.{failures, is_no_memory, no_memory}
use Rattle.walkdir.specs.StackProgress.{progress}
use Rattle.walkdir.specs.Walk.{IsWalk}
use Rattle.walkdir.proofs.AnsweredLaws.{told_later, told_next}
use Rattle.walkdir.proofs.SameWalks.{only_entries}
use Rattle.walkdir.specs.OnDisk.{NextOn, at_walk}
use Rattle.walkdir.proofs.WholeWalks.{NoneLost, begins_on_disk, entries_kept, if_told, left_back, whole_on_disk}
use Rattle.walkdir.proofs.FailuresLaws.{costs_as, costs_of_error, costs_zero}
use Rattle.walkdir_uses.proofs.CostLemmas.{costs_of_next}
use Rattle.walkdir_uses.proofs.FoundLemmas.{if_err, lost_or_first}
use Rattle.walkdir_uses.specs.Found.{AreOnly}
use Rattle.walkdir_uses.proofs.entries_of.Goals as goal

pub returns-clause-entries : goal.returns-clause-entries
returns-clause-entries g c =
    let before = g.D.Disk.streams c.args.disk.now in
    let same = c.into_iter-entry-iterator.ensures.into_iter_gives in
    let begun = ap (at_walk g.D.Disk.state g.D.Disk.streams g.D.Disk.faults g.D.Disk.answered (λ walk streams. progress g.S.Sorter.order walk streams)) same ∙ c.in_ok-entry-items.ensures.begun in
    if_told (g.D.Disk.state c.args.disk.now) (λ s. IsWalk (walking g.S.Sorter.order (tree_of s) c.args.walk) (map Ok c.loop-entry.entries.items))
    (λ s told. subst (IsWalk (walking g.S.Sorter.order (tree_of s) c.args.walk)) (sym c.loop-entry.invariant.items)
    (whole_on_disk g.D.Disk.state g.D.Disk.streams g.D.Disk.faults g.D.Disk.answered (λ walk streams. progress g.S.Sorter.order walk streams) g.S.Sorter.order c.args.walk before s
    c.into_iter-entry-iterator.result c.loop-entry.yielded c.loop-entry.entry-iterator c.next.new.self begun
    (ap (λ x. g.D.Disk.state x.disk.now) same ∙ (ap g.D.Disk.state c.in_ok-entry-items.ensures.same ∙ told))
    c.loop-entry.yielded_by c.in-None.ensures.steps (subst NoneLost c.loop-entry.invariant.items (entries_kept c.loop-entry.entries.items))))

pub returns-clause-only : goal.returns-clause-only
returns-clause-only g c =
    let entries = c.loop-entry.entries.items in
    if_told (g.D.Disk.state c.args.disk.now) (λ s. AreOnly (walking g.S.Sorter.order (tree_of s) c.args.walk) entries)
    (λ s told. only_entries g.S.Sorter.order g.met.S.Sorter.total (tree_of s) c.args.walk entries
    (subst (λ o. IfSome o (λ x. IsWalk (walking g.S.Sorter.order (tree_of x) c.args.walk) (map Ok entries))) told (returns-clause-entries g c)))

-- when the walk is over, and at each `?`, it is dropped
pub returns-clause-back : goal.returns-clause-back
returns-clause-back g c =
    let begun = ap (at_walk g.D.Disk.state g.D.Disk.streams g.D.Disk.faults g.D.Disk.answered
    (λ walk streams. progress g.S.Sorter.order walk streams)) c.into_iter-entry-iterator.ensures.into_iter_gives
    ∙ c.in_ok-entry-items.ensures.begun in
    let back = left_back g.D.Disk.state g.D.Disk.streams g.D.Disk.faults g.D.Disk.answered (λ walk streams. progress g.S.Sorter.order walk streams) g.S.Sorter.order c.args.walk
    (g.D.Disk.streams c.args.disk.now)
    (g.D.Disk.streams c.drop-entry-iterator-2.new.self.0) c.into_iter-entry-iterator.result c.loop-entry.yielded c.loop-entry.entry-iterator c.next.result c.next.new.self begun c.loop-entry.yielded_by
    c.next.ensures.steps c.drop-entry-iterator-2.ensures.back in
    search rules

pub returns-in_err-push-clause-back : goal.returns-in_err-push-clause-back
returns-in_err-push-clause-back g c =
    let begun = ap (at_walk g.D.Disk.state g.D.Disk.streams g.D.Disk.faults g.D.Disk.answered
    (λ walk streams. progress g.S.Sorter.order walk streams)) c.into_iter-entry-iterator.ensures.into_iter_gives
    ∙ c.in_ok-entry-items.ensures.begun in
    let back = left_back g.D.Disk.state g.D.Disk.streams g.D.Disk.faults g.D.Disk.answered (λ walk streams. progress g.S.Sorter.order walk streams) g.S.Sorter.order c.args.walk
    (g.D.Disk.streams c.args.disk.now)
    (g.D.Disk.streams c.drop-entry-iterator-in_err-push.new.self.0)
    c.into_iter-entry-iterator.result c.loop-entry.yielded c.loop-entry.entry-iterator c.next.result c.next.new.self begun c.loop-entry.yielded_by
    c.next.ensures.steps c.drop-entry-iterator-in_err-push.ensures.back in
    search rules

pub returns-in_err-entry-clause-back : goal.returns-in_err-entry-clause-back
returns-in_err-entry-clause-back g c =
    let begun = ap (at_walk g.D.Disk.state g.D.Disk.streams g.D.Disk.faults g.D.Disk.answered
    (λ walk streams. progress g.S.Sorter.order walk streams)) c.into_iter-entry-iterator.ensures.into_iter_gives
    ∙ c.in_ok-entry-items.ensures.begun in
    let back = left_back g.D.Disk.state g.D.Disk.streams g.D.Disk.faults g.D.Disk.answered (λ walk streams. progress g.S.Sorter.order walk streams) g.S.Sorter.order c.args.walk
    (g.D.Disk.streams c.args.disk.now)
    (g.D.Disk.streams c.drop-entry-iterator.new.self.0) c.into_iter-entry-iterator.result c.loop-entry.yielded c.loop-entry.entry-iterator c.next.result c.next.new.self begun c.loop-entry.yielded_by
    c.next.ensures.steps c.drop-entry-iterator.ensures.back in
    search rules

-- an error is the next item after the entries
pub returns-in_err-entry-clause-first : goal.returns-in_err-entry-clause-first
returns-in_err-entry-clause-first g c =
    let error = c.in_err-entry.field-0.0 in
    let entries = c.loop-entry.entries.items in
    let same = c.into_iter-entry-iterator.ensures.into_iter_gives in
    let begun = ap (at_walk g.D.Disk.state g.D.Disk.streams g.D.Disk.faults g.D.Disk.answered (λ walk streams. progress g.S.Sorter.order walk streams)) same ∙ c.in_ok-entry-items.ensures.begun in
    let given = c.in-Some.is ∙ ap Some c.in_err-entry.was in
    if_told (g.D.Disk.state c.args.disk.now) _ (λ s told.
    if_err c.from_residual-in_err-entry.result error _ c.from_residual-in_err-entry.ensures.1
    (lost_or_first (walking g.S.Sorter.order (tree_of s) c.args.walk) error (is_no_memory error) refl (λ kept.
    let found = begins_on_disk g.D.Disk.state g.D.Disk.streams g.D.Disk.faults g.D.Disk.answered
    (λ walk streams. progress g.S.Sorter.order walk streams) g.S.Sorter.order c.args.walk (g.D.Disk.streams c.args.disk.now) s
    c.into_iter-entry-iterator.result c.loop-entry.yielded c.loop-entry.entry-iterator (Err error) c.next.new.self begun
    (ap (λ x. g.D.Disk.state x.disk.now) same ∙ (ap g.D.Disk.state c.in_ok-entry-items.ensures.same ∙ told)) c.loop-entry.yielded_by
    (subst (λ item. NextOn g.D.Disk.state g.D.Disk.streams g.D.Disk.faults g.D.Disk.answered
    (λ walk streams. progress g.S.Sorter.order walk streams) c.loop-entry.entry-iterator item c.next.new.self) given c.next.ensures.steps)
    (subst NoneLost c.loop-entry.invariant.items (entries_kept entries)) kept in
    (entries, found.0, subst (λ items. IsWalk (walking g.S.Sorter.order (tree_of s) c.args.walk) (items ++ Err error ∷ found.0)) (sym c.loop-entry.invariant.items) found.1))))

-- ---- what it cost

-- a walk that was run to its end
pub returns-clause-cost : goal.returns-clause-cost
returns-clause-cost g c =
    let same = c.into_iter-entry-iterator.ensures.into_iter_gives in
    let begun = ap (at_walk g.D.Disk.state g.D.Disk.streams g.D.Disk.faults g.D.Disk.answered (λ walk streams. progress g.S.Sorter.order walk streams)) same ∙ c.in_ok-entry-items.ensures.begun in
    let costs = costs_of_next g.D.Disk.state g.D.Disk.streams g.D.Disk.faults g.D.Disk.answered
    (λ walk streams. progress g.S.Sorter.order walk streams) g.S.Sorter.order c.args.walk (g.D.Disk.streams c.args.disk.now)
    c.into_iter-entry-iterator.result c.loop-entry.yielded c.loop-entry.entry-iterator c.next.result c.next.new.self begun c.loop-entry.yielded_by c.next.ensures.steps in
    let cost = costs_as 0 _ _ _ _ (ap (λ x. g.D.Disk.faults x.disk.now) same ∙ ap g.D.Disk.faults c.in_ok-entry-items.ensures.same) c.drop-entry-iterator-2.ensures.faults (costs_zero _ _ _ costs) in
    search rules

-- memory ran out
pub returns-in_err-push-clause-cost : goal.returns-in_err-push-clause-cost
returns-in_err-push-clause-cost g c =
    let same = c.into_iter-entry-iterator.ensures.into_iter_gives in
    let begun = ap (at_walk g.D.Disk.state g.D.Disk.streams g.D.Disk.faults g.D.Disk.answered (λ walk streams. progress g.S.Sorter.order walk streams)) same ∙ c.in_ok-entry-items.ensures.begun in
    let costs = costs_of_next g.D.Disk.state g.D.Disk.streams g.D.Disk.faults g.D.Disk.answered
    (λ walk streams. progress g.S.Sorter.order walk streams) g.S.Sorter.order c.args.walk (g.D.Disk.streams c.args.disk.now)
    c.into_iter-entry-iterator.result c.loop-entry.yielded c.loop-entry.entry-iterator c.next.result c.next.new.self begun c.loop-entry.yielded_by c.next.ensures.steps in
    let cost = costs_of_error c.from_residual-in_err-push.result no_memory _ _ (search rules)
    (costs_as 0 _ _ _ _ (ap (λ x. g.D.Disk.faults x.disk.now) same ∙ ap g.D.Disk.faults c.in_ok-entry-items.ensures.same) c.drop-entry-iterator-in_err-push.ensures.faults (costs_zero _ _ _ costs)) in
    search rules

-- the walk gave an error
pub returns-in_err-entry-clause-cost : goal.returns-in_err-entry-clause-cost
returns-in_err-entry-clause-cost g c =
    let error = c.in_err-entry.field-0.0 in
    let same = c.into_iter-entry-iterator.ensures.into_iter_gives in
    let begun = ap (at_walk g.D.Disk.state g.D.Disk.streams g.D.Disk.faults g.D.Disk.answered (λ walk streams. progress g.S.Sorter.order walk streams)) same ∙ c.in_ok-entry-items.ensures.begun in
    let costs = costs_of_next g.D.Disk.state g.D.Disk.streams g.D.Disk.faults g.D.Disk.answered
    (λ walk streams. progress g.S.Sorter.order walk streams) g.S.Sorter.order c.args.walk (g.D.Disk.streams c.args.disk.now)
    c.into_iter-entry-iterator.result c.loop-entry.yielded c.loop-entry.entry-iterator (Some (Err error)) c.next.new.self begun c.loop-entry.yielded_by
    (subst (λ item. NextOn g.D.Disk.state g.D.Disk.streams g.D.Disk.faults g.D.Disk.answered (λ walk streams. progress g.S.Sorter.order walk streams) c.loop-entry.entry-iterator item c.next.new.self)
    (c.in-Some.is ∙ ap Some c.in_err-entry.was) c.next.ensures.steps) in
    let cost = costs_of_error c.from_residual-in_err-entry.result error _ _ c.from_residual-in_err-entry.ensures.1
    (costs_as (failures error) _ _ _ _ (ap (λ x. g.D.Disk.faults x.disk.now) same ∙ ap g.D.Disk.faults c.in_ok-entry-items.ensures.same) c.drop-entry-iterator.ensures.faults costs) in
    search rules

-- ---- which call answered an error

-- memory ran out
pub returns-in_err-push-clause-told : goal.returns-in_err-push-clause-told
returns-in_err-push-clause-told g c =
    let told = if_err c.from_residual-in_err-push.result no_memory (λ e. IsToldIn g.D.Disk.answered c.args.disk.now c.drop-entry-iterator-in_err-push.new.self.0 e.inner) (search rules) tt in
    search rules

-- the walk gave an error
pub returns-in_err-entry-clause-told : goal.returns-in_err-entry-clause-told
returns-in_err-entry-clause-told g c =
    let error = c.in_err-entry.field-0.0 in
    let same = c.into_iter-entry-iterator.ensures.into_iter_gives in
    let begun = ap (at_walk g.D.Disk.state g.D.Disk.streams g.D.Disk.faults g.D.Disk.answered (λ walk streams. progress g.S.Sorter.order walk streams)) same ∙ c.in_ok-entry-items.ensures.begun in
    let next = told_next g.D.Disk.state g.D.Disk.streams g.D.Disk.faults g.D.Disk.answered (λ walk streams. progress g.S.Sorter.order walk streams) g.S.Sorter.order c.args.walk
    (g.D.Disk.streams c.args.disk.now)
    c.into_iter-entry-iterator.result c.loop-entry.yielded c.loop-entry.entry-iterator (Some (Err error)) c.next.new.self begun c.loop-entry.yielded_by
    (subst (λ item. NextOn g.D.Disk.state g.D.Disk.streams g.D.Disk.faults g.D.Disk.answered (λ walk streams. progress g.S.Sorter.order walk streams) c.loop-entry.entry-iterator item c.next.new.self)
    (c.in-Some.is ∙ ap Some c.in_err-entry.was) c.next.ensures.steps) in
    let dropped = told_later g.D.Disk.answered c.into_iter-entry-iterator.result.disk.now c.next.new.self.disk.now c.drop-entry-iterator.new.self.0
    (Some (Err error)) c.drop-entry-iterator.ensures.answered next in
    let told = if_err c.from_residual-in_err-entry.result error (λ e. IsToldIn g.D.Disk.answered c.args.disk.now c.drop-entry-iterator.new.self.0 e.inner) c.from_residual-in_err-entry.ensures.1
    (subst (λ d. IsToldIn g.D.Disk.answered d c.drop-entry-iterator.new.self.0 error.inner) (ap (λ x. x.disk.now) same ∙ c.in_ok-entry-items.ensures.same) dropped) in
    search rules
