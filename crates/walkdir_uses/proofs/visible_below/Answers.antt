use Rattle.std.proofs.Common.{map, Ok, ap, subst, ◌∙◌, rules}
use Rattle.std.specs.Prelude.{IfErr, IfOk, IfSome}
use Rattle.odb_disk.specs.Tree.{tree_of}
use Rattle.walkdir.proofs.FilteredWalks.{Kept, filtered_back}
use Rattle.walkdir.proofs.WholeWalks.{if_told}
use Rattle.walkdir.specs.BuiltWalk.{walking}
use Rattle.walkdir.specs.Failures.{failures_of, waiting}
use Rattle.walkdir.specs.FilteredWalk.{IsFilteredWalk}
use Rattle.walkdir.specs.Progress.{Progress}
use Rattle.walkdir.specs.StackProgress.{progress}
use Rattle.walkdir.specs.Walk.{Walking}
use Rattle.walkdir.proofs.FailuresLaws.{costs_as, costs_begun}
use Rattle.walkdir_uses.proofs.FoundLemmas.{back_default, walks_below}
use Rattle.walkdir_uses.specs.Found.{IsStoppedIn, as_given, is_visible}
use Rattle.walkdir_uses.proofs.visible_below.Goals as goal

-- the disk is back when the walk is dropped, which is still on it
pub returns : goal.returns
returns g c =
    let walk = c.in_ok-walk.walk in
    let seen = c.visible_of-walk.result in
    let built = c.in_ok-new.field-0 in
    let kept : Kept g.D.Disk.state g.D.Disk.streams g.D.Disk.faults g.D.Disk.answered (λ walk streams. progress as_given walk streams) walk seen = record {
      tells = c.visible_of-walk.ensures.state;
      disk = c.visible_of-walk.ensures.disk;
      options = c.visible_of-walk.ensures.options;
      keeps = c.visible_of-walk.ensures.keeps;
    } in
    let state = c.drop.ensures.state ∙ c.visible_of-walk.ensures.state ∙ ap g.D.Disk.state c.in_ok-walk.ensures.same in
    let back = back_default (g.D.Disk.streams c.args.disk.now) (g.D.Disk.streams c.drop.new.self.0) built.options c.in_ok-new.ensures.options
    (filtered_back g.D.Disk.state g.D.Disk.streams g.D.Disk.faults g.D.Disk.answered (λ walk streams. progress as_given walk streams) as_given built
    (g.D.Disk.streams c.args.disk.now) (g.D.Disk.streams c.drop.new.self.0)
    walk seen c.in_ok-walk.ensures.begun kept c.drop.ensures.back) in
    let cost = costs_as (failures_of c.visible_of-walk.new.found) (g.D.Disk.faults walk.disk.now) (g.D.Disk.faults seen.disk.now) (g.D.Disk.faults c.args.disk.now) (g.D.Disk.faults c.drop.new.self.0)
    (ap g.D.Disk.faults c.in_ok-walk.ensures.same) c.drop.ensures.faults
    (costs_begun (progress as_given walk.walk (g.D.Disk.streams walk.disk.now)) (progress as_given seen.walk (g.D.Disk.streams seen.disk.now)) (g.D.Disk.faults walk.disk.now)
    (g.D.Disk.faults seen.disk.now)
    (failures_of c.visible_of-walk.new.found) (ap (λ (p : Progress). waiting p.stack) c.in_ok-walk.ensures.begun) c.visible_of-walk.ensures.cost) in
    record {
      entries = if_told (g.D.Disk.state c.args.disk.now) _ (λ s told.
          subst (λ (walk : Walking). IfOk c.visible_of-walk.new.found (λ entries. IsFilteredWalk walk is_visible (map Ok entries.items)))
          (walks_below as_given built c.args.folder.now (tree_of s) c.in_ok-new.ensures.root c.in_ok-new.ensures.options c.in_ok-new.ensures.sorter)
          (subst (λ o. IfSome o (λ x. IfOk c.visible_of-walk.new.found (λ entries. IsFilteredWalk (walking as_given (tree_of x) built) is_visible (map Ok entries.items))))
          (ap g.D.Disk.state c.in_ok-walk.ensures.same ∙ told) (c.visible_of-walk.ensures.entries built (g.D.Disk.streams c.args.disk.now) c.in_ok-walk.ensures.begun)));
      first = if_told (g.D.Disk.state c.args.disk.now) _ (λ s told.
          subst (λ (walk : Walking). IfErr c.visible_of-walk.new.found (IsStoppedIn walk is_visible))
          (walks_below as_given built c.args.folder.now (tree_of s) c.in_ok-new.ensures.root c.in_ok-new.ensures.options c.in_ok-new.ensures.sorter)
          (subst (λ o. IfSome o (λ x. IfErr c.visible_of-walk.new.found (IsStoppedIn (walking as_given (tree_of x) built) is_visible)))
          (ap g.D.Disk.state c.in_ok-walk.ensures.same ∙ told) (c.visible_of-walk.ensures.first built (g.D.Disk.streams c.args.disk.now) c.in_ok-walk.ensures.begun)));
      visible = search rules;
      cost = search rules;
      state = search rules;
      back = search rules;
    }
