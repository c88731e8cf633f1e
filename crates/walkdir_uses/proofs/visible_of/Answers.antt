use Rattle.std.proofs.Common.{◌≡◌, true, map, Ok, refl, sym, ap, subst, ◌∙◌, rules}
use Rattle.walkdir.proofs.FilteredWalks.{all_accepted}
use Rattle.walkdir.proofs.WholeWalks.{entries_kept, if_told}
use Rattle.odb_disk.specs.Tree.{tree_of}
use Rattle.walkdir.specs.BuiltWalk.{walking}
use Rattle.walkdir.specs.Error.{is_no_memory}
use Rattle.walkdir.specs.Failures.{failures_of}
use Rattle.walkdir.specs.OnDisk.{at_walk}
use Rattle.walkdir.specs.StackProgress.{progress}
use Rattle.walkdir.specs.declared.iter.OnDisk.{OnDisk}
use Rattle.walkdir.specs.declared.sort.NoSort.{NoSort}
use Rattle.walkdir.specs.declared.stack.Stack.{Stack}
use Rattle.walkdir_uses.proofs.CostLemmas.{Passed, passed}
use Rattle.walkdir_uses.proofs.FoundLemmas.{begun_unbegun, if_err_then, if_ok_then, stopped_in}
use Rattle.walkdir_uses.specs.Found.{as_given, is_visible}
use Rattle.walkdir_uses.proofs.visible_of.Goals as goal

-- each entry that is given was accepted, and the walk went on as a filtered one does
pub returns : goal.returns
returns g c =
    let went = passed g.D.Disk.state g.D.Disk.streams g.D.Disk.faults g.D.Disk.answered (λ walk streams. progress as_given walk streams) _
    (λ found. found.items) c.all_of-entries.result c.filter_entry-visible.result
    c.all_of-entries.new.walk c.all_of-entries.ensures.whole c.all_of-entries.ensures.part in
    let there : Passed g.D.Disk.state g.D.Disk.streams g.D.Disk.faults g.D.Disk.answered (λ walk streams. progress as_given walk streams) c.args.walk c.into_inner.result
    (failures_of c.all_of-entries.result) =
    subst (λ s. Passed g.D.Disk.state g.D.Disk.streams g.D.Disk.faults g.D.Disk.answered (λ walk streams. progress as_given walk streams) s c.into_inner.result
    (failures_of c.all_of-entries.result)) c.filter_entry-visible.ensures.walk
    (subst (λ u. Passed g.D.Disk.state g.D.Disk.streams g.D.Disk.faults g.D.Disk.answered (λ walk streams. progress as_given walk streams) c.filter_entry-visible.result.walk u
    (failures_of c.all_of-entries.result)) (sym c.into_inner.ensures.walk) went) in
    let law = c.filter_entry-visible.ensures.gives is_visible (λ f h entry answer called. let says = called.called in let shows = called.shows in search rules) in
    let at = λ (x : OnDisk g.row.D.Denot (Stack NoSort)). at_walk g.D.Disk.state g.D.Disk.streams g.D.Disk.faults g.D.Disk.answered (λ walk streams. progress as_given walk streams) x in
    record {
      first = λ built before begins.
          if_told (g.D.Disk.state c.args.walk.disk.now) _ (λ s told.
          if_err_then c.all_of-entries.result _ _ c.all_of-entries.ensures.part (λ error found.
          stopped_in (walking as_given (tree_of s) built) is_visible error (is_no_memory error) refl found.0 found.2
          (law.begins (walking as_given (tree_of s) built) s found.0 c.all_of-entries.new.walk refl
          (ap (λ x. g.D.Disk.state x.disk.now) c.filter_entry-visible.ensures.walk ∙ told)
          (begun_unbegun as_given built before (tree_of s) (at c.filter_entry-visible.result.walk) (ap at c.filter_entry-visible.ensures.walk ∙ begins)) found.1)));
      entries = λ built before begins.
          if_told (g.D.Disk.state c.args.walk.disk.now) _ (λ s told.
          if_ok_then c.all_of-entries.result _ _ c.all_of-entries.ensures.whole (λ entries found.
          law.whole (walking as_given (tree_of s) built) s (map Ok entries.items) found.0 c.all_of-entries.new.walk refl
          (ap (λ x. g.D.Disk.state x.disk.now) c.filter_entry-visible.ensures.walk ∙ told)
          (begun_unbegun as_given built before (tree_of s) (at c.filter_entry-visible.result.walk) (ap at c.filter_entry-visible.ensures.walk ∙ begins)) found.1 found.2
          (entries_kept entries.items)));
      disk = there.kept.disk;
      visible = if_ok_then c.all_of-entries.result _ _ c.all_of-entries.ensures.whole (λ entries found.
          all_accepted g.D.Disk.state g.D.Disk.streams g.D.Disk.faults g.D.Disk.answered (λ walk streams. progress as_given walk streams) (λ entry. is_visible entry ≡ true)
          (λ f h entry accepted. let called = accepted.called in let shows = accepted.shows in search rules) entries.items _ found.0 found.1);
      state = there.kept.tells;
      options = there.kept.options;
      keeps = there.kept.keeps;
      cost = there.fails;
    }
