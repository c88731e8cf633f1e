-- What was already read of a directory is taken from its front.
use Rattle.std.proofs.Common.{◌≡◌, ◌+◌, ◌<◌, ◌≤◌, None, ap, length, length-set, refl, reverse, set, subst, suc, sym, ◌∙◌, arith}
use Rattle.odb_disk.specs.Streams.{Streams}
use Rattle.walkdir.specs.Progress.{Keeps, Progress}
use Rattle.walkdir.specs.Directory.{held, left_in, stream_in}
use Rattle.walkdir.specs.StackProgress.{progress}
use Rattle.walkdir.specs.Turns.{TakesWork}
use Rattle.walkdir.proofs.DrawsLemmas.Child.{draws_held}
use Rattle.walkdir.proofs.DrawsLemmas.Puts.{is_top, top_depth, was_top}
use Rattle.walkdir.proofs.FailuresLaws.{costs_none}
use Rattle.walkdir.proofs.HeldLemmas.{held_closed, held_fails, held_few, held_item_at, held_none, held_rest_at, held_skips, if_taken}
use Rattle.walkdir.proofs.InnermostLemmas.{from_top}
use Rattle.walkdir.proofs.DirectoryLemmas.{goes_held, left_held, put_takes}
use Rattle.walkdir.proofs.SoundLemmas.{is_sound_of, sound_of}
use Rattle.walkdir.proofs.StackLemmas.At.{fit_at, held_at, one_at, puts_above, puts_set, shallow_held}
use Rattle.walkdir.proofs.StackLemmas.Sound.{sound_put}
use Rattle.walkdir.proofs.WorkLemmas.{less_same}
use Rattle.walkdir.specs.declared.directory.DirList.{DirList}
use Rattle.walkdir.proofs.AnsweredLemmas.{item_held, leads_still, stack_put, taken_told, top_told}
use Rattle.walkdir.proofs.RefusedLemmas.{drawn_at}
use Rattle.walkdir.proofs.StepLemmas.{Same}
use Rattle.walkdir.proofs.stack.Stack.next_child.Goals as goal

pub invariant_of-self-clause-sound : goal.invariant_of-self-clause-sound
unfolding puts_set
invariant_of-self-clause-sound g c =
    let walk = c.args.self.now in
    let lists = walk.lists.items in
    let list = c.index_mut-list.result.now in
    let items = c.take_first.new.self in
    let within : c.args.index < length lists = omega (arith, c.requires.index) in
    let at = c.index_mut-list.ensures.value in
    let sound = sound_of walk.options walk.start lists walk.first_open walk.some_open walk.in_range walk.few walk.sound in
    let fit = fit_at walk.options walk.start lists walk.first_open c.args.index list sound within at in
    is_sound_of walk.options walk.start (set lists c.args.index (record list { items = items })) walk.first_open
    (sound_put walk.options walk.start lists (set lists c.args.index (record list { items = items })) walk.first_open c.args.index items sound
    (puts_set lists c.args.index list items within at) (held_closed list.items c.take_first.result items c.take_first.ensures.takes)
    (held_rest_at list.path (c.args.index + 1) list.items c.take_first.result items c.take_first.ensures.takes fit.children)
    (λ deep. held_none list.items c.take_first.result items c.take_first.ensures.takes (fit.deepest deep).nothing))

pub invariant_of-self-clause-in_range : goal.invariant_of-self-clause-in_range
invariant_of-self-clause-in_range g c =
    let walk = c.args.self.now in
    let same = length-set walk.lists.items c.args.index (record c.index_mut-list.result.now { items = c.take_first.new.self }) in
    subst (λ n. walk.first_open ≤ n) (sym same) walk.in_range

pub invariant_of-self-clause-few : goal.invariant_of-self-clause-few
invariant_of-self-clause-few g c =
    let walk = c.args.self.now in
    let same = length-set walk.lists.items c.args.index (record c.index_mut-list.result.now { items = c.take_first.new.self }) in
    subst (λ n. n ≤ walk.first_open + walk.options.max_open) (sym same) walk.few

-- the first of what was already read is taken, or there is nothing
pub returns : goal.returns
returns g c =
    let walk = c.args.self.now in
    let index = c.args.index in
    let lists = walk.lists.items in
    let list = c.index_mut-list.result.now in
    let items = c.take_first.new.self in
    let item = c.take_first.result in
    let takes = c.take_first.ensures.takes in
    let within : index < length lists = omega (arith, c.requires.index) in
    let at = c.index_mut-list.ensures.value in
    let after_lists = set lists index (record list { items = items }) in
    let streams = g.D.Disk.streams c.args.disk.now in
    let faults = g.D.Disk.faults c.args.disk.now in
    let old = progress g.S.Sorter.order walk streams in
    let new : Progress = record old { stack = reverse after_lists } in
    let same : Same old new = record { options = refl; order = refl; start = refl } in
    let puts = puts_set lists index list items within at in
    let sound = sound_of walk.options walk.start lists walk.first_open walk.some_open walk.in_range walk.few walk.sound in
    let none : stream_in list.items ≡ None =
    ap (λ (l : DirList). stream_in l.items) (sym (one_at lists index c.index.result.now list within c.index.ensures at))
    ∙ sym c.in_default.ensures.told in
    let was = was_top old new lists after_lists index items list refl refl puts at c.requires.index in
    let is = is_top old new lists after_lists index items list refl refl puts at c.requires.index in
    let depth = top_depth old new lists after_lists index items list refl refl puts at in
    let closed = held_closed list.items item items takes in
    let from = from_top (reverse after_lists) (record list { items = items }) (reverse puts.outer) index item is depth
    (held_item_at list.path (index + 1) list.items item items takes
    (held_at walk.options walk.start lists walk.first_open index list sound within at)) in
    record {
      goes = goes_held old new lists after_lists index items list same refl refl puts at _ faults faults none closed refl
          (held_few list.items item items takes) (held_fails list.items item items takes) (costs_none faults faults (omega arith))
          (held_skips list.items item items takes);
      kept = record {
        options = refl;
        sorter = refl;
        start = refl;
        device = refl;
        entered = refl;
        count = length-set lists index (record list { items = items });
        above = puts_above lists after_lists index items puts;
      };
      from = from;
      less = if_taken list.items item items ((index < walk.options.max_depth) × ((before : Streams) → Keeps before old → TakesWork old new index))
          takes
          (λ first first_is. (
            shallow_held walk.options walk.start lists walk.first_open index list first (held items) sound within at first_is,
            λ before keeps.
                let were : left_in streams list.items ≡ length (held list.items) = left_held streams list.items none in
                let are : left_in streams items ≡ length (held items) = left_held streams items closed in
                let one : length (held list.items) ≡ suc (length (held items)) = ap length first_is in
                put_takes old new lists after_lists index items list same refl refl puts at before c.requires.index keeps
                (less_same streams streams refl) (omega arith),
          ));
      answered = record {
        leads = leads_still g.D.Disk.answered c.args.disk.now;
        told = λ first told.
            let taken = taken_told g.D.Disk.answered first c.args.disk.now list.items item items takes
            (top_told g.D.Disk.answered first c.args.disk.now list (reverse lists) (reverse puts.outer) was told) in (
              stack_put g.D.Disk.answered first c.args.disk.now lists after_lists index items puts told taken.0,
              item_held g.D.Disk.answered first c.args.disk.now item taken.1,
            );
        refused = λ first told.
            let taken = taken_told g.D.Disk.answered first c.args.disk.now list.items item items takes
            (top_told g.D.Disk.answered first c.args.disk.now list (reverse lists) (reverse puts.outer) was told) in
            drawn_at g.D.Disk.answered first c.args.disk.now item (reverse after_lists) from taken.1;
      };
      state = refl;
      draws = draws_held old new list items (reverse puts.outer) was is item takes none refl;
    }
