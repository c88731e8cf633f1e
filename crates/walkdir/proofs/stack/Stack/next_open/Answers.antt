-- An open stream is over, gives an entry, or fails and is closed.
use Rattle.std.proofs.Common.{◌≡◌, ◌+◌, ◌<◌, ◌≤◌, Some, ap, drop, length, refl, reverse, suc, sym, subst, take, ◌∙◌, arith}
use Rattle.std.specs.Option.{option_map}
use lib.ListN.{length-reverse}
use Rattle.walkdir.specs.Error.{failures}
use Rattle.walkdir.specs.Failures.{Costs, failures_among, failures_of}
use Rattle.std.specs.Prelude.{Ok, Err, Option}
use Rattle.walkdir.specs.Directory.{IsAt, left_in}
use Rattle.walkdir.specs.StackProgress.{progress}
use Rattle.walkdir.specs.Turns.Drawn.{BreaksOff, Draws, DrawsEntry, left_of}
use Rattle.walkdir.specs.Walk.{Item}
use Rattle.walkdir.specs.declared.directory.DirList.{DirList}
use Rattle.walkdir.specs.declared.directory.Items.TheVariants.{Closed}
use Rattle.walkdir.proofs.DrawsLemmas.Child.{draws_broken_off, draws_next, draws_over}
use Rattle.walkdir.proofs.DrawsLemmas.Puts.{is_top, top_depth, was_top}
use Rattle.walkdir.proofs.InnermostLemmas.{from_top}
use Rattle.walkdir.proofs.SkippedLemmas.{stream_open}
use Rattle.walkdir.proofs.DirectoryLemmas.{goes_closed, left_stream, put_takes, takes_work}
use Rattle.walkdir.proofs.ReadLemmas.{draws_drawn, entry_left}
use Rattle.walkdir.proofs.SoundLemmas.{sound_of}
use Rattle.walkdir.proofs.StackLemmas.At.{cut_at, cut_length, one_at, shallow_stream, top_cut}
use Rattle.walkdir.proofs.StackLemmas.{reversed_at}
use Rattle.walkdir.proofs.StepLemmas.{Same, goes_drawn, keeps_drawn}
use Rattle.walkdir.proofs.WorkLemmas.{LeftLess, less_closed, less_drawn}
use Rattle.walkdir.specs.AnsweredTurns.{IsItemHeld}
use Rattle.walkdir.proofs.AnsweredLemmas.{drawn_wider, item_held, leads_by, leads_then, none_told, stack_later, stack_put}
use Rattle.walkdir.proofs.RefusedLemmas.{drawn_at}
use Rattle.walkdir.proofs.stack.Stack.next_open.Goals as goal

-- the stream is over
pub returns-in-None-clause-draws : goal.returns-in-None-clause-draws
returns-in-None-clause-draws g c =
    let lists = c.args.self.now.lists.items in
    let list = c.requires.dir.list in
    let old = progress g.S.Sorter.order c.args.self.now (g.D.Disk.streams c.args.disk.now) in
    let new = progress g.S.Sorter.order c.args.self.now (g.D.Disk.streams c.next_of.new.disk) in
    draws_over old new list (reverse (take c.args.index lists)) c.args.dir (top_cut lists c.args.index list c.requires.index c.requires.dir.at)
    refl c.requires.dir.own c.in-None.ensures.draws.0
    c.in-None.ensures.draws.1

pub returns-in-None-clause-answered : goal.returns-in-None-clause-answered
returns-in-None-clause-answered g c =
    let leads = c.in-None.ensures.answered.leads in
    record {
      leads = leads;
      told = λ first told. (
        stack_later g.D.Disk.answered first c.args.disk.now c.next_of.new.disk (reverse c.args.self.now.lists.items) told leads,
        tt,
      );
      refused = λ first told. tt;
    }

-- an entry is drawn from the stream
pub returns-in-Some-Ok : goal.returns-in-Some-Ok
returns-in-Some-Ok g c =
    let walk = c.args.self.now in
    let index = c.args.index in
    let dir = c.args.dir in
    let lists = walk.lists.items in
    let list = c.requires.dir.list in
    let path = c.index.result.now.path in
    let entry = c.in-Some-Ok.entry in
    let outer = reverse (take index lists) in
    let within : index < length lists = omega (arith, c.requires.index) in
    let same_list = one_at lists index c.index.result.now list within c.index.ensures c.requires.dir.at in
    let streams = g.D.Disk.streams c.args.disk.now in
    let less_streams = g.D.Disk.streams c.next_of.new.disk in
    let old = progress g.S.Sorter.order walk streams in
    let new = progress g.S.Sorter.order walk less_streams in
    let same : Same old new = record { options = refl; order = refl; start = refl } in
    let top = top_cut lists index list c.requires.index c.requires.dir.at in
    let depth : length outer ≡ index = length-reverse (take index lists) ∙ cut_length lists index within in
    let draws = subst (λ item. Draws (index + 1) path streams dir (Some item) less_streams) c.in-Some-Ok.field-0-is c.in-Some-Ok.ensures.draws in
    let drawn = draws_drawn (index + 1) path streams dir entry less_streams draws in
    let fewer = entry_left (index + 1) path streams dir entry less_streams draws in
    let less = less_drawn streams dir less_streams drawn in
    let leads = c.in-Some-Ok.ensures.answered.leads in
    record {
      goes = goes_drawn old new 0 (g.D.Disk.faults c.args.disk.now) (g.D.Disk.faults c.next_of.new.disk) same refl less
          (keeps_drawn old new (reverse (drop (suc index) lists)) list outer dir same
          (ap reverse (cut_at lists index list within c.requires.dir.at) ∙ reversed_at (take index lists) list (drop (suc index) lists))
          c.requires.dir.own refl drawn)
          (subst (λ item. Costs (failures_of item) (g.D.Disk.faults c.args.disk.now) (g.D.Disk.faults c.next_of.new.disk)) c.in-Some-Ok.field-0-is
          c.in-Some-Ok.ensures.cause);
      kept = record {
        options = refl;
        sorter = refl;
        start = refl;
        device = refl;
        entered = refl;
        count = refl;
        above = refl;
      };
      from = from_top (reverse lists) list outer index (Some (Ok entry)) top depth (
        stream_open list.items dir c.requires.dir.own,
        subst (λ (l : DirList). IsAt l.path (index + 1) (Ok entry)) same_list
            (subst (λ item. IsAt path (index + 1) item) c.in-Some-Ok.field-0-is c.in-Some-Ok.ensures.at),
      );
      less = (
        shallow_stream walk.options walk.start lists walk.first_open index list dir
            (sound_of walk.options walk.start lists walk.first_open walk.some_open walk.in_range walk.few walk.sound) within
            c.requires.dir.at c.requires.dir.own,
        λ before keeps.
            let was : left_in streams list.items ≡ left_of streams dir + 1 = left_stream streams list.items dir c.requires.dir.own in
            let is : left_in less_streams list.items ≡ left_of less_streams dir + 1 =
            left_stream less_streams list.items dir c.requires.dir.own in
            let left : left_in less_streams list.items + 1 ≤ left_in streams list.items = omega arith in
            takes_work old new list list outer index before same top top depth keeps less left,
      );
      answered = record {
        leads = leads;
        told = λ first told. (stack_later g.D.Disk.answered first c.args.disk.now c.next_of.new.disk (reverse lists) told leads, tt);
        refused = λ first told. tt;
      };
      state = c.in-Some-Ok.ensures.kept;
      draws = draws_next old new list outer dir top refl c.requires.dir.own entry
          (subst (λ n. DrawsEntry (n + 1) list.path streams dir entry less_streams) (sym depth)
          (subst (λ (l : DirList). DrawsEntry (index + 1) l.path streams dir entry less_streams) same_list draws));
    }

-- the stream fails, and is closed
pub returns-in-Some-Err : goal.returns-in-Some-Err
returns-in-Some-Err g c =
    let walk = c.args.self.now in
    let index = c.args.index in
    let dir = c.args.dir in
    let lists = walk.lists.items in
    let after_lists = c.put.new.self.lists.items in
    let list = c.requires.dir.list in
    let path = c.index.result.now.path in
    let error = c.in-Some-Err.error in
    let item : Option Item = Some (Err error) in
    let within : index < length lists = omega (arith, c.requires.index) in
    let same_list = one_at lists index c.index.result.now list within c.index.ensures c.requires.dir.at in
    let streams = g.D.Disk.streams c.args.disk.now in
    let less_streams = g.D.Disk.streams c.next_of.new.disk in
    let faults = g.D.Disk.faults c.args.disk.now in
    let old = progress g.S.Sorter.order walk streams in
    let new = progress g.S.Sorter.order c.put.new.self (g.D.Disk.streams c.close_dir.new.self) in
    let items = Closed c.new.result in
    let puts = c.put.ensures.lists in
    let kept = c.put.ensures.kept in
    let same : Same old new = record { options = kept.options; order = ap (option_map g.S.Sorter.order) kept.sorter; start = kept.start } in
    let short : length c.new.result.items ≡ 0 = ap length c.new.ensures.items in
    let none : failures_among c.new.result.items ≡ 0 = ap failures_among c.new.ensures.items in
    let was = was_top old new lists after_lists index items list refl refl puts c.requires.dir.at c.requires.index in
    let is = is_top old new lists after_lists index items list refl refl puts c.requires.dir.at c.requires.index in
    let depth = top_depth old new lists after_lists index items list refl refl puts c.requires.dir.at in
    let draws = subst (λ i. Draws (index + 1) path streams dir (Some i) less_streams) c.in-Some-Err.field-0-is c.in-Some-Err.ensures.draws in
    let cost = subst (λ i. Costs (failures_of i) faults (g.D.Disk.faults c.next_of.new.disk)) c.in-Some-Err.field-0-is c.in-Some-Err.ensures.cause in
    let from = from_top (reverse after_lists) (record list { items = items }) (reverse puts.outer) index item is depth (
      refl,
      subst (λ (l : DirList). IsAt l.path (index + 1) (Err error)) same_list
          (subst (λ i. IsAt path (index + 1) i) c.in-Some-Err.field-0-is c.in-Some-Err.ensures.at),
    ) in
    let drawn = c.in-Some-Err.ensures.answered in
    let given : IsItemHeld g.D.Disk.answered c.args.disk.now c.next_of.new.disk item =
    subst (λ i. IsItemHeld g.D.Disk.answered c.args.disk.now c.next_of.new.disk (Some i)) c.in-Some-Err.field-0-is drawn.told in
    let closed = leads_by g.D.Disk.answered c.next_of.new.disk c.close_dir.new.self c.close_dir.ensures.answered in
    let leads = leads_then g.D.Disk.answered c.args.disk.now c.next_of.new.disk c.close_dir.new.self drawn.leads closed in
    record {
      goes = goes_closed old new lists after_lists index items list same refl refl puts c.requires.dir.at dir less_streams
          (failures error) (failures error) faults (g.D.Disk.faults c.close_dir.new.self) c.requires.dir.own refl draws.1
          c.close_dir.ensures.closed (omega arith) (omega arith)
          (subst (λ n. Costs (failures error) faults n) (sym c.close_dir.ensures.faults) cost) refl;
      kept = kept;
      from = from;
      less = (
        shallow_stream walk.options walk.start lists walk.first_open index list dir
            (sound_of walk.options walk.start lists walk.first_open walk.some_open walk.in_range walk.few walk.sound) within
            c.requires.dir.at c.requires.dir.own,
        λ before keeps.
            let open_left : left_in streams list.items ≡ left_of streams dir + 1 = left_stream streams list.items dir c.requires.dir.own in
            put_takes old new lists after_lists index items list same refl refl puts c.requires.dir.at before c.requires.index keeps
            (subst (LeftLess streams) (sym c.close_dir.ensures.closed) (less_closed streams dir less_streams draws.1)) (omega arith),
      );
      answered = record {
        leads = leads;
        told = λ first told. (
          stack_put g.D.Disk.answered first c.close_dir.new.self lists after_lists index items puts
              (stack_later g.D.Disk.answered first c.args.disk.now c.close_dir.new.self (reverse lists) told leads)
              (none_told g.D.Disk.answered first c.close_dir.new.self c.new.result.items c.new.ensures.items),
          item_held g.D.Disk.answered first c.close_dir.new.self item
              (drawn_wider g.D.Disk.answered first c.args.disk.now c.next_of.new.disk c.close_dir.new.self item told.leads given closed),
        );
        refused = λ first told.
            drawn_at g.D.Disk.answered first c.close_dir.new.self item (reverse after_lists) from
            (drawn_wider g.D.Disk.answered first c.args.disk.now c.next_of.new.disk c.close_dir.new.self item told.leads given closed);
      };
      state = c.close_dir.ensures.kept ∙ c.in-Some-Err.ensures.kept;
      draws = draws_broken_off old new list items (reverse puts.outer) was is dir error less_streams c.requires.dir.own refl c.new.ensures.items
          (subst (λ n. BreaksOff (n + 1) streams dir error) (sym depth) draws.0) draws.1 c.close_dir.ensures.closed;
    }
