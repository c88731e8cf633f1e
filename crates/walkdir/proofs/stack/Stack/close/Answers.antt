-- A directory whose rest was read stands for what it stood for.
use Rattle.std.proofs.Common.{◌+◌, ap, refl, reverse, suc, sym, subst, take, drop, ◌∙◌, arith}
use Rattle.std.specs.Option.{option_map}
use Rattle.walkdir.specs.Failures.{Costs, failures_among}
use Rattle.walkdir.specs.Directory.{AreAt}
use Rattle.walkdir.specs.Stack.{own_streams}
use Rattle.walkdir.specs.StackProgress.{progress}
use Rattle.walkdir.specs.declared.directory.DirList.{DirList}
use Rattle.walkdir.specs.declared.directory.Items.TheVariants.{Closed}
use Rattle.walkdir.proofs.DrawsLemmas.Puts.{close_stands, stands_alike}
use Rattle.walkdir.proofs.FailuresLaws.{costs_zero}
use Rattle.walkdir.proofs.DirectoryLemmas.{goes_closed}
use Rattle.walkdir.proofs.SoundLemmas.{sound_of}
use Rattle.walkdir.proofs.StackLemmas.At.{closed_past, cut_at, cut_length, no_deep_stream, one_at}
use Rattle.walkdir.proofs.StackLemmas.{closed_put, reversed_at}
use Rattle.walkdir.proofs.StepLemmas.{goes_drawn, keeps_drawn}
use Rattle.walkdir.proofs.WorkLemmas.{less_drawn}
use Rattle.walkdir.proofs.AnsweredLemmas.{leads_by, leads_then, stack_later, stack_put, are_wider}
use Rattle.walkdir.proofs.AnsweredLemmas.Steps.{tells_called, tells_still}
use Rattle.walkdir.proofs.stack.Stack.close.Goals as goal

pub returns-in_default-clause-closed : goal.returns-in_default-clause-closed
returns-in_default-clause-closed g c closed =
    let lists = c.args.self.now.lists.items in
    let list = c.index-list.result.now in
    closed_past (take c.args.index lists) list (drop (suc c.args.index) lists) lists c.args.index (cut_length lists c.args.index c.requires.index)
    (cut_at lists c.args.index list c.requires.index c.index-list.ensures) (sym c.in_default.ensures.told) closed

pub returns-in_err-items-clause-goes : goal.returns-in_err-items-clause-goes
returns-in_err-items-clause-goes g c =
    let lists = c.args.self.now.lists.items in
    let list = c.index-list.result.now in
    let outer = take c.args.index lists in
    let inner = drop (suc c.args.index) lists in
    let old = progress g.S.Sorter.order c.args.self.now (g.D.Disk.streams c.args.disk.now) in
    let new = progress g.S.Sorter.order c.args.self.now (g.D.Disk.streams c.rest_of.new.disk) in
    goes_drawn old new 0 (g.D.Disk.faults c.args.disk.now) (g.D.Disk.faults c.rest_of.new.disk)
    (record { options = refl; order = refl; start = refl }) refl
    (less_drawn (g.D.Disk.streams c.args.disk.now) c.in-Some.dir (g.D.Disk.streams c.rest_of.new.disk) c.in_err-items.ensures.drawn)
    (keeps_drawn old new (reverse inner) list (reverse outer) c.in-Some.dir (record { options = refl; order = refl; start = refl })
    (ap reverse (cut_at lists c.args.index list c.requires.index c.index-list.ensures) ∙ reversed_at outer list inner)
    (sym c.in-Some.ensures.told) refl c.in_err-items.ensures.drawn)
    (costs_zero _ _ _ c.in_err-items.ensures.cause)

pub put-requires-clause-children : goal.put-requires-clause-children
put-requires-clause-children g c list at =
    let lists = c.args.self.now.lists.items in
    subst (λ (l : DirList). AreAt l.path (c.args.index + 1) c.in_ok-items.items.items)
    (one_at lists c.args.index c.index-list.result.now list c.requires.index c.index-list.ensures at)
    c.in_ok-items.ensures.children

pub put-requires-clause-deepest : goal.put-requires-clause-deepest
put-requires-clause-deepest g c deep =
    let walk = c.args.self.now in
    absurd (no_deep_stream walk.options walk.start walk.lists.items walk.first_open c.args.index c.index-list.result.now c.in-Some.dir
    (sound_of walk.options walk.start walk.lists.items walk.first_open walk.some_open walk.in_range walk.few walk.sound)
    c.requires.index c.index-list.ensures (sym c.in-Some.ensures.told) deep)

pub returns-clause-goes : goal.returns-clause-goes
returns-clause-goes g c =
    let old = progress g.S.Sorter.order c.args.self.now (g.D.Disk.streams c.args.disk.now) in
    let new = progress g.S.Sorter.order c.put.new.self (g.D.Disk.streams c.close_dir.new.self) in
    let kept = c.put.ensures.kept in
    let count = failures_among c.in_ok-items.items.items in
    goes_closed old new c.args.self.now.lists.items c.put.new.self.lists.items c.args.index (Closed c.in_ok-items.items) c.index-list.result.now
    (record { options = kept.options; order = ap (option_map g.S.Sorter.order) kept.sorter; start = kept.start }) refl refl c.put.ensures.lists
    c.index-list.ensures
    c.in-Some.dir (g.D.Disk.streams c.rest_of.new.disk) count 0 (g.D.Disk.faults c.args.disk.now) (g.D.Disk.faults c.close_dir.new.self)
    (sym c.in-Some.ensures.told) refl
    c.in_ok-items.ensures.drawn c.close_dir.ensures.closed c.in_ok-items.ensures.few (omega arith)
    (subst (λ n. Costs count (g.D.Disk.faults c.args.disk.now) n) (sym c.close_dir.ensures.faults) c.in_ok-items.ensures.cause) refl

pub returns-clause-closed : goal.returns-clause-closed
returns-clause-closed g c closed =
    let puts = c.put.ensures.lists in
    let items = Closed c.in_ok-items.items in
    closed_past puts.outer (record puts.list { items = items }) puts.inner c.put.new.self.lists.items c.args.index puts.at puts.is refl
    (ap (λ l. own_streams (take c.args.index l)) puts.is
    ∙ closed_put c.args.index puts.outer puts.list puts.inner items refl (ap (λ l. own_streams (take c.args.index l)) (sym puts.was) ∙ closed))

pub returns-in_default-clause-stands : goal.returns-in_default-clause-stands
returns-in_default-clause-stands g c =
    let old = progress g.S.Sorter.order c.args.self.now (g.D.Disk.streams c.args.disk.now) in
    stands_alike old old refl refl

pub returns-clause-stands : goal.returns-clause-stands
returns-clause-stands g c =
    let old = progress g.S.Sorter.order c.args.self.now (g.D.Disk.streams c.args.disk.now) in
    let new = progress g.S.Sorter.order c.put.new.self (g.D.Disk.streams c.close_dir.new.self) in
    close_stands old new c.args.self.now.lists.items c.put.new.self.lists.items c.args.index
    (Closed c.in_ok-items.items) c.index-list.result.now refl refl c.put.ensures.lists c.index-list.ensures
    c.in-Some.dir (g.D.Disk.streams c.rest_of.new.disk)
    (sym c.in-Some.ensures.told) refl c.in_ok-items.ensures.drawn c.close_dir.ensures.closed c.in_ok-items.ensures.streamed

pub returns-in_default-clause-answered : goal.returns-in_default-clause-answered
returns-in_default-clause-answered g c =
    tells_still g.D.Disk.answered c.args.disk.now (reverse c.args.self.now.lists.items) (reverse c.args.self.now.lists.items) refl

pub returns-in_err-items-clause-answered : goal.returns-in_err-items-clause-answered
returns-in_err-items-clause-answered g c =
    tells_called g.D.Disk.answered c.args.disk.now c.rest_of.new.disk (reverse c.args.self.now.lists.items) c.in_err-items.ensures.leads

pub returns-clause-answered : goal.returns-clause-answered
returns-clause-answered g c =
    let old = c.args.self.now.lists.items in
    let new = c.put.new.self.lists.items in
    let read = c.in_ok-items.ensures.leads in
    let closed = leads_by g.D.Disk.answered c.rest_of.new.disk c.close_dir.new.self c.close_dir.ensures.answered in
    let leads = leads_then g.D.Disk.answered c.args.disk.now c.rest_of.new.disk c.close_dir.new.self read closed in
    record {
      leads = leads;
      told = λ first told. (
        stack_put g.D.Disk.answered first c.close_dir.new.self old new c.args.index (Closed c.in_ok-items.items) c.put.ensures.lists
            (stack_later g.D.Disk.answered first c.args.disk.now c.close_dir.new.self (reverse old) told leads)
            (are_wider g.D.Disk.answered first c.args.disk.now c.rest_of.new.disk c.close_dir.new.self c.in_ok-items.items.items told.leads
            c.in_ok-items.ensures.answered closed),
        tt,
      );
      refused = λ first told. tt;
    }
