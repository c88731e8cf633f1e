-- The innermost directory is left, its stream closed, and its own entry given if it is given after its contents.
use Rattle.std.proofs.Common.{◌≡◌, Option, true, map, Ok, ap, length, min, refl, reverse, subst, sym, ◌∙◌, arith}
use Rattle.std.specs.Option.{option_to_list}
use Rattle.std.specs.Prelude.{IfSome, None, Some}
use Rattle.walkdir.specs.Options.{is_given}
use Rattle.walkdir.specs.Walk.{Item}
use Rattle.walkdir.specs.declared.dent.DirEntry.{DirEntry}
use Rattle.walkdir.specs.Progress.{Progress}
use Rattle.walkdir.specs.StackProgress.{progress}
use Rattle.walkdir.specs.Turns.{GoesOn}
use Rattle.walkdir.proofs.DrawsLemmas.Child.{leaves_it, own_given, own_none}
use Rattle.walkdir.proofs.SoundLemmas.{is_sound_of, sound_of}
use Rattle.walkdir.proofs.StackLemmas.At.{left_depth, left_first, left_own}
use Rattle.walkdir.proofs.StackLemmas.{reversed_last}
use Rattle.walkdir.proofs.StackLemmas.Sound.{sound_pop}
use Rattle.walkdir.proofs.StepLemmas.Pushed.{goes_popped, pops_less}
use Rattle.walkdir.proofs.AnsweredLemmas.{stack_later, stack_pop}
use Rattle.walkdir.proofs.stack.Stack.leave.Goals as goal

pub invariant_of-self-2-clause-sound : goal.invariant_of-self-2-clause-sound
invariant_of-self-2-clause-sound g c =
    let walk = c.args.self.now in
    let new = c.pop.new.self.items in
    let first : c.min-self.result ≡ min walk.first_open (length new) = omega arith in
    is_sound_of walk.options walk.start new c.min-self.result
    (sound_pop walk.options walk.start walk.lists.items new c.in_ok-list.list walk.first_open c.min-self.result
    (sound_of walk.options walk.start walk.lists.items walk.first_open walk.some_open walk.in_range walk.few walk.sound) c.in_ok-list.ensures.items
    first)

pub returns-in_err-list-2-clause-goes : goal.returns-in_err-list-2-clause-goes
returns-in_err-list-2-clause-goes g c =
    let walk = c.args.self.now in
    let old = progress g.S.Sorter.order walk (g.D.Disk.streams c.args.disk.now) in
    let new : Progress = record old { stack = reverse c.pop.new.self.items; streams = g.D.Disk.streams c.close.new.disk } in
    subst (λ n. GoesOn old (g.D.Disk.faults c.args.disk.now) 0 0 new n) (sym c.close.ensures.faults)
    (goes_popped old new c.in_ok-list.list (g.D.Disk.faults c.args.disk.now) (record { options = refl; order = refl; start = refl })
    (ap reverse c.in_ok-list.ensures.items ∙ reversed_last c.pop.new.self.items c.in_ok-list.list) c.close.ensures.streams)

pub returns-in_err-list-2-clause-less : goal.returns-in_err-list-2-clause-less
returns-in_err-list-2-clause-less g c before keeps =
    let walk = c.args.self.now in
    let old = progress g.S.Sorter.order walk (g.D.Disk.streams c.args.disk.now) in
    let new : Progress = record old { stack = reverse c.pop.new.self.items; streams = g.D.Disk.streams c.close.new.disk } in
    pops_less old new c.in_ok-list.list (record { options = refl; order = refl; start = refl })
    (ap reverse c.in_ok-list.ensures.items ∙ reversed_last c.pop.new.self.items c.in_ok-list.list) c.close.ensures.streams before keeps

pub returns-clause-goes : goal.returns-clause-goes
returns-clause-goes g c =
    let walk = c.args.self.now in
    let old = progress g.S.Sorter.order walk (g.D.Disk.streams c.args.disk.now) in
    let new : Progress = record old { stack = reverse c.pop.new.self.items; streams = g.D.Disk.streams c.close.new.disk } in
    subst (λ n. GoesOn old (g.D.Disk.faults c.args.disk.now) 0 0 new n) (sym c.close.ensures.faults)
    (goes_popped old new c.in_ok-list.list (g.D.Disk.faults c.args.disk.now) (record { options = refl; order = refl; start = refl })
    (ap reverse c.in_ok-list.ensures.items ∙ reversed_last c.pop.new.self.items c.in_ok-list.list) c.close.ensures.streams)

pub returns-clause-depth : goal.returns-clause-depth
returns-clause-depth g c =
    let walk = c.args.self.now in
    left_depth walk.options walk.start walk.lists.items c.pop.new.self.items c.in_ok-list.list walk.first_open c.in_ok-list-2.field-0 c.shown.result
    (is_given walk.options c.in_ok-list-2.field-0.depth)
    (sound_of walk.options walk.start walk.lists.items walk.first_open walk.some_open walk.in_range walk.few walk.sound) c.in_ok-list.ensures.items
    c.in_ok-list-2.was c.shown.ensures.given

pub returns-clause-less : goal.returns-clause-less
returns-clause-less g c before keeps =
    let walk = c.args.self.now in
    let old = progress g.S.Sorter.order walk (g.D.Disk.streams c.args.disk.now) in
    let new : Progress = record old { stack = reverse c.pop.new.self.items; streams = g.D.Disk.streams c.close.new.disk } in
    pops_less old new c.in_ok-list.list (record { options = refl; order = refl; start = refl })
    (ap reverse c.in_ok-list.ensures.items ∙ reversed_last c.pop.new.self.items c.in_ok-list.list) c.close.ensures.streams before keeps

pub returns-in_err-list-2-clause-leaves : goal.returns-in_err-list-2-clause-leaves
returns-in_err-list-2-clause-leaves g c =
    let walk = c.args.self.now in
    let old = progress g.S.Sorter.order walk (g.D.Disk.streams c.args.disk.now) in
    let new : Progress = record old { stack = reverse c.pop.new.self.items; streams = g.D.Disk.streams c.close.new.disk } in
    leaves_it old new c.in_ok-list.list c.from_residual-in_err-list-2.result (ap reverse c.in_ok-list.ensures.items
    ∙ reversed_last c.pop.new.self.items c.in_ok-list.list) c.close.ensures.streams
    (ap (λ (e : Option DirEntry). map {B = Item} Ok (option_to_list e)) c.from_residual-in_err-list-2.ensures
    ∙ own_none walk.options c.in_ok-list.list.after c.in_err-list-2.was)

pub returns-clause-leaves : goal.returns-clause-leaves
returns-clause-leaves g c =
    let walk = c.args.self.now in
    let old = progress g.S.Sorter.order walk (g.D.Disk.streams c.args.disk.now) in
    let new : Progress = record old { stack = reverse c.pop.new.self.items; streams = g.D.Disk.streams c.close.new.disk } in
    leaves_it old new c.in_ok-list.list c.shown.result (ap reverse c.in_ok-list.ensures.items ∙ reversed_last c.pop.new.self.items c.in_ok-list.list)
    c.close.ensures.streams
    (own_given walk.options c.in_ok-list.list.after c.shown.result c.in_ok-list-2.field-0 c.in_ok-list-2.was c.shown.ensures.given)

pub returns-clause-first : goal.returns-clause-first
returns-clause-first g c =
    let walk = c.args.self.now in
    let first : walk.options.contents_first ≡ true =
    left_first walk.options walk.start walk.lists.items c.pop.new.self.items c.in_ok-list.list walk.first_open c.in_ok-list-2.field-0
    (sound_of walk.options walk.start walk.lists.items walk.first_open walk.some_open walk.in_range walk.few walk.sound) c.in_ok-list.ensures.items
    c.in_ok-list-2.was in
    of_any c.shown.result first
  where
    of_any : {P : Type 0} (given : Option DirEntry) → P → IfSome given (λ _. P)
    of_any None first = tt
    of_any (Some entry) first = first

pub returns-clause-own : goal.returns-clause-own
returns-clause-own g c =
    let walk = c.args.self.now in
    left_own walk.options walk.start walk.lists.items c.pop.new.self.items c.in_ok-list.list walk.first_open c.in_ok-list-2.field-0 c.shown.result
    (is_given walk.options c.in_ok-list-2.field-0.depth)
    (sound_of walk.options walk.start walk.lists.items walk.first_open walk.some_open walk.in_range walk.few walk.sound) c.in_ok-list.ensures.items
    c.in_ok-list-2.was c.shown.ensures.given

pub returns-in_err-list-2-clause-above : goal.returns-in_err-list-2-clause-above
returns-in_err-list-2-clause-above g c =
    (c.in_ok-list.list, ap reverse c.in_ok-list.ensures.items ∙ reversed_last c.pop.new.self.items c.in_ok-list.list)

pub returns-clause-above : goal.returns-clause-above
returns-clause-above g c = (c.in_ok-list.list, ap reverse c.in_ok-list.ensures.items ∙ reversed_last c.pop.new.self.items c.in_ok-list.list)

pub returns-in_err-list-2-clause-answered : goal.returns-in_err-list-2-clause-answered
returns-in_err-list-2-clause-answered g c =
    let old = reverse c.args.self.now.lists.items in
    let new = reverse c.pop.new.self.items in
    let list = c.in_ok-list.list in
    let leads = c.close.ensures.answered in
    record {
      leads = leads;
      told = λ first told. (
        stack_later g.D.Disk.answered first c.args.disk.now c.close.new.disk new
            (stack_pop g.D.Disk.answered first c.args.disk.now list old new (ap reverse c.in_ok-list.ensures.items
            ∙ reversed_last c.pop.new.self.items list) told) leads,
        tt,
      );
      refused = λ first told. tt;
    }

pub returns-clause-answered : goal.returns-clause-answered
returns-clause-answered g c =
    let old = reverse c.args.self.now.lists.items in
    let new = reverse c.pop.new.self.items in
    let list = c.in_ok-list.list in
    let leads = c.close.ensures.answered in
    record {
      leads = leads;
      told = λ first told. (
        stack_later g.D.Disk.answered first c.args.disk.now c.close.new.disk new
            (stack_pop g.D.Disk.answered first c.args.disk.now list old new (ap reverse c.in_ok-list.ensures.items
            ∙ reversed_last c.pop.new.self.items list) told) leads,
        tt,
      );
      refused = λ first told. tt;
    }
