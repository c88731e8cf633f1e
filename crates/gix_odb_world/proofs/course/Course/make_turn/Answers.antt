use Rattle.std.proofs.Common.{◌≡◌, [], ◌∷◌, ◌++◌, None, refl, sym, ap, ◌∙◌, subst, Vec, Global}
use Rattle.std.proofs.lemmas.Result.{on_ok_weaker}
use Rattle.odb_disk.specs.MemDisk.{Volume}
use Rattle.gix_odb_core.specs.History.{History}
use Rattle.gix_odb_calls.specs.declared.step.Outcome.TheVariants.{Misuse}
use Rattle.gix_odb_calls.specs.declared.step.Step.TheVariants as steps
use Rattle.gix_odb_world.specs.declared.course.Course.{Course}
use Rattle.gix_odb_history.specs.declared.record.Did.TheVariants.{Nothing}
use Rattle.gix_odb_history.specs.Run.{change_asked}
use Rattle.gix_odb_world.specs.Headline.{outcome_of}
use Rattle.gix_odb_world.specs.Table.{CanHappenAt, Notes, ask_by_handle}
use Rattle.gix_odb_world.specs.WorkOrder.{result_in}
use Rattle.gix_odb_world.specs.World.{handle_at}
use Rattle.gix_odb_world.proofs.ExplainedSeats.{turn_can_happen, turn_under_way}
use Rattle.gix_odb_world.proofs.FitsLemmas.{fits_now}
use Rattle.std.specs.Option.{option_map}
use Rattle.gix_odb_world.specs.Handle.{seen}
use Rattle.gix_odb_world.proofs.SettingLemmas.{sets_seen}
use Rattle.gix_odb_world.proofs.StepLemmas.{misused}
use Rattle.gix_odb_world.proofs.TurnLemmas.{at_work, taken_at, turned_on}
use Rattle.gix_odb_world.proofs.course.Course.make_turn.Goals as goal

-- a turn of a handle that isn't at work leaves it as it was
pub returns-in-Err-clause-continues : goal.returns-in-Err-clause-continues
returns-in-Err-clause-continues c =
    on_ok_weaker c.misuse.result
    (λ notes. misused c.args.self.now c.misuse.new.self (steps.Turn c.args.number) c.in-Err.why (sym c.in-Err.ensures.why)
    (subst (λ (world : Course). Notes world c.misuse.new.self (Misuse c.in-Err.why) Nothing None) c.in-Err.ensures.kept notes))
    c.misuse.ensures.notes

pub returns-in-Ok-clause-continues : goal.returns-in-Ok-clause-continues
returns-in-Ok-clause-continues c =
    let taken = ap (option_map seen) c.in-Ok.ensures.taken in
    let work = at_work (handle_at c.args.self.now c.args.number) (seen c.in-Ok.handle) c.in-Ok.ensures.why taken in
    on_ok_weaker c.carry_out.result
    (λ takes.
    let turn = takes work.0 work.1 in
    turned_on c.args.self.now c.take_work.new.self turn.keeps.settles.mid c.carry_out.new.self turn.disk turn.cores turn.keeps.shown c.args.number
    (seen c.in-Ok.handle).state work.0 turn.done _ _ c.args.judged.revealed
    (taken_at (handle_at c.args.self.now c.args.number) (seen c.in-Ok.handle) work.0 work.1 taken) (sets_seen c.args.self.now c.take_work.new.self c.args.number None c.in-Ok.ensures.puts) turn.tree turn.carries refl refl
    c.requires.valid (fits_now c.args.self.now c.requires.explained) c.requires.tells turn.keeps.keeps
    turn.keeps.settles.sets turn.keeps.settles.notes) c.carry_out.ensures.takes

pub returns-in-Ok-clause-noted : goal.returns-in-Ok-clause-noted
returns-in-Ok-clause-noted c =
    let taken = ap (option_map seen) c.in-Ok.ensures.taken in
    let work = at_work (handle_at c.args.self.now c.args.number) (seen c.in-Ok.handle) c.in-Ok.ensures.why taken in
    on_ok_weaker c.carry_out.result
    (λ takes.
    let turn = takes work.0 work.1 in (
      outcome_of (result_in turn.done.work),
      turn.keeps.settles.notes.outcomes
          ∙ ap (λ outcomes. outcomes ++ outcome_of (result_in turn.done.work) ∷ []) (turn.keeps.settles.sets.outcomes ∙ c.in-Ok.ensures.puts.outcomes),
    )) c.carry_out.ensures.takes

-- an opening that is at work isn't done
pub carry_out-requires-clause-under_way : goal.carry_out-requires-clause-under_way
carry_out-requires-clause-under_way c =
    let taken = ap (option_map seen) c.in-Ok.ensures.taken in
    let work = at_work (handle_at c.args.self.now c.args.number) (seen c.in-Ok.handle) c.in-Ok.ensures.why taken in
    turn_under_way c.args.self.now c.requires.explained c.args.number (seen c.in-Ok.handle) taken work.0 work.1

-- what was asked is what the work asks for that was taken out
pub carry_out-requires-clause-asked : goal.carry_out-requires-clause-asked
carry_out-requires-clause-asked c = c.requires.asked ∙ ap ask_by_handle (ap (option_map seen) c.in-Ok.ensures.taken)

-- the change that was judged is still the one that it makes
pub carry_out-requires-clause-change : goal.carry_out-requires-clause-change
carry_out-requires-clause-change c =
    subst (λ (disk : Volume). c.args.judged.change ≡ change_asked disk c.args.judged.ask) (sym c.in-Ok.ensures.puts.disk) c.requires.change

-- and an event of a core that it asks for can happen, or a core that it asks for be made
pub carry_out-requires-clause-can_happen : goal.carry_out-requires-clause-can_happen
carry_out-requires-clause-can_happen c =
    let taken = ap (option_map seen) c.in-Ok.ensures.taken in
    let work = at_work (handle_at c.args.self.now c.args.number) (seen c.in-Ok.handle) c.in-Ok.ensures.why taken in
    let there = taken_at (handle_at c.args.self.now c.args.number) (seen c.in-Ok.handle) work.0 work.1 taken in
    subst (λ (cores : Vec History Global). CanHappenAt cores.items c.args.number (seen c.in-Ok.handle).state c.args.judged.ask) (sym c.in-Ok.ensures.puts.cores)
    (subst (CanHappenAt c.args.self.now.cores.items c.args.number (seen c.in-Ok.handle).state) (sym (c.requires.asked ∙ ap ask_by_handle there))
    (turn_can_happen c.args.self.now c.requires.explained c.args.number (seen c.in-Ok.handle).state work.0 there))
