-- A query keeps the laws of a machine.
pub mod Begun
pub mod Turn
use Rattle.std.proofs.Common.{◌≡◌, ℕ, ◌+◌, List, [], ◌∷◌, ◌++◌, length, Option, None, Some, Ok, Err, Result, refl, sym, ◌∙◌, ap, subst, arith}
use Rattle.std.proofs.lemmas.List.{length_push}
use Rattle.odb_disk.specs.MemDisk.{Volume}
use Rattle.gix_hash.specs.declared.object_id.ObjectId.{ObjectId}
use Rattle.gix_odb_calls.specs.declared.call.Reply.{Reply}
use Rattle.gix_object.specs.declared.want.Want.{Want}
use Rattle.gix_object.specs.declared.want.Want.TheVariants.{Object, Header, Presence}
use Rattle.gix_odb_calls.specs.Query.{call_for}
use Rattle.gix_odb_calls.specs.declared.query.Query.{Query}
use Rattle.gix_odb.specs.LookExchanges.{AreAsked, behind}
use Rattle.gix_odb.specs.LookUpOrder as looks
use Rattle.gix_odb.specs.LookUpOrder.{ask_of, fed, result_of}
use Rattle.gix_odb.specs.declared.look_up.LookUp.{LookUp}
use Rattle.gix_odb.specs.CallOrder.{looking_result}
use Rattle.gix_odb.specs.Contents.{sought}
use Rattle.gix_odb.specs.declared.call_state.CallStage.TheVariants.{Looking}
use Rattle.gix_odb_world.specs.Handle.{HandleParts, IsHandleOf}
use Rattle.gix_odb_world.specs.Work.{Calling}
use Rattle.gix_odb_world.specs.AtWork.{Modes, setting_in}
use Rattle.gix_odb_world.specs.Bound.{bound_of_call, bound_of_task, bytes_to_write}
use Rattle.gix_odb_history.specs.Event.{Event}
use Rattle.gix_odb_events.specs.declared.answer.Answer.{Answer}
use Rattle.gix_odb_world.specs.Machine.{placed}
use Rattle.gix_odb_history.specs.Run.{IsTurnOf}
use Rattle.gix_odb_world.specs.Running.Query.{IsLooking, call_of, looking}
use Rattle.gix_odb_world.specs.Status.{MakeCall, Running, Store, Task}
use Rattle.gix_odb_world.specs.Told.{look_begun, told_since}
use Rattle.gix_odb_world.specs.WorkOrder.{calling_result, fed_after, result_in}
use Rattle.gix_odb_world.proofs.HistoryLemmas.{failed_before}
use Rattle.gix_odb_world.proofs.MachineLaws.{KeepsLaws, KeepsTurnLaws, writes_nothing}
use Rattle.gix_odb_world.proofs.RefusedLemmas.{refused_later}
use Rattle.gix_odb_world.proofs.SettingLemmas.{setting_same}
use Rattle.gix_odb_world.proofs.ToldLemmas.{told_kept, view_kept}
use Rattle.gix_odb_world.proofs.ToldWell.{told_well_later}
use Rattle.gix_odb_world.proofs.LookMachine.Begun.{looking_starts}
use Rattle.gix_odb_world.proofs.LookMachine.Turn.{comes_part, ends, happens, quiet, takes}

-- ---- its code

looking_placed : (result : Result Reply LookUp) → calling_result (looking_result result) ≡ placed looking result
looking_placed (Ok reply) = refl
looking_placed (Err look) = refl

looking_feeds : (store : Store) (modes : Modes) (code : HandleParts) → IsHandleOf store modes code → (look : LookUp) (answer : Option Answer)
    → result_in (fed_after code (Calling (Looking look)) answer) ≡ placed looking (looking.feed store look answer)
looking_feeds store modes code own look None = looking_placed (result_of look)
looking_feeds store modes code own look (Some answer) =
    ap (λ setting. calling_result (looking_result (result_of (fed setting look answer)))) (setting_same store modes code own)
    ∙ looking_placed (result_of (fed (setting_in store) look answer))

-- ---- an event that isn't its turn

looking_kept : (first : Volume) (events : List Event) (e : Event) (handle : ℕ) (running : Running) (look : LookUp) → ¬ (IsTurnOf handle e)
    → IsLooking first events handle running look → IsLooking first (events ++ e ∷ []) handle running look
looking_kept first events e handle running look other knows =
    let whole : List Event = events ++ e ∷ [] in
    let told_is = told_kept events e handle running.begun knows.since other in
    let view_is = view_kept events e handle running.begun knows.since running.modes.core in
    let setting = setting_in running.store in
    let begun_is : look_begun events handle running.store running.modes running.begun knows.query ≡ look_begun whole handle running.store running.modes running.begun knows.query =
    ap (λ v. looks.started setting running.modes.refresh v knows.query.want (sought running.store.parts running.modes.ignoring knows.query)) (sym view_is) in
    let longer = length_push events e in
    let since = knows.since in
    record {
      query = knows.query;
      task = knows.task;
      since = omega (arith, since, longer);
      fits = knows.fits;
      is =
          knows.is
          ∙ (ap (behind setting (look_begun events handle running.store running.modes running.begun knows.query)) (sym told_is)
          ∙ ap (λ l. behind setting l (told_since whole handle running.begun)) begun_is);
      asked =
          subst (λ l. AreAsked setting l (told_since whole handle running.begun)) begun_is
          (subst (AreAsked setting (look_begun events handle running.store running.modes running.begun knows.query)) (sym told_is) knows.asked);
      turns = knows.turns ∙ ap length (sym told_is);
      well = told_well_later first events e handle running.store running.modes running.begun told_is
          (failed_before events e handle running.begun (λ turn failed. absurd (other turn))) knows.since knows.well;
      refused = refused_later events e handle running.modes.core running.begun told_is knows.refused;
    }

-- ---- its laws

-- no bytes are written by a query
no_bytes : (query : Query) → None ≡ bytes_to_write (call_of query)
no_bytes query = by query.want query.of
  where
    by : (want : Want) (id : ObjectId) → None ≡ bytes_to_write (call_for want id)
    by Object id = refl
    by Header id = refl
    by Presence id = refl

looking_bounded : (store : Store) (modes : Modes) (task : Task) (query : Query) → task ≡ MakeCall (call_of query) → (entries : ℕ)
    → bound_of_call store modes entries None ≡ bound_of_task store modes task entries
looking_bounded store modes task query is entries =
    subst (λ t. bound_of_call store modes entries None ≡ bound_of_task store modes t entries) (sym is) (ap (bound_of_call store modes entries) (no_bytes query))

looking_turns : KeepsTurnLaws looking IsLooking
looking_turns = record {
  takes = takes;
  ends = ends;
  happens = happens;
  comes = λ first events e handle running since ran look knows turn. comes_part first events handle running look knows e ran (ask_of look) refl turn;
}

pub looking_laws : KeepsLaws looking IsLooking
looking_laws = record {
  at_home = λ look. refl;
  knows = λ first events handle running look knows. knows;
  asks = λ store modes code own look. refl;
  feeds = looking_feeds;
  starts = looking_starts;
  tasked = λ first events handle running look knows. (knows.query, knows.task);
  bounded = λ store modes task look is entries. looking_bounded store modes task is.0 is.1 entries;
  kept = looking_kept;
  turns = looking_turns;
  writes = writes_nothing looking IsLooking (λ look. refl)
      (λ first events handle running look ask knows is. quiet first events handle running look knows ask is);
}
