-- An opening keeps the laws of a machine.
pub mod Look
pub mod Turn
use Rattle.std.proofs.Common.{◌≡◌, ℕ, ◌+◌, true, List, [], ◌∷◌, ◌++◌, length, Option, Some, None, refl, sym, ◌∙◌, ap, subst, arith, Ok, Err, Result}
use Rattle.std.proofs.lemmas.List.{length_push}
use Rattle.odb_disk.specs.MemDisk.{Volume}
use Rattle.odb_disk.specs.declared.ask.DiskAsk.{DiskAsk}
use Rattle.odb_disk.specs.declared.ask.DiskAsk.TheVariants as asks
use Rattle.gix_odb_search.specs.ListOrder as lists
use Rattle.gix_odb_calls.specs.declared.call.Reply.{Reply}
use Rattle.gix_odb.specs.Contents.{folder_list}
use Rattle.gix_odb_calls.specs.declared.store_parts.StoreParts.{StoreParts}
use Rattle.gix_odb.specs.OpenExchanges.{AreAsked, behind}
use Rattle.gix_odb.specs.OpenOrder as openings
use Rattle.gix_odb.proofs.OpenLaws.{openings_ask_no_event, openings_register_few_slots}
use Rattle.gix_odb_world.specs.Handle.{HandleParts, IsHandleOf}
use Rattle.gix_odb.specs.declared.open_state.OpenStage.{OpenStage}
use Rattle.gix_odb.specs.declared.open_state.OpenStage.TheVariants as opens
use Rattle.gix_odb_world.specs.Work.{Opening}
use Rattle.gix_odb_world.specs.Bound.{bound_of_task, turn_bound}
use Rattle.gix_odb_history.specs.Event.{Event, answered}
use Rattle.gix_odb_events.specs.declared.answer.Answer.{Answer}
use Rattle.gix_odb_events.specs.declared.answer.Ask.TheVariants as work_asks
use Rattle.gix_odb_world.specs.Machine.{placed}
use Rattle.gix_odb_history.specs.Run.{IsTurnOf, change_by, disk_after}
use Rattle.gix_odb_world.specs.Running.Opening.{HasSeen, IsOpening, opening}
use Rattle.gix_odb_world.specs.Status.{MakeCall, Modes, OpenStore, Running, Store, Task, begun_with, running_from, setting_in}
use Rattle.gix_odb_world.specs.Told.{told_since}
use Rattle.gix_odb_world.specs.WorkOrder.{ask_on, fed_after, opening_result, result_in}
use Rattle.gix_odb_world.proofs.AnsweredLemmas.{answered_at_first, answered_later, none_told}
use Rattle.gix_odb_world.proofs.CountedFiles.OneTurn.{given_as_before, given_at_first}
use Rattle.gix_odb_world.proofs.MachineLaws.{BeginsAs, IsRunning, IsTurnAsking, KeepsLaws, KeepsTurnLaws, MachineComes, TakesTurn, told_after, writes_nothing}
use Rattle.gix_odb_world.proofs.OpeningMachine.Turn.{listing_comes, look_comes, quiet, registered, shown_before, takes_call}
use Rattle.gix_odb_world.proofs.ToldLemmas.{told_kept}
use Rattle.gix_odb.specs.Store.{listed_for}

-- ---- its code

opening_placed : (result : Result Reply OpenStage) → opening_result result ≡ placed opening result
opening_placed (Ok reply) = refl
opening_placed (Err state) = refl

opening_asks : (store : Store) (modes : Modes) (code : HandleParts) → IsHandleOf store modes code → (state : OpenStage)
    → ask_on code (Opening state) ≡ opening.ask store state
opening_asks store modes code own state =
    ap (λ (parts : StoreParts). openings.ask_of parts.objects parts.folders state) own.parts

opening_feeds : (store : Store) (modes : Modes) (code : HandleParts) → IsHandleOf store modes code → (state : OpenStage) (answer : Option Answer)
    → result_in (fed_after code (Opening state) answer) ≡ placed opening (opening.feed store state answer)
opening_feeds store modes code own state None = opening_placed (openings.result_of state)
opening_feeds store modes code own state (Some answer) =
    ap (λ (parts : StoreParts). opening_result (openings.result_of (openings.fed parts.objects (listed_for parts) parts.slots state answer))) own.parts
    ∙ opening_placed (openings.result_of (openings.fed store.parts.objects (listed_for store.parts) store.parts.slots state answer))

-- ---- its beginning

module _ (first : Volume) (events : List Event) (e : Event) (handle : ℕ) (store : Store) (modes : Modes) where
  abbrev begun_whole : List Event
  begun_whole = events ++ e ∷ []

  opening_begins : IsOpening first begun_whole handle (running_from (length events + 1) OpenStore store modes) opens.Looking
  opening_begins =
      let none : told_since begun_whole handle (length events + 1) ≡ [] = none_told first events e handle in
      let more = length_push events e in
      record {
        task = refl;
        since = omega (arith, more);
        is = ap (behind (setting_in store) store.parts.slots opens.Looking) (sym none);
        asked = subst (AreAsked (setting_in store) store.parts.slots opens.Looking) (sym none) tt;
        turns = ap length (sym none);
        well = answered_at_first first events e handle store;
        given = given_at_first first events e handle (length events + 1) none;
        seen = tt;
      }

  opening_starts : (task : Task) (state : OpenStage) → BeginsAs first begun_whole handle store modes task → begun_with store modes task ≡ Opening state
      → IsOpening first begun_whole handle (running_from (length events + 1) task store modes) state
  opening_starts OpenStore state start is =
      let same : opens.Looking ≡ state = cc is in
      subst (IsOpening first begun_whole handle (running_from (length events + 1) OpenStore store modes)) same opening_begins
  opening_starts (MakeCall call) state start is = absurd (cc is)

-- ---- an event that isn't its turn

seen_kept : (first : Volume) (events : List Event) (e : Event) (running : Running) (state : OpenStage) → HasSeen first events running state
    → HasSeen first (events ++ e ∷ []) running state
seen_kept first events e running opens.Looking seen = tt
seen_kept first events e running (opens.Listing lister percent minimum) seen = shown_before first events e running.begun running.store.parts.objects seen
seen_kept first events e running (opens.Registering slots) seen = shown_before first events e running.begun running.store.parts.objects seen
seen_kept first events e running (opens.Done reply) seen = absurd seen

opening_kept : (first : Volume) (events : List Event) (e : Event) (handle : ℕ) (running : Running) (state : OpenStage) → ¬ (IsTurnOf handle e)
    → IsOpening first events handle running state → IsOpening first (events ++ e ∷ []) handle running state
opening_kept first events e handle running state other knows =
    let same = told_kept events e handle running.begun knows.since other in
    let since = knows.since in
    let more = length_push events e in
    let setting = setting_in running.store in
    record {
      task = knows.task;
      since = omega (arith, since, more);
      is = knows.is ∙ ap (behind setting running.store.parts.slots opens.Looking) (sym same);
      asked = subst (AreAsked setting running.store.parts.slots opens.Looking) (sym same) knows.asked;
      turns = knows.turns ∙ ap length (sym same);
      well = answered_later first events e handle running.store running.begun same knows.well;
      given = given_as_before first events e handle running.begun same knows.given;
      seen = seen_kept first events e running state knows.seen;
    }

-- ---- its turns

opening_takes : (first : Volume) (events : List Event) (handle : ℕ) (running : Running) (state : OpenStage) → IsOpening first events handle running state
    → TakesTurn first events handle running running.task (opening.ask running.store state)
opening_takes first events handle running opens.Looking knows = takes_call first events handle running opens.Looking knows (asks.Look running.store.parts.objects true) refl
opening_takes first events handle running (opens.Listing lister percent minimum) knows =
    takes_call first events handle running (opens.Listing lister percent minimum) knows (lists.ask_of lister) refl
opening_takes first events handle running (opens.Registering slots) knows =
    subst (λ t. TakesTurn first events handle running t (opening.ask running.store (opens.Registering slots))) (sym knows.task) (
      ap (openings.ask_of running.store.parts.objects running.store.parts.folders) (sym knows.is),
      openings_register_few_slots (setting_in running.store) running.store.parts.slots (told_since events handle running.begun) knows.asked knows.well.suited slots (sym knows.is),
      refl,
    )
opening_takes first events handle running (opens.Done reply) knows = absurd knows.seen

opening_ends : (first : Volume) (events : List Event) (handle : ℕ) (running : Running) (state : OpenStage) → IsOpening first events handle running state
    → opening.ask running.store state ≡ None → (reply : Reply) × (opening.feed running.store state None ≡ Ok reply)
opening_ends first events handle running opens.Looking knows none = absurd (cc none)
opening_ends first events handle running (opens.Listing lister percent minimum) knows none = absurd (cc none)
opening_ends first events handle running (opens.Registering slots) knows none = absurd (cc none)
opening_ends first events handle running (opens.Done reply) knows none = absurd knows.seen

opening_comes : (first : Volume) (events : List Event) (e : Event) (handle : ℕ) (running : Running) → IsRunning first events handle running
    → (state : OpenStage) → IsOpening first events handle running state → IsTurnAsking first events e handle running (opening.ask running.store state)
    → MachineComes first events e handle running opening IsOpening (told_after first events handle running (opening.ask running.store state))
    (opening.feed running.store state (answered (told_after first events handle running (opening.ask running.store state))))
opening_comes first events e handle running ran opens.Looking knows turn = look_comes first events e handle running ran knows turn
opening_comes first events e handle running ran (opens.Listing lister percent minimum) knows turn =
    listing_comes first events e handle running ran lister percent minimum knows turn
opening_comes first events e handle running ran (opens.Registering slots) knows turn = registered first events e handle running ran slots knows turn
opening_comes first events e handle running ran (opens.Done reply) knows turn = absurd knows.seen

opening_turns : KeepsTurnLaws opening IsOpening
opening_turns = record {
  takes = opening_takes;
  ends = opening_ends;
  happens = λ first events handle running state knows event is shape seat. absurd (openings_ask_no_event (setting_in running.store) state event is);
  comes = λ first events e handle running since ran state knows turn. opening_comes first events e handle running ran state knows turn;
}

-- ---- its laws

opening_bounded : (store : Store) (modes : Modes) (task : Task) → task ≡ OpenStore → (entries : ℕ)
    → turn_bound 0 (length (folder_list store.parts)) 0 entries None ≡ bound_of_task store modes task entries
opening_bounded store modes task is entries =
    subst (λ t. turn_bound 0 (length (folder_list store.parts)) 0 entries None ≡ bound_of_task store modes t entries) (sym is) refl

-- its call of the disk changes nothing
opening_quiet : (first : Volume) (events : List Event) (handle : ℕ) (running : Running) (state : OpenStage) (ask : DiskAsk)
    → IsOpening first events handle running state → opening.ask running.store state ≡ Some (work_asks.Disk ask)
    → change_by (disk_after first events) ask ≡ None
opening_quiet first events handle running opens.Looking ask knows is =
    quiet first events handle running opens.Looking knows ask is
opening_quiet first events handle running (opens.Listing lister percent minimum) ask knows is =
    quiet first events handle running (opens.Listing lister percent minimum) knows ask is
opening_quiet first events handle running (opens.Registering slots) ask knows is = absurd (cc is)
opening_quiet first events handle running (opens.Done reply) ask knows is = absurd (cc is)

pub opening_laws : KeepsLaws opening IsOpening
opening_laws = record {
  at_home = λ state. refl;
  knows = λ first events handle running state knows. knows;
  asks = opening_asks;
  feeds = opening_feeds;
  starts = opening_starts;
  tasked = λ first events handle running state knows. knows.task;
  bounded = λ store modes task state is entries. opening_bounded store modes task is entries;
  kept = opening_kept;
  turns = opening_turns;
  writes = writes_nothing opening IsOpening (λ state. refl) opening_quiet;
}
