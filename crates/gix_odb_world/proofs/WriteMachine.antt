-- A write keeps the laws of a machine.
pub mod Asks
pub mod Begun
pub mod Front
use Rattle.std.proofs.Common.{◌≡◌, ◌⊎◌, inl, inr, ℕ, ◌+◌, ◌≤◌, List, [], ◌∷◌, ◌++◌, length, Result, Ok, Err, Option, Some, None, refl, sym, ◌∙◌, ap, subst, arith}
use Rattle.std.proofs.lemmas.List.{length_push}
use Rattle.odb_disk.specs.MemDisk.{Volume}
use Rattle.odb_disk.specs.declared.ask.DiskAnswer.{DiskAnswer}
use Rattle.odb_disk.specs.declared.ask.DiskAsk.{DiskAsk}
use Rattle.gix_odb_core.specs.Replay.{CanHappen}
use Rattle.gix_odb_core.specs.declared.shape.Shape.{Shape}
use Rattle.gix_odb_loose.specs.LooseOrder as loose_order
use Rattle.gix_odb_loose.specs.LooseOrder.{disk_ask_of}
use Rattle.gix_odb_loose.specs.declared.call.LooseCall.{LooseCall}
use Rattle.gix_odb_loose.specs.declared.write_order.WriteStage.TheVariants.{Making}
use Rattle.gix_odb_events.specs.declared.answer.Answer.TheVariants as told
use Rattle.gix_odb_events.specs.declared.answer.Ask.{Ask}
use Rattle.gix_odb_events.specs.declared.answer.Ask.TheVariants as parts
use Rattle.gix_odb_calls.specs.declared.call.Reply.{Reply}
use Rattle.gix_odb.specs.LookUpOrder.{Setting}
use Rattle.gix_odb.proofs.RefreshLaws.{refreshes_have_no_core_made}
use Rattle.gix_odb.specs.RefreshOrder.{IsReady}
use Rattle.gix_odb.specs.RefreshOrder as refreshes
use Rattle.gix_odb.specs.Refreshed.{AreAsked}
use Rattle.gix_odb.specs.declared.refresh.Refresh.{Refresh}
use Rattle.gix_odb.specs.declared.refresh.RefreshStep.{RefreshStep}
use Rattle.gix_odb.specs.declared.refresh.RefreshStep.TheVariants as fronts
use Rattle.gix_odb.specs.CallOrder as calls
use Rattle.gix_odb.specs.Contents.{folder_list}
use Rattle.gix_odb.specs.CallOrder.{fronted, loose_ask, result_of_write, writing_result, written_on}
use Rattle.gix_odb_world.specs.Handle.{HandleParts, IsHandleOf}
use Rattle.gix_odb_world.specs.AtWork.{Modes, setting_in}
use Rattle.gix_odb.specs.Laps.{turns_of_lap}
use Rattle.gix_odb_history.specs.Event.{CoreEvent, Event, answered}
use Rattle.gix_odb_events.specs.declared.answer.Answer.{Answer}
use Rattle.gix_odb_world.specs.Machine.{placed}
use Rattle.gix_odb_world.specs.Machines.{at}
use Rattle.gix_odb_history.specs.Run.{IsTurnOf, change_by, disk_after}
use Rattle.gix_odb_world.specs.Running.{Knows}
use Rattle.gix_odb_world.specs.Running.Write.{InFront, IsAtOwnWrite, IsInFront, IsWriting, KnowsOfWrite, Own, Unlisted, WriteState, front_result, own_result, work_of}
use Rattle.gix_odb_world.specs.Running.Write.{write_asks, write_at, write_fed, writes_by, writing}
use Rattle.gix_odb_world.specs.Status.{MakeCall, Running, Store}
use Rattle.gix_odb_world.specs.Told.{refresh_begun, told_since}
use Rattle.gix_odb_history.specs.Writing.{ToWrite, call_to_write}
use Rattle.gix_odb_world.specs.WorkOrder.{ask_on, calling_result, fed_after, result_in}
use Rattle.gix_odb_world.proofs.AnsweredLemmas.{answered_later}
use Rattle.gix_odb_world.proofs.FrontLemmas.{begun_same, front_same, now_same}
use Rattle.gix_odb_world.proofs.MachineLaws.{HasNoFile, HasTurn, IsRunning, IsTurnAsking, KeepsLaws, KeepsTurnLaws, KeepsWriteLaws, MachineComes, TakesTurn}
use Rattle.gix_odb_world.proofs.MachineLaws.{home, no_event, told_after}
use Rattle.gix_odb_world.proofs.SettingLemmas.{setting_same}
use Rattle.gix_odb_world.proofs.ToldLemmas.{told_kept}
use Rattle.gix_odb_world.proofs.ToldWell.{most_before}
use Rattle.gix_odb_world.proofs.WriteFive.{five_written}
use Rattle.gix_odb_world.proofs.WriteGoes.{write_comes}
use Rattle.gix_odb_world.proofs.WriteKept.{stands_push, unchanged_push}
use Rattle.gix_odb_world.proofs.WriteMachine.Asks.{in_order_write}
use Rattle.gix_odb_world.proofs.RefusedLemmas.{refused_later}
use Rattle.gix_odb_world.proofs.WriteMachine.Begun.{write_starts}
use Rattle.gix_odb_world.proofs.WriteMachine.Front.{front_comes_on_core, front_comes_on_disk, front_happens, front_quiet, front_takes}
use Rattle.gix_odb_world.proofs.WriteTurn.{ask_at_stage}
use Rattle.gix_odb.specs.Store.{listed_for}

-- ---- its code

own_placed : (result : Result Reply LooseCall) → calling_result (writing_result result) ≡ placed writing (own_result result)
own_placed (Ok reply) = refl
own_placed (Err call) = refl

-- the result of a write's code by the refresh before it
front_placed : (call : LooseCall) (step : RefreshStep) → calling_result (calls.result_of (fronted step call)) ≡ placed writing (front_result call step)
front_placed call (fronts.More refresh) = refl
front_placed call (fronts.Read view) = own_placed (result_of_write call)
front_placed call (fronts.Current view own) = own_placed (result_of_write call)
front_placed call (fronts.Outdated list_no) = own_placed (result_of_write call)
front_placed call (fronts.Refused error) = refl

write_code_asks : (code : HandleParts) (state : WriteState) → ask_on code (work_of state) ≡ write_asks state
write_code_asks code (InFront refresh call) = refl
write_code_asks code (Own call) = refl
write_code_asks code (Unlisted error) = refl

write_feeds : (store : Store) (modes : Modes) (code : HandleParts) → IsHandleOf store modes code → (state : WriteState) (answer : Option Answer)
    → result_in (fed_after code (work_of state) answer) ≡ placed writing (write_fed store state answer)
write_feeds store modes code own (InFront refresh call) None = refl
write_feeds store modes code own (InFront refresh call) (Some answer) =
    ap (λ (setting : Setting). calling_result (calls.result_of (fronted (refreshes.fed setting.parts.objects (listed_for setting.parts) refresh answer) call))) (setting_same store modes code own)
    ∙ front_placed call (refreshes.fed store.parts.objects (listed_for store.parts) refresh answer)
write_feeds store modes code own (Own call) None = own_placed (result_of_write call)
write_feeds store modes code own (Own call) (Some answer) = own_placed (result_of_write (written_on call answer))
write_feeds store modes code own (Unlisted error) None = refl
write_feeds store modes code own (Unlisted error) (Some answer) = refl

-- ---- its own turns

module _ (first : Volume) (events : List Event) (handle : ℕ) (running : Running) (call : LooseCall) (knows : IsAtOwnWrite first events handle running call) where
  abbrev own : IsWriting first events handle running call
  own = knows.writing

  abbrev own_ask : DiskAsk
  own_ask = ask_at_stage own.write own.stage

  -- it asks what its stage does
  own_asks : loose_ask (disk_ask_of call) ≡ Some (parts.Disk own_ask)
  own_asks = ap (λ (c : LooseCall). loose_ask (disk_ask_of c)) own.is

  own_takes : TakesTurn first events handle running running.task (loose_ask (disk_ask_of call))
  own_takes =
      subst (TakesTurn first events handle running running.task) (sym own_asks)
      (subst (λ task. HasTurn first events handle running task own_ask) (sym knows.task)
      (record {
        in_order = in_order_write first events handle running call knows;
        five = five_written first events handle running call own;
      }))

  own_comes : (e : Event) → IsTurnAsking first events e handle running (loose_ask (disk_ask_of call))
      → MachineComes first events e handle running writing KnowsOfWrite (told_after first events handle running (loose_ask (disk_ask_of call)))
      (writing.feed running.store (Own call) (answered (told_after first events handle running (loose_ask (disk_ask_of call)))))
  own_comes e =
      subst (λ a. IsTurnAsking first events e handle running a
      → MachineComes first events e handle running writing KnowsOfWrite (told_after first events handle running a) (writing.feed running.store (Own call) (answered (told_after first events handle running a))))
      (sym own_asks) (λ turn. write_comes first events e handle running knows.since call knows turn)

-- ---- its turns

write_takes : (first : Volume) (events : List Event) (handle : ℕ) (running : Running) (state : WriteState) → KnowsOfWrite first events handle running state
    → TakesTurn first events handle running running.task (write_asks state)
write_takes first events handle running (InFront refresh call) knows = by (refreshes.ask_of refresh) refl
  where
    by : (ask : Ask) → write_asks (InFront refresh call) ≡ Some ask → TakesTurn first events handle running running.task (write_asks (InFront refresh call))
    by (parts.NewCore slots folders) is = absurd (refreshes_have_no_core_made (fronts.More refresh) slots folders is)
    by (parts.Disk ask) is =
        subst (TakesTurn first events handle running running.task) (sym is) (front_takes first events handle running refresh call knows ask is)
    by (parts.Core event) is =
        subst (TakesTurn first events handle running running.task) (sym is)
        (subst (λ task. TakesTurn first events handle running task (Some (parts.Core event))) (sym knows.of.task) (ap refreshes.asked_of (sym knows.refresh_is) ∙ is))
write_takes first events handle running (Own call) knows = own_takes first events handle running call knows
write_takes first events handle running (Unlisted error) knows = absurd knows

write_ends : (first : Volume) (events : List Event) (handle : ℕ) (running : Running) (state : WriteState) → KnowsOfWrite first events handle running state
    → write_asks state ≡ None → (reply : Reply) × (write_fed running.store state None ≡ Ok reply)
write_ends first events handle running (InFront refresh call) knows none = absurd (cc none)
write_ends first events handle running (Own call) knows none = let both = sym (own_asks first events handle running call knows) ∙ none in absurd (cc both)
write_ends first events handle running (Unlisted error) knows none = absurd knows

write_happens : (first : Volume) (events : List Event) (handle : ℕ) (running : Running) (state : WriteState) → KnowsOfWrite first events handle running state
    → (event : CoreEvent) → write_asks state ≡ Some (parts.Core event) → (shape : Shape) (seat : ℕ) → CanHappen shape seat event
write_happens first events handle running (InFront refresh call) knows event is shape seat =
    front_happens first events handle running refresh call knows event is shape seat
write_happens first events handle running (Own call) knows event is shape seat = absurd (no_event (disk_ask_of call) event is)
write_happens first events handle running (Unlisted error) knows event is shape seat = absurd knows

-- how a turn of the refresh before it ends, by what it asks for
module _ (first : Volume) (events : List Event) (e : Event) (handle : ℕ) (running : Running) (refresh : Refresh) (call : LooseCall) where
  abbrev FrontComes : Option Ask → Type 0
  FrontComes asked =
      IsTurnAsking first events e handle running asked
      → MachineComes first events e handle running writing KnowsOfWrite (told_after first events handle running asked)
      (write_fed running.store (InFront refresh call) (answered (told_after first events handle running asked)))

  front_comes : IsRunning first events handle running → IsInFront first events handle running refresh call → (ask : Ask)
      → write_asks (InFront refresh call) ≡ Some ask → FrontComes (write_asks (InFront refresh call))
  front_comes ran knows (parts.Disk ask) is = subst FrontComes (sym is) (λ turn. front_comes_on_disk first events handle running refresh call knows e ran ask is turn)
  front_comes ran knows (parts.NewCore slots folders) is = absurd (refreshes_have_no_core_made (fronts.More refresh) slots folders is)
  front_comes ran knows (parts.Core event) is = subst FrontComes (sym is) (λ turn. front_comes_on_core first events handle running refresh call knows e event is turn)

write_comes_to : (first : Volume) (events : List Event) (e : Event) (handle : ℕ) (running : Running) → IsRunning first events handle running
    → (state : WriteState) → KnowsOfWrite first events handle running state → IsTurnAsking first events e handle running (write_asks state)
    → MachineComes first events e handle running writing KnowsOfWrite (told_after first events handle running (write_asks state))
    (write_fed running.store state (answered (told_after first events handle running (write_asks state))))
write_comes_to first events e handle running ran (InFront refresh call) knows =
    front_comes first events e handle running refresh call ran knows (refreshes.ask_of refresh) refl
write_comes_to first events e handle running ran (Own call) knows = own_comes first events handle running call knows e
write_comes_to first events e handle running ran (Unlisted error) knows = absurd knows

writing_turns : KeepsTurnLaws writing KnowsOfWrite
writing_turns = record {
  takes = write_takes;
  ends = write_ends;
  happens = write_happens;
  comes = λ first events e handle running since ran state knows. write_comes_to first events e handle running ran state knows;
}

-- ---- its writes

write_quiet : (first : Volume) (events : List Event) (handle : ℕ) (running : Running) (state : WriteState) (ask : DiskAsk) → KnowsOfWrite first events handle running state
    → writes_by state ≡ None → write_asks state ≡ Some (parts.Disk ask) → change_by (disk_after first events) ask ≡ None
write_quiet first events handle running (InFront refresh call) ask knows none is =
    front_quiet first events handle running refresh call knows ask is
write_quiet first events handle running (Own call) ask knows none is = absurd (cc none)
write_quiet first events handle running (Unlisted error) ask knows none is = absurd knows

write_known : (first : Volume) (events : List Event) (handle : ℕ) (running : Running) (state : WriteState) (call : LooseCall)
    → KnowsOfWrite first events handle running state → writes_by state ≡ Some call → IsWriting first events handle running call
write_known first events handle running (InFront refresh own) call knows is = absurd (cc is)
write_known first events handle running (Own own) call knows is = let same : own ≡ call = cc is in subst (IsWriting first events handle running) same knows.writing
write_known first events handle running (Unlisted error) call knows is = absurd knows

write_asks_own : (state : WriteState) (call : LooseCall) → writes_by state ≡ Some call → write_asks state ≡ loose_ask (disk_ask_of call)
write_asks_own (InFront refresh own) call is = absurd (cc is)
write_asks_own (Own own) call is = let same : own ≡ call = cc is in ap (λ (c : LooseCall). loose_ask (disk_ask_of c)) same
write_asks_own (Unlisted error) call is = absurd (cc is)

-- a write that ends has its reply
write_ends_own : (store : Store) (state : WriteState) (call : LooseCall) (answer : DiskAnswer) (reply : Reply) → writes_by state ≡ Some call
    → result_of_write (loose_order.fed call answer) ≡ Ok reply → write_fed store state (Some (told.Disk answer)) ≡ Ok reply
write_ends_own store (InFront refresh own) call answer reply is done = absurd (cc is)
write_ends_own store (Own own) call answer reply is done =
    let same : own ≡ call = cc is in
    ap own_result (ap (λ (c : LooseCall). result_of_write (loose_order.fed c answer)) same ∙ done)
write_ends_own store (Unlisted error) call answer reply is done = absurd (cc is)

-- a write that begins has made no file
own_before : (first : Volume) (events : List Event) (handle : ℕ) (running : Running) (refresh : Refresh) (call : LooseCall) → IsInFront first events handle running refresh call
    → (now : RefreshStep) (next : WriteState) (own : LooseCall) → front_result call now ≡ Err next → writes_by next ≡ Some own → HasNoFile own
own_before first events handle running refresh call knows now next own = by now
  where
    begun_before : own_result (result_of_write call) ≡ Err next → writes_by next ≡ Some own → HasNoFile own
    begun_before goes writes =
        let begins : own_result (result_of_write (write_at knows.write (Making 0))) ≡ Err next =
        ap (λ (c : LooseCall). own_result (result_of_write c)) (sym knows.is) ∙ goes in
        let left : Own (write_at knows.write (Making 0)) ≡ next = cc begins in
        let same : Some (write_at knows.write (Making 0)) ≡ Some own = ap writes_by left ∙ writes in
        record { write = knows.write; number = 0; is = let both : write_at knows.write (Making 0) ≡ own = cc same in sym both }

    by : (now : RefreshStep) → front_result call now ≡ Err next → writes_by next ≡ Some own → HasNoFile own
    by (fronts.More more) goes writes = let left : InFront more call ≡ next = cc goes in absurd (cc (ap writes_by left ∙ writes))
    by (fronts.Read view) goes writes = begun_before goes writes
    by (fronts.Current view mine) goes writes = begun_before goes writes
    by (fronts.Outdated list_no) goes writes = begun_before goes writes
    by (fronts.Refused error) goes writes = absurd (cc goes)

write_before : (first : Volume) (events : List Event) (handle : ℕ) (running : Running) (state next : WriteState) (answer : Option Answer) (call : LooseCall)
    → KnowsOfWrite first events handle running state → write_fed running.store state answer ≡ Err next → writes_by next ≡ Some call
    → ((own : LooseCall) × (writes_by state ≡ Some own)) ⊎ HasNoFile call
write_before first events handle running (InFront refresh own) next None call knows goes writes =
    let left : InFront refresh own ≡ next = cc goes in absurd (cc (ap writes_by left ∙ writes))
write_before first events handle running (InFront refresh own) next (Some answer) call knows goes writes =
    inr (own_before first events handle running refresh own knows (refreshes.fed running.store.parts.objects (listed_for running.store.parts) refresh answer) next call goes writes)
write_before first events handle running (Own own) next answer call knows goes writes = inl (own, refl)
write_before first events handle running (Unlisted error) next answer call knows goes writes = absurd knows

writing_writes : KeepsWriteLaws writing KnowsOfWrite
writing_writes = record {
  quiet = write_quiet;
  known = write_known;
  asks = λ store state call is. write_asks_own state call is;
  ends = write_ends_own;
  before = write_before;
}

-- ---- an event that isn't its turn

write_kept : (first : Volume) (events : List Event) (e : Event) (handle : ℕ) (running : Running) (state : WriteState) → ¬ (IsTurnOf handle e)
    → KnowsOfWrite first events handle running state → KnowsOfWrite first (events ++ e ∷ []) handle running state
write_kept first events e handle running (InFront refresh call) other knows =
    let same = told_kept events e handle running.begun knows.since other in
    let begun = begun_same events e handle running.store running.modes running.begun knows.since in
    let since = knows.since in
    let longer = length_push events e in
    record {
      write = knows.write;
      of = knows.of;
      is = knows.is;
      opened = knows.opened;
      since = omega (arith, since, longer);
      distinct = knows.distinct;
      refresh_is = knows.refresh_is ∙ sym (now_same events e handle running.store running.modes running.begun knows.since same);
      asked =
          subst (λ r. AreAsked (setting_in running.store) r (told_since (events ++ e ∷ []) handle running.begun)) (sym begun)
          (subst (AreAsked (setting_in running.store) (refresh_begun events handle running.modes running.begun)) (sym same) knows.asked);
      turns = knows.turns ∙ ap length (sym same);
      well = answered_later first events e handle running.store running.begun same knows.well;
      refused = refused_later events e handle running.modes.core running.begun same knows.refused;
      unchanged = unchanged_push events e handle running.begun knows.unchanged (λ turn. absurd (other turn));
    }
write_kept first events e handle running (Own call) other knows =
    let same = told_kept events e handle running.begun knows.since other in
    let front = front_same events e handle running.store running.modes running.begun knows.since same in
    let writes = knows.writing in
    let since = knows.since in
    let longer = length_push events e in
    let turns = knows.turns in
    record {
      writing = record {
        write = writes.write;
        into = writes.into;
        hashed = writes.hashed;
        fits = writes.fits;
        stage = writes.stage;
        is = writes.is;
        own = writes.own;
        stands = stands_push first events e handle running.begun writes.own writes.write writes.stage other writes.stands;
      };
      task = knows.task;
      since = omega (arith, since, longer);
      ready = subst IsReady (sym (now_same events e handle running.store running.modes running.begun knows.since same)) knows.ready;
      turns = turns ∙ sym (ap (λ n. n + writes.own) front);
      short = λ entries most.
          subst (λ n. n ≤ turns_of_lap running.modes.slots (length (folder_list running.store.parts)) entries) (sym front)
          (knows.short entries (most_before first events e running.store running.begun entries most));
    }
write_kept first events e handle running (Unlisted error) other knows = absurd knows

-- ---- its laws

write_tasked : (first : Volume) (events : List Event) (handle : ℕ) (running : Running) (state : WriteState) → KnowsOfWrite first events handle running state
    → (w : ToWrite) × (running.task ≡ MakeCall (call_to_write w))
write_tasked first events handle running (InFront refresh call) knows = (knows.write, knows.of.task)
write_tasked first events handle running (Own call) knows = (knows.writing.write, knows.task)
write_tasked first events handle running (Unlisted error) knows = absurd knows

write_at_home : (state : WriteState) → at (work_of state) ≡ home writing state
write_at_home (InFront refresh call) = refl
write_at_home (Own call) = refl
write_at_home (Unlisted error) = refl

write_knows : (first : Volume) (events : List Event) (handle : ℕ) (running : Running) (state : WriteState) → KnowsOfWrite first events handle running state
    → Knows first events handle running (work_of state)
write_knows first events handle running (InFront refresh call) knows = knows
write_knows first events handle running (Own call) knows = knows
write_knows first events handle running (Unlisted error) knows = knows

pub writing_laws : KeepsLaws writing KnowsOfWrite
writing_laws = record {
  at_home = write_at_home;
  knows = write_knows;
  asks = λ store modes code own state. write_code_asks code state;
  feeds = write_feeds;
  starts = write_starts;
  tasked = write_tasked;
  bounded = λ store modes task state is entries. refl;
  kept = write_kept;
  turns = writing_turns;
  writes = writing_writes;
}
