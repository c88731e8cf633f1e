-- Each handle of an open store is registered at its core, and has its snapshot from there, after each event of a lawful run; and nothing else is
-- registered at a core.
pub mod Elsewhere
pub mod Entered
pub mod Opened
pub mod Applied
pub mod Grown
pub mod Snapshots
pub mod Looked
use Rattle.std.proofs.Common.{◌≡◌, ◌≢◌, ℕ, ◌+◌, Bool, true, false, List, [], ◌∷◌, ◌++◌, length, take, Option, Some, None, Ok, Err, Result, refl, sym, ◌∙◌, ap, subst}
use Rattle.std.specs.Prelude.{◌==◌, ◌↔◌, IsSome, if◌then◌else◌, unwrap_or}
use Rattle.std.proofs.lemmas.Bool.{eqb-true, eqb-false}
use Rattle.odb_disk.specs.MemDisk.{Volume}
use Rattle.odb_disk.specs.Ask.{answer_now}
use Rattle.odb_disk.specs.declared.ask.DiskAsk.{DiskAsk}
use Rattle.odb_disk.specs.declared.ask.DiskAsk.TheVariants as asks
use Rattle.gix_odb.specs.Contents.{folder_list}
use Rattle.gix_odb.specs.OpenOrder as openings
use Rattle.gix_odb_search.specs.ListOrder as lists
use Rattle.gix_odb_calls.proofs.QueryLaws.{by_call-all}
use Rattle.gix_odb_calls.specs.declared.call.Call.{Call}
use Rattle.gix_odb_calls.specs.declared.call.CallError.TheVariants as call_errors
use Rattle.gix_odb_calls.specs.declared.call.Reply.{Reply}
use Rattle.gix_odb_calls.specs.declared.call.Reply.TheVariants as replies
use Rattle.gix_odb.specs.declared.open_state.OpenStage.{OpenStage}
use Rattle.gix_odb.specs.declared.open_state.OpenStage.TheVariants as opens
use Rattle.gix_odb_core.specs.Handles.{registered}
use Rattle.gix_odb_core.specs.History.{History, opened, present}
use Rattle.gix_odb_core.specs.Replay.{number_behind}
use Rattle.gix_odb_core.specs.Steps.{after}
use Rattle.gix_odb_core.specs.Views.{view_of}
use Rattle.gix_odb_events.specs.declared.event.Effect.TheVariants as effects
use Rattle.gix_odb_events.specs.declared.event.Event.TheVariants as core_events
use Rattle.gix_odb_events.specs.declared.view.View.{View}
use Rattle.gix_odb_calls.specs.declared.step.Step.{Step}
use Rattle.gix_odb_calls.specs.declared.step.Step.TheVariants as steps
use Rattle.gix_odb_calls.specs.declared.step.Outcome.{Outcome}
use Rattle.gix_odb_calls.specs.declared.step.Outcome.TheVariants as outcomes
use Rattle.gix_odb_world.specs.Work.{Work}
use Rattle.gix_odb_world.specs.Work.{Opening}
use Rattle.gix_odb_world.specs.Asks.{AsksAsTask}
use Rattle.gix_odb_history.specs.Cores.{answer_behind, cores_after, history_at, registered_at}
use Rattle.gix_odb_history.specs.Event.{Asked, Event, answered}
use Rattle.gix_odb_events.specs.declared.answer.Ask.{Ask}
use Rattle.gix_odb_events.specs.declared.answer.Answer.TheVariants as work_answers
use Rattle.gix_odb_events.specs.declared.answer.Ask.TheVariants as work_asks
use Rattle.gix_odb_world.specs.Headline.{IsLawful, IsTurn, Law, Suits, Turns, Works, stand_of}
use Rattle.gix_odb_world.specs.Machines.{ask_in, fed_in}
use Rattle.gix_odb_history.specs.Run.{FailedSince, disk_after, told_now, tree_at}
use Rattle.gix_odb_history.specs.Writing.{to_write}
use Rattle.gix_odb_world.specs.Promise.{Promise, QueryPromise}
use Rattle.gix_odb_world.specs.Refused.{RefusedSince}
use Rattle.gix_odb_world.specs.Seats.{HasSeat, HasSeatAt, HasSeatThroughout, IsNowhere, IsOpenAt, IsOpenAtTask, IsSeated, RegistersOwn, RegistersOwnThroughout}
use Rattle.gix_odb_world.specs.Status.{Free, MakeCall, Modes, OpenStore, Resting, Running, Status, Store, Task, Working, come_to, modes_after, refuses_opening}
use Rattle.gix_odb_world.specs.Status.{replied, status_after, status_of, turned}
use Rattle.gix_odb_world.specs.Told.{told_since}
use Rattle.gix_odb_world.specs.Valid.{misuse_of, phase_of, why_not_after, why_not_running}
use Rattle.gix_odb_world.specs.Written.{PromiseOfWrite}
use Rattle.gix_odb_world.proofs.AlongRun.{along_run}
use Rattle.gix_odb_world.proofs.OpenFacts.{lawful_front}
use Rattle.gix_odb_world.proofs.RunSteps.{at_work}
use Rattle.gix_odb_world.proofs.SeatLemmas.Elsewhere.{out_new}
use Rattle.gix_odb_world.proofs.SeatLemmas.Entered.{seated_more, seated_new}
use Rattle.gix_odb_world.proofs.SeatLemmas.Looked.{out_looked, seated_looked, seated_looking}
use Rattle.gix_odb_world.proofs.SeatLemmas.Opened.{IsOn, answered_refuses, left_of, on_by, opened_by, reply_of}
use Rattle.gix_odb_world.proofs.SeatLemmas.Applied.{Carries, Stands, StandsAt, applied_by, asks_of_looks, carry_by, carry_nothing, kept, nowhere_now, set, to_now}
use Rattle.gix_odb_world.proofs.ValidLaws.{done_if_sound, valid_if_sound}
use Rattle.gix_odb.specs.Store.{listed_for}

-- ---- replies that refuse an opening

-- an opened store refuses none
opened_refuses_none : {slots : ℕ} (reply : Reply) → ◌≡◌ {A = Result Reply Work} (Ok (replies.Opened slots)) (Ok reply) → refuses_opening reply ≡ true → ⊥
opened_refuses_none {slots} reply is refuses =
    let same : replies.Opened slots ≡ reply = cc in
    let sound : false ≡ refuses_opening reply = ap refuses_opening same in
    cc

-- no call is refused as an opening is
no_call_refuses : (first : Volume) (events : List Event) (handle : ℕ) (store : Store) (modes : Modes) (begun : ℕ) (call : Call) (reply : Reply)
    → refuses_opening reply ≡ true → ¬ (Promise first events handle store modes begun (MakeCall call) reply)
no_call_refuses first events handle store modes begun call (replies.Refused (call_errors.Open error)) is promise =
    by_call-all (λ (T : Type 0). ¬ T)
    (λ query. QueryPromise (tree_at first events) (FailedSince events handle begun) (RefusedSince events handle modes.core begun) (told_since events handle begun) store modes begun (length events) query (replies.Refused (call_errors.Open error)))
    (λ kind size bytes known. PromiseOfWrite first events handle store modes begun (to_write store.parts.objects store.parts.object_hash kind size bytes known) (replies.Refused (call_errors.Open error)))
    (λ query never. never) (λ kind size bytes known never. never) call promise
no_call_refuses first events handle store modes begun call reply is promise = cc is

-- ---- one event

module _ (past : List Event) (e : Event) where
  abbrev now : List Event
  now = past ++ e ∷ []

  abbrev before_it : List History
  before_it = cores_after past

  module _ (before : (handle : ℕ) → Stands past handle (status_of past handle)) where
    abbrev table : ℕ → Status
    table = status_of past

    -- ---- turns

    module _ (first : Volume) (number : ℕ) (running : Running) (status : table number ≡ Working running) (works : Works first past number running e) where
      abbrev told : Option Ask → Asked
      told ask = told_now (stand_of past number running) (disk_after first past) ask

      carry_ask : (ask : Option Ask) → e.asked ≡ told ask
          → AsksAsTask first past number running.store running.modes running.begun running.turns running.task ask → (handle : ℕ) → handle ≢ number → Carries past e handle
      carry_ask None is order handle apart = carry_nothing past e is handle
      carry_ask (Some (work_asks.Disk ask)) is order handle apart = carry_by past e _ is handle (λ modes was. was) (λ store was. was)
      carry_ask (Some (work_asks.Core event)) is order handle apart =
          let of = asks_of_looks past number running.store running.modes running.begun running.task event order in
          let answer = answer_behind (history_at before_it running.modes.core) number event in
          carry_by past e _ is handle (λ modes was. seated_looked before_it running.modes.core number event answer of handle modes apart was)
          (out_looked before_it running.modes.core number event answer of handle)
      carry_ask (Some (work_asks.NewCore slots folders)) is order handle apart =
          let h : History = opened slots folders 0 0 in
          let view : View = view_of (after (present h) number (core_events.Register false)) (number_behind h.entries) in
          carry_by past e _ is handle (λ modes was. seated_more before_it slots folders number handle modes (effects.Seen view) apart was)
          (out_new before_it slots folders number handle (effects.Seen view) apart)

      carry : (handle : ℕ) → handle ≢ number → Carries past e handle
      carry = carry_ask works.ask works.told works.in_order

      -- what a handle at a call has of its core stays as it was
      call_kept : (ask : Option Ask) (call : Call) → e.asked ≡ told ask
          → AsksAsTask first past number running.store running.modes running.begun running.turns (MakeCall call) ask
          → IsSeated before_it number running.modes → IsSeated (cores_after now) number (modes_after e.asked running.modes)
      call_kept None call is order seated =
          subst (λ a. IsSeated (cores_after now) number (modes_after a running.modes)) (sym is) (to_now past e _ is number running.modes seated)
      call_kept (Some (work_asks.Disk ask)) call is order seated =
          subst (λ a. IsSeated (cores_after now) number (modes_after a running.modes)) (sym is) (to_now past e _ is number running.modes seated)
      call_kept (Some (work_asks.Core event)) call is order seated =
          let of = asks_of_looks past number running.store running.modes running.begun (MakeCall call) event order in
          let answer = answer_behind (history_at before_it running.modes.core) number event in
          subst (λ a. IsSeated (cores_after now) number (modes_after a running.modes)) (sym is)
          (to_now past e _ is number (modes_after (told (Some (work_asks.Core event))) running.modes) (seated_looking before_it number running.modes event answer of seated))
      call_kept (Some (work_asks.NewCore slots folders)) call is order seated = absurd order

      -- ---- an opening

      abbrev look : DiskAsk
      look = asks.Look running.store.parts.objects true

      abbrev new_core : (slots : ℕ) → Ask
      new_core slots = work_asks.NewCore slots (length (folder_list running.store.parts))

      asked_by : (state : OpenStage) (ask : Ask) → running.work ≡ Opening state → ask_in running.store (Opening state) ≡ Some ask → e.asked ≡ told (Some ask)
      asked_by state ask at asks_it = works.told ∙ ap told (sym works.asks ∙ (ap (ask_in running.store) at ∙ asks_it))

      fed_by : (state : OpenStage) (ask : Ask) → running.work ≡ Opening state → ask_in running.store (Opening state) ≡ Some ask
          → fed_in running.store running.work (answered e.asked) ≡ fed_in running.store (Opening state) (answered (told (Some ask)))
      fed_by state ask at asks_it =
          ap (λ a. fed_in running.store running.work (answered a)) (asked_by state ask at asks_it)
          ∙ ap (λ w. fed_in running.store w (answered (told (Some ask)))) at

      -- a call of the disk registers nothing, and an opening that registers its handle ends with that
      out_still : (state : OpenStage) → running.work ≡ Opening state → IsOn state → IsNowhere before_it number
          → ((slots : ℕ) → ¬ (fed_in running.store running.work (answered e.asked) ≡ Ok (replies.Opened slots))) → IsNowhere (cores_after now) number
      out_still opens.Looking at on nowhere other = nowhere_now past e _ (asked_by opens.Looking (work_asks.Disk look) at refl) number nowhere
      out_still (opens.Listing lister percent minimum) at on nowhere other =
          nowhere_now past e _ (asked_by (opens.Listing lister percent minimum) (work_asks.Disk (lists.ask_of lister)) at refl) number nowhere
      out_still (opens.Registering slots) at on nowhere other = absurd (other slots (fed_by (opens.Registering slots) (new_core slots) at refl))
      out_still (opens.Done own) at on nowhere other = absurd on

      -- an opening that ends with a call of the disk is refused
      refused_by_call : (state : OpenStage) (ask : DiskAsk) → running.work ≡ Opening state → ask_in running.store (Opening state) ≡ Some (work_asks.Disk ask) → IsOn state
          → (reply : Reply) → e.outcome ≡ outcomes.Reply reply → refuses_opening reply ≡ true
      refused_by_call state ask at asks_it on reply out =
          let given = answer_now (disk_after first past) ask in
          let fed : fed_in running.store (Opening state) (answered (told (Some (work_asks.Disk ask)))) ≡ Ok reply =
          sym (fed_by state (work_asks.Disk ask) at asks_it) ∙ reply_of _ reply (sym works.goes ∙ out) in
          let parts = running.store.parts in
          answered_refuses parts.objects (listed_for parts) running.store.parts.slots state given reply on
          (opened_by (openings.fed parts.objects (listed_for parts) running.store.parts.slots state (work_answers.Disk given)) reply fed)

      -- the turn that registers a handle seats it, and any other turn with which an opening ends refuses it
      opened_seat : (state : OpenStage) → running.work ≡ Opening state → IsOn state → IsNowhere before_it number → (reply : Reply) → e.outcome ≡ outcomes.Reply reply
          → refuses_opening reply ≡ false → IsSeated (cores_after now) number (modes_after e.asked running.modes)
      opened_seat opens.Looking at on nowhere reply out sound =
          let refuses = refused_by_call opens.Looking look at refl on reply out in absurd (cc (refuses, sound))
      opened_seat (opens.Listing lister percent minimum) at on nowhere reply out sound =
          let refuses = refused_by_call (opens.Listing lister percent minimum) (lists.ask_of lister) at refl on reply out in absurd (cc (refuses, sound))
      opened_seat (opens.Registering slots) at on nowhere reply out sound =
          let folders = length (folder_list running.store.parts) in
          let is : e.asked ≡ told (Some (new_core slots)) = asked_by (opens.Registering slots) (new_core slots) at refl in
          let h : History = opened slots folders 0 0 in
          let view : View = view_of (after (present h) number (core_events.Register false)) (number_behind h.entries) in
          subst (λ a. IsSeated (cores_after now) number (modes_after a running.modes)) (sym is)
          (to_now past e _ is number (modes_after (told (Some (new_core slots))) running.modes)
          (seated_new before_it slots folders number (modes_after (told (Some (new_core slots))) running.modes) (effects.Seen view) view nowhere refl refl refl refl))
      opened_seat (opens.Done own) at on nowhere reply out sound = absurd on

      -- ---- how it ends, and goes on

      at_rest : (task : Task) → AsksAsTask first past number running.store running.modes running.begun running.turns task works.ask
          → StandsAt before_it number running.modes running.work task → (reply : Reply) → e.outcome ≡ outcomes.Reply reply
          → refuses_opening reply ≡ false → IsSeated (cores_after now) number (modes_after e.asked running.modes)
      at_rest OpenStore order stands reply out sound = opened_seat stands.0 stands.1 stands.2 stands.3 reply out sound
      at_rest (MakeCall call) order stands reply out sound = call_kept works.ask call works.told order stands

      -- a refused opening leaves its number registered nowhere; no call is refused in this way
      freed : (task : Task) → StandsAt before_it number running.modes running.work task → (reply : Reply) → e.outcome ≡ outcomes.Reply reply
          → refuses_opening reply ≡ true → Promise first now number running.store running.modes running.begun task reply → IsNowhere (cores_after now) number
      freed OpenStore stands reply out refuses promise =
          let ended = reply_of _ reply (sym works.goes ∙ out) in
          out_still stands.0 stands.1 stands.2 stands.3 (λ slots opened. opened_refuses_none reply (sym opened ∙ ended) refuses)
      freed (MakeCall call) stands reply out refuses promise =
          absurd (no_call_refuses first now number running.store running.modes running.begun call reply refuses promise)

      rests : (reply : Reply) (frees : Bool) → refuses_opening reply ≡ frees → e.outcome ≡ outcomes.Reply reply
          → StandsAt before_it number running.modes running.work running.task
          → Promise first now number running.store running.modes running.begun running.task reply
          → Stands now number (if frees then Free else Resting running.store (modes_after e.asked running.modes))
      rests reply true is out stands promise = freed running.task stands reply out is promise
      rests reply false is out stands promise = at_rest running.task works.in_order stands reply out is

      goes_on : (task : Task) → AsksAsTask first past number running.store running.modes running.begun running.turns task works.ask
          → StandsAt before_it number running.modes running.work task → (left : Work) → fed_in running.store running.work (answered e.asked) ≡ Err left
          → StandsAt (cores_after now) number (modes_after e.asked running.modes) left task
      goes_on OpenStore order stands left is =
          let on = on_by running.store stands.0 (answered e.asked) left (ap (λ w. fed_in running.store w (answered e.asked)) (sym stands.1) ∙ is) in
          (on.0, on.1, on.2, out_still stands.0 stands.1 stands.2 stands.3 (λ slots opened. cc (sym opened ∙ is)))
      goes_on (MakeCall call) order stands left is = call_kept works.ask call works.told order stands

      own : StandsAt before_it number running.modes running.work running.task
      own = subst (Stands past number) status (before number)

      pending : e.outcome ≡ outcomes.Pending → Stands now number (turned e.asked (Working running))
      pending out =
          let left = left_of (fed_in running.store running.work (answered e.asked)) (sym works.goes ∙ out) in
          subst (λ r. Stands now number (come_to e.asked running r)) (sym left.1) (goes_on running.task works.in_order own left.0 left.1)

      replies_so : (reply : Reply) → e.outcome ≡ outcomes.Reply reply → Promise first now number running.store running.modes running.begun running.task reply
          → Stands now number (replied e.asked reply (Working running))
      replies_so reply out promise = rests reply (refuses_opening reply) refl out own promise

    -- ---- each event

    module _ (first : Volume) (law : Law first past e) where
      -- the work of a handle that is turned
      pub worked : (number : ℕ) → e.step ≡ steps.Turn number → misuse_of e.outcome ≡ None
          → (running : Running) × (table number ≡ Working running) × Works first past number running e × Turns past e number running
      worked number step sound =
          let valid : None ≡ why_not_running (phase_of (table number)) = valid_if_sound first past e law sound ∙ ap (why_not_after first past) step in
          let a = at_work (table number) valid in
          let turn : Turns past e number a.0 = record { turn = record { step = step; done = done_if_sound e.outcome sound }; status = a.1 } in
          (a.0, a.1, law.worked number a.0 turn, turn)

      turn_pending : (step : Step) → e.step ≡ step → IsTurn step → e.outcome ≡ outcomes.Pending → (handle : ℕ)
          → Stands now handle (status_after (length past + 1) step outcomes.Pending e.asked table handle)
      turn_pending (steps.Turn number) is turn out handle =
          let w = worked number is (ap misuse_of out) in
          set past e before number (turned e.asked (table number)) handle
          (subst (λ s. Stands now number (turned e.asked s)) (sym w.1) (pending first number w.0 w.1 w.2 out))
          (λ apart. kept past e before handle (carry first number w.0 w.1 w.2 handle apart))
      turn_pending step is turn out handle = absurd turn

      turn_replied : (step : Step) (reply : Reply) → e.step ≡ step → IsTurn step → e.outcome ≡ outcomes.Reply reply → (handle : ℕ)
          → Stands now handle (status_after (length past + 1) step (outcomes.Reply reply) e.asked table handle)
      turn_replied (steps.Turn number) reply is turn out handle =
          let w = worked number is (ap misuse_of out) in
          set past e before number (replied e.asked reply (table number)) handle
          (subst (λ s. Stands now number (replied e.asked reply s)) (sym w.1) (replies_so first number w.0 w.1 w.2 reply out (law.promise number w.0 w.0.task reply w.3 w.2.begins out)))
          (λ apart. kept past e before handle (carry first number w.0 w.1 w.2 handle apart))
      turn_replied step reply is turn out handle = absurd turn

      pub stands_by : (outcome : Outcome) → e.outcome ≡ outcome → Suits e.step outcome e.asked → (handle : ℕ)
          → Stands now handle (status_after (length past + 1) e.step outcome e.asked table handle)
      stands_by outcomes.Applied out suits handle = applied_by past e before first e.step suits.0 (valid_if_sound first past e law (ap misuse_of out)) (law.applied out) handle
      stands_by outcomes.Pending out suits handle = turn_pending e.step refl suits.0 out handle
      stands_by (outcomes.Reply reply) out suits handle = turn_replied e.step reply refl suits out handle
      stands_by (outcomes.Misuse why) out suits handle = kept past e before handle (carry_nothing past e suits handle)

-- ---- along a run

pub nowhere_at_first : (handle : ℕ) → IsNowhere (cores_after []) handle
unfolding cores_after
nowhere_at_first handle store = refl

stands_now : (first : Volume) (events : List Event) → IsLawful first events → (handle : ℕ) → Stands events handle (status_of events handle)
stands_now first events lawful =
    along_run Stands first events lawful nowhere_at_first (λ past e law before. stands_by past e before first law e.outcome refl law.suits)

seat_at : (events : List Event) (handle : ℕ) (modes : Modes) (work : Work) (task : Task) → StandsAt (cores_after events) handle modes work task
    → HasSeatAt (cores_after events) handle modes task
seat_at events handle modes work OpenStore stands = stands.3
seat_at events handle modes work (MakeCall call) stands = stands

seat_of : (events : List Event) (handle : ℕ) (status : Status) → Stands events handle status → HasSeat events handle status
seat_of events handle Free stands = stands
seat_of events handle (Resting store modes) stands = stands
seat_of events handle (Working running) stands = seat_at events handle running.modes running.work running.task stands

pub seats_now : (first : Volume) (events : List Event) → IsLawful first events → (handle : ℕ) → HasSeat events handle (status_of events handle)
seats_now first events lawful handle = seat_of events handle (status_of events handle) (stands_now first events lawful handle)

-- ---- what is registered

module _ (cores : List History) (store seat : ℕ) where
  out_is_out : (o : Option Bool) → o ≡ None → ¬ (IsSome o)
  out_is_out o none some = let wrong : IsSome {T = Bool} None = subst (λ (p : Option Bool). IsSome p) none some in cc

  own_of_seated : (modes : Modes) → IsSeated cores seat modes → IsSome (registered_at cores store seat) ↔ (modes.core ≡ store)
  own_of_seated modes seated = (by_core (modes.core == store) refl, there)
    where
      by_core : (b : Bool) → (modes.core == store) ≡ b → IsSome (registered_at cores store seat) → modes.core ≡ store
      by_core true is some = eqb-true modes.core store is
      by_core false is some = absurd (out_is_out _ (seated.only store (λ same. eqb-false modes.core store is (sym same))) some)

      there : modes.core ≡ store → IsSome (registered_at cores store seat)
      there same =
          subst (λ n. IsSome (registered_at cores n seat)) same
          (subst (λ o. IsSome (registered (present (unwrap_or o (opened 0 0 0 0))).handles seat)) (sym seated.there) seated.registered)

  own_of_none : IsNowhere cores seat → IsSome (registered_at cores store seat) ↔ ⊥
  own_of_none nowhere = (out_is_out _ (nowhere store), λ wrong. absurd wrong)

  own_at : (modes : Modes) (task : Task) → HasSeatAt cores seat modes task → IsSome (registered_at cores store seat) ↔ IsOpenAtTask store modes task
  own_at modes OpenStore has = own_of_none has
  own_at modes (MakeCall call) has = own_of_seated modes has

own_by : (events : List Event) (store seat : ℕ) (status : Status) → HasSeat events seat status
    → IsSome (registered_at (cores_after events) store seat) ↔ IsOpenAt store status
own_by events store seat Free has = own_of_none (cores_after events) store seat has
own_by events store seat (Resting opened_as modes) has = own_of_seated (cores_after events) store seat modes has
own_by events store seat (Working running) has = own_at (cores_after events) store seat running.modes running.task has

pub registers_own : (first : Volume) (events : List Event) → IsLawful first events → RegistersOwn events
registers_own first events lawful store seat = own_by events store seat (status_of events seat) (seats_now first events lawful seat)

-- ---- after each of the events

pub seats_throughout : (first : Volume) (events : List Event) → IsLawful first events → HasSeatThroughout events
seats_throughout first events lawful now handle within = seats_now first (take now events) (lawful_front first events now lawful) handle

pub registers_own_throughout : (first : Volume) (events : List Event) → IsLawful first events → RegistersOwnThroughout events
registers_own_throughout first events lawful now within = registers_own first (take now events) (lawful_front first events now lawful)
