-- Laws of runs about want of memory: no event is answered by it, and no reply tells it.
use Rattle.std.proofs.Common.{◌≡◌, ℕ, true, false, List, [], ◌∷◌, ◌++◌, length, take, Option, Some, None, Err, refl, sym, ap, subst}
use Rattle.std.specs.Prelude.{slice_get}
use Rattle.odb_disk.specs.MemDisk.{Volume}
use Rattle.gix_odb_calls.specs.declared.call.CallError.{CallError}
use Rattle.gix_odb_calls.specs.declared.call.CallError.TheVariants as call_errors
use Rattle.gix_odb_calls.specs.declared.call.Reply.TheVariants as replies
use Rattle.gix_odb_calls.specs.declared.find.Error.TheVariants as find_errors
use Rattle.gix_odb_calls.specs.declared.init.Error.TheVariants as opening_errors
use Rattle.gix_odb_calls.specs.declared.load_index.Error.TheVariants as load_errors
use Rattle.gix_odb_calls.specs.declared.query.Query.{Query}
use Rattle.gix_object.specs.declared.want.Want.{Want}
use Rattle.gix_object.specs.declared.want.Want.TheVariants as asked
use Rattle.gix_odb_calls.proofs.QueryLaws.{by_call-all}
use Rattle.gix_odb_calls.specs.declared.step.Step.{Step}
use Rattle.gix_odb_calls.specs.declared.step.Step.TheVariants as steps
use Rattle.gix_odb_calls.specs.declared.step.Outcome.{Outcome}
use Rattle.gix_odb_calls.specs.declared.step.Outcome.TheVariants as outcomes
use Rattle.gix_odb_calls.specs.declared.write.Error.TheVariants as write_errors
use Rattle.gix_odb_core.specs.History.{History, opened, present}
use Rattle.gix_odb_core.specs.Replay.{number_behind}
use Rattle.gix_odb_core.proofs.RefusalLaws.{each_refusal_has_its_cause}
use Rattle.gix_odb_events.specs.declared.answer.Ask.TheVariants as parts
use Rattle.gix_odb_events.specs.declared.event.Event.TheVariants as core_events
use Rattle.gix_odb_events.specs.declared.event.Refusal.TheVariants as refusals
use Rattle.gix_odb_loose.specs.declared.find.Error.TheVariants as loose_errors
use Rattle.gix_odb_loose.specs.declared.write.Error.TheVariants as loose_write_errors
use Rattle.gix_odb_history.specs.Cores.{answer_behind, cores_after, history_at}
use Rattle.gix_odb_history.specs.Event.{Asked, CoreEvent, Event}
use Rattle.gix_odb_events.specs.declared.answer.Ask.{Ask}
use Rattle.gix_odb_history.specs.Run.{FailedSince, Stand, disk_after, told_now, tree_at}
use Rattle.gix_odb_history.specs.Turned.{is_done}
use Rattle.gix_odb_history.specs.Writing.{ToWrite, to_write}
use Rattle.gix_odb_history.proofs.WriteAsk.Quiet.{never_wants}
use Rattle.gix_odb_world.specs.AtWork.{MakeCall, Modes, OpenStore, Running, Store, Task}
use Rattle.gix_odb_world.specs.Headline.{IsTurn, Law, Suits, Turns, asked_applied, asked_by_clone, asked_by_close, stand_of}
use Rattle.gix_odb.specs.Contents.{sought}
use Rattle.gix_odb_world.specs.Causes.{LooseCause}
use Rattle.gix_odb_world.specs.Promise.{OpeningPromise, Promise, QueryPromise}
use Rattle.gix_odb_world.specs.Status.{Free, Resting, Status, Working, status_of}
use Rattle.gix_odb_world.specs.Refused.{RefusedSince}
use Rattle.gix_odb_world.specs.Told.{told_since}
use Rattle.gix_odb_world.specs.Valid.{misuse_of}
use Rattle.gix_odb_world.specs.Written.{PromiseOfWrite}
use Rattle.gix_odb_world.proofs.RunSteps.{turn_step}
use Rattle.gix_odb_world.specs.RunLaws.Memory.{RanOut, TellsWant}
use Rattle.gix_odb_world.proofs.RunLaws.KnownRun.{IsKnownRun}
use Rattle.gix_odb_world.proofs.RunLaws.TurnsAtWork.{turn_at_work}

-- ---- what a core answers

no_core_wants : (history : History) (seat : ℕ) (event : CoreEvent) → ¬ (answer_behind history seat event ≡ Err refusals.NoMemory)
no_core_wants history seat event wants =
    each_refusal_has_its_cause history.entries (present history) (number_behind history.entries) seat event refusals.NoMemory wants

-- ---- what is answered in an event

told_has_memory : (at : Stand) (disk : Volume) (ask : Option Ask) → ¬ (RanOut (told_now at disk ask))
told_has_memory at disk None wants = wants
told_has_memory at disk (Some (parts.Disk ask)) wants = never_wants disk ask (sym wants)
told_has_memory at disk (Some (parts.Core event)) wants = no_core_wants (history_at at.cores at.store) at.seat event wants
told_has_memory at disk (Some (parts.NewCore slots folders)) wants = no_core_wants (opened slots folders 0 0) at.seat (core_events.Register false) wants

close_has_memory : (cores : List History) (handle : ℕ) (status : Status) → ¬ (RanOut (asked_by_close cores handle status))
close_has_memory cores handle Free wants = wants
close_has_memory cores handle (Resting store modes) wants = no_core_wants (history_at cores modes.core) handle core_events.Remove wants
close_has_memory cores handle (Working running) wants = wants

clone_has_memory : (cores : List History) (handle : ℕ) (status : Status) → ¬ (RanOut (asked_by_clone cores handle status))
clone_has_memory cores handle Free wants = wants
clone_has_memory cores handle (Resting store modes) wants = no_core_wants (history_at cores modes.core) handle (core_events.Register false) wants
clone_has_memory cores handle (Working running) wants = wants

applied_has_memory : (past : List Event) (step : Step) → ¬ (RanOut (asked_applied past step))
applied_has_memory past (steps.Clone handle from) wants = clone_has_memory (cores_after past) handle (status_of past from) wants
applied_has_memory past (steps.Close handle) wants = close_has_memory (cores_after past) handle (status_of past handle) wants
applied_has_memory past step wants = wants

-- a turn of a handle that is at work
record IsAtTask (past : List Event) (e : Event) : Type 0 where
  handle : ℕ
  running : Running
  turns : Turns past e handle running

module _ (first : Volume) (past : List Event) (e : Event) (law : Law first past e) where
  at_task : IsTurn e.step → misuse_of e.outcome ≡ None → is_done e.outcome ≡ true → IsAtTask past e
  at_task is sound done =
      let turn = turn_step e.step is in
      let working = turn_at_work first past e law turn.0 turn.1 sound done in
      record { handle = turn.0; running = working.0; turns = working.1 }

  turn_has_memory : IsAtTask past e → ¬ (RanOut e.asked)
  turn_has_memory at wants =
      let works = law.worked at.handle at.running at.turns in
      told_has_memory (stand_of past at.handle at.running) (disk_after first past) works.ask (subst RanOut works.told wants)

  memory_by : (outcome : Outcome) → e.outcome ≡ outcome → Suits e.step outcome e.asked → ¬ (RanOut e.asked)
  memory_by outcomes.Applied is suits wants = applied_has_memory past e.step (subst RanOut (law.applied is) wants)
  memory_by outcomes.Pending is suits wants = turn_has_memory (at_task suits.0 (ap misuse_of is) (ap is_done is)) wants
  memory_by (outcomes.Reply reply) is suits wants = turn_has_memory (at_task suits (ap misuse_of is) (ap is_done is)) wants
  memory_by (outcomes.Misuse why) is suits wants = subst RanOut suits wants

  event_has_memory : ¬ (RanOut e.asked)
  event_has_memory = memory_by e.outcome refl law.suits

-- No event of a run is answered with `out of memory`: by the disk, or by a core.
pub no_event_is_answered_by_want_of_memory : (first : Volume) (events : List Event) → IsKnownRun first events
    → (place : ℕ) (e : Event) → slice_get events place ≡ Some e → ¬ (RanOut e.asked)
no_event_is_answered_by_want_of_memory first events is place e there = event_has_memory first (take place events) e (is.lawful place e there)

-- ---- what a reply reports

module _ (first : Volume) (events : List Event) (handle : ℕ) (store : Store) (modes : Modes) (begun : ℕ) where
  opening_wants : (error : CallError)
      → OpeningPromise events (tree_at first events) (FailedSince events handle begun) (told_since events handle begun) store begun (length events) (replies.Refused error)
      → ¬ (TellsWant error)
  opening_wants (call_errors.Open opening_errors.NoMemory) promise wants = promise
  opening_wants (call_errors.Open (opening_errors.LoadIndex load_errors.NoMemory)) promise wants = promise
  opening_wants (call_errors.Open error) promise wants = wants
  opening_wants (call_errors.Find error) promise wants = promise
  opening_wants (call_errors.Write error) promise wants = promise

  query_wants : (query : Query) (error : CallError)
      → QueryPromise (tree_at first events) (FailedSince events handle begun) (RefusedSince events handle modes.core begun) (told_since events handle begun) store modes begun (length events) query (replies.Refused error)
      → ¬ (TellsWant error)
  query_wants query (call_errors.Find find_errors.NoMemory) promise wants = promise
  query_wants query (call_errors.Find (find_errors.LoadIndex load_errors.NoMemory)) promise wants = promise
  query_wants query (call_errors.Find (find_errors.Loose loose_errors.NoMemory)) promise wants = by query.want promise
    where
      by : (want : Want)
          → ¬ (LooseCause (tree_at first events) (FailedSince events handle begun) store begun (length events) want (sought store.parts modes.ignoring query) loose_errors.NoMemory)
      by asked.Object caused = caused.cause
      by asked.Header caused = caused.cause
      by asked.Presence caused = caused.cause
  query_wants query (call_errors.Find error) promise wants = wants
  query_wants query (call_errors.Open error) promise wants = promise
  query_wants query (call_errors.Write error) promise wants = promise

  write_wants : (w : ToWrite) (error : CallError) → PromiseOfWrite first events handle store modes begun w (replies.Refused error) → ¬ (TellsWant error)
  write_wants w (call_errors.Write write_errors.NoMemory) promise wants = promise
  write_wants w (call_errors.Write (write_errors.LoadIndex load_errors.NoMemory)) promise wants = promise.cause
  write_wants w (call_errors.Write (write_errors.LooseWrite loose_write_errors.NoMemory)) promise wants = promise.cause
  write_wants w (call_errors.Write error) promise wants = wants
  write_wants w (call_errors.Open error) promise wants = promise
  write_wants w (call_errors.Find error) promise wants = promise

  never_told : (task : Task) (error : CallError) → Promise first events handle store modes begun task (replies.Refused error) → ¬ (TellsWant error)
  never_told OpenStore error promise wants = opening_wants error promise wants
  never_told (MakeCall call) error promise wants =
      by_call-all (λ (T : Type 0). T → ¬ (TellsWant error))
      (λ query. QueryPromise (tree_at first events) (FailedSince events handle begun) (RefusedSince events handle modes.core begun) (told_since events handle begun) store modes begun (length events) query (replies.Refused error))
      (λ kind size bytes known. PromiseOfWrite first events handle store modes begun (to_write store.parts.objects store.parts.object_hash kind size bytes known) (replies.Refused error))
      (λ query promised. query_wants query error promised)
      (λ kind size bytes known promised. write_wants (to_write store.parts.objects store.parts.object_hash kind size bytes known) error promised)
      call promise wants

is_turn_if_replied : (step : Step) (error : CallError) (asked : Asked) (outcome : Outcome) → outcome ≡ outcomes.Reply (replies.Refused error) → Suits step outcome asked → IsTurn step
is_turn_if_replied step error asked outcome is suits = subst (λ (o : Outcome). Suits step o asked) is suits

-- No query, opening or write of a run ends by an error that reports that memory ran out.
pub no_reply_tells_want_of_memory : (first : Volume) (events : List Event) → IsKnownRun first events
    → (place : ℕ) (e : Event) → slice_get events place ≡ Some e → (error : CallError) → e.outcome ≡ outcomes.Reply (replies.Refused error) → ¬ (TellsWant error)
no_reply_tells_want_of_memory first events is place e there error ends wants =
    let past : List Event = take place events in
    let law : Law first past e = is.lawful place e there in
    let at : IsAtTask past e =
    at_task first past e law (is_turn_if_replied e.step error e.asked e.outcome ends law.suits) (ap misuse_of ends) (ap is_done ends) in
    let begins = (law.worked at.handle at.running at.turns).begins in
    let promise = law.promise at.handle at.running at.running.task (replies.Refused error) at.turns begins ends in
    never_told first (past ++ e ∷ []) at.handle at.running.store at.running.modes at.running.begun at.running.task error promise wants
