-- Laws of runs in which no error has its cause: openings and calls are answered by an answer of their own.
use Rattle.std.proofs.Common.{◌≡◌, ℕ, ◌+◌, List, [], ◌∷◌, ◌++◌, take, subst}
use Rattle.std.specs.Prelude.{Option, length}
use Rattle.odb_disk.specs.MemDisk.{Volume}
use Rattle.gix_hash.specs.declared.object_id.ObjectId.{ObjectId}
use Rattle.gix_object.specs.declared.kind.Kind.{Kind}
use Rattle.gix_object.specs.declared.want.Want.{Want}
use Rattle.gix_object.specs.declared.want.Want.TheVariants as wants
use Rattle.gix_odb_calls.proofs.QueryLaws.{each_call}
use Rattle.gix_odb_calls.specs.declared.call.Call.{Call}
use Rattle.gix_odb_calls.specs.declared.call.CallError.TheVariants as call_errors
use Rattle.gix_odb_calls.specs.declared.call.Reply.{Reply}
use Rattle.gix_odb_calls.specs.declared.call.Reply.TheVariants as replies
use Rattle.gix_odb_calls.specs.declared.find.Error.{Error}
use Rattle.gix_odb_calls.specs.declared.query.Query.{Query}
use Rattle.gix_odb_calls.specs.declared.step.Outcome.TheVariants as outcomes
use Rattle.gix_odb_calls.specs.declared.write.Error.TheVariants as write_errors
use Rattle.gix_odb_history.specs.Event.{Event}
use Rattle.gix_odb_history.specs.Run.{FailedSince, tree_at}
use Rattle.gix_odb_history.specs.Writing.{ToWrite, to_write}
use Rattle.gix_odb_world.specs.AtWork.{MakeCall, Modes, OpenStore, Running, Store, Task}
use Rattle.gix_odb_world.specs.Headline.{Law}
use Rattle.gix_odb.specs.Contents.{sought}
use Rattle.gix_odb_world.specs.Causes.{FindCause}
use Rattle.gix_odb_world.specs.Promise.{Keeps, OpeningPromise, Promise, QueryPromise, claim_of}
use Rattle.gix_odb_world.specs.Refused.{RefusedSince}
use Rattle.gix_odb_world.specs.Told.{told_since}
use Rattle.gix_odb_world.specs.Written.{PromiseOfWrite}
use Rattle.gix_odb_world.proofs.QueryCalls.{of_call, to_call}
use Rattle.gix_odb_world.proofs.RunSteps.Fronts.{take_next}
use Rattle.gix_odb_world.specs.RunLaws.OwnAnswer.{IsOwnAnswer, IsOwnOfCall, IsOwnOfWant, IsOwnOfWrite, NoCause, NoOpeningCause, NoQueryCause, NoWriteCause}
use Rattle.gix_odb_world.specs.RunLaws.Turn.{IsTurnAt}
use Rattle.gix_odb_world.proofs.RunLaws.KnownRun.{IsKnownRun}

-- ---- by the promise of a reply

module _ (first : Volume) (events : List Event) (handle : ℕ) (store : Store) (modes : Modes) (begun : ℕ) where
  own_opening : (reply : Reply)
      → OpeningPromise events (tree_at first events) (FailedSince events handle begun) (told_since events handle begun) store begun (length events) reply
      → NoOpeningCause first events handle store begun → IsOwnAnswer OpenStore reply
  own_opening (replies.Opened slots) promise none = tt
  own_opening (replies.Refused (call_errors.Open error)) promise none = absurd (none error promise)
  own_opening reply promise none = absurd promise

  abbrev Promised : Reply → Query → Type 0
  Promised reply query =
      QueryPromise (tree_at first events) (FailedSince events handle begun) (RefusedSince events handle modes.core begun) (told_since events handle begun) store modes begun (length events) query reply

  abbrev PromisedOfWrite : Reply → Kind → ℕ → List ℕ → Option ObjectId → Type 0
  PromisedOfWrite reply kind size bytes known =
      PromiseOfWrite first events handle store modes begun (to_write store.parts.objects store.parts.object_hash kind size bytes known) reply

  abbrev NoCauseOfWrite : Kind → ℕ → List ℕ → Option ObjectId → Type 0
  NoCauseOfWrite kind size bytes known = NoWriteCause first events handle store modes begun (to_write store.parts.objects store.parts.object_hash kind size bytes known)

  own_query : (query : Query) (reply : Reply) → Promised reply query → NoQueryCause first events handle store modes begun query → IsOwnOfWant query.want reply
  own_query query reply promise none = by query.want reply promise none
    where
      id : ObjectId
      id = sought store.parts modes.ignoring query

      by : (want : Want) (reply : Reply)
          → Keeps (tree_at first events) (FailedSince events handle begun) (RefusedSince events handle modes.core begun) (told_since events handle begun) store modes.refresh begun (length events) want id (claim_of want reply)
          → ((error : Error) → ¬ (FindCause (tree_at first events) (FailedSince events handle begun) (RefusedSince events handle modes.core begun) (told_since events handle begun) store begun (length events) want id error))
          → IsOwnOfWant want reply
      by want (replies.Refused (call_errors.Find error)) promise none = absurd (none error promise)
      by wants.Object (replies.Found kind bytes) promise none = tt
      by wants.Object replies.NotFound promise none = tt
      by wants.Header (replies.Header header) promise none = tt
      by wants.Header replies.NotFound promise none = tt
      by wants.Presence (replies.Tested there) promise none = tt
      by want reply promise none = absurd promise

  own_write : (w : ToWrite) (reply : Reply)
      → PromiseOfWrite first events handle store modes begun w reply → NoWriteCause first events handle store modes begun w → IsOwnOfWrite reply
  own_write w (replies.Wrote id) promise none = tt
  own_write w (replies.Refused (call_errors.Write (write_errors.LooseWrite error))) promise none = absurd (none.written error promise.cause)
  own_write w (replies.Refused (call_errors.Write (write_errors.LoadIndex error))) promise none = absurd (none.listed error promise.cause)
  own_write w reply promise none = absurd promise

  own_answer : (task : Task) (reply : Reply) → Promise first events handle store modes begun task reply → NoCause first events handle store modes begun task
      → IsOwnAnswer task reply
  own_answer OpenStore reply promise none = own_opening reply promise none
  own_answer (MakeCall call) reply promise none =
      each_call
      (λ (c : Call). Promise first events handle store modes begun (MakeCall c) reply → NoCause first events handle store modes begun (MakeCall c) → IsOwnOfCall c reply)
      (λ query promised no_cause.
      to_call (λ (q : Query). IsOwnOfWant q.want reply) (λ kind size bytes known. IsOwnOfWrite reply) query
      (own_query query reply (of_call (Promised reply) (PromisedOfWrite reply) query promised)
      (of_call (λ (q : Query). NoQueryCause first events handle store modes begun q) NoCauseOfWrite query no_cause)))
      (λ kind size bytes known promised no_cause. own_write (to_write store.parts.objects store.parts.object_hash kind size bytes known) reply promised no_cause)
      call promise none

-- Where a turn ends a task, and the run up to it shows no cause of an error for the task, the reply is an answer of its own and no refusal.
pub without_a_cause_the_answer_is_its_own : (first : Volume) (events : List Event) → IsKnownRun first events
    → (place : ℕ) (e : Event) (handle : ℕ) (running : Running) → IsTurnAt events place e handle running
    → (reply : Reply) → e.outcome ≡ outcomes.Reply reply
    → NoCause first (take (place + 1) events) handle running.store running.modes running.begun running.task
    → IsOwnAnswer running.task reply
without_a_cause_the_answer_is_its_own first events is place e handle running turn reply ends none =
    let past : List Event = take place events in
    let law : Law first past e = is.lawful place e turn.there in
    let begins = (law.worked handle running turn.turns).begins in
    let promise : Promise first (past ++ e ∷ []) handle running.store running.modes running.begun running.task reply =
    law.promise handle running running.task reply turn.turns begins ends in
    own_answer first (past ++ e ∷ []) handle running.store running.modes running.begun running.task reply promise
    (subst (λ (es : List Event). NoCause first es handle running.store running.modes running.begun running.task) (take_next events place e turn.there) none)
