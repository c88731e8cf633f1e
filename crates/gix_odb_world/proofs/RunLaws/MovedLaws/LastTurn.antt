-- What the last turn of a query says of its answer and of its reply.
use Rattle.std.proofs.Common.{◌≡◌, ℕ, List, length, Option, Some, None, Result, Ok, Err, sym, ap, ◌∙◌}
use Rattle.odb_disk.specs.MemDisk.{Volume}
use Rattle.gix_odb_events.specs.declared.answer.Ask.{Ask}
use Rattle.gix_odb_events.specs.declared.answer.Ask.TheVariants as parts
use Rattle.gix_odb_calls.specs.declared.call.Reply.{Reply}
use Rattle.gix_odb_calls.specs.declared.query.Query.{Query}
use Rattle.gix_object.specs.declared.want.Want.{Want}
use Rattle.gix_object.specs.declared.want.Want.TheVariants as wants
use Rattle.gix_odb_calls.specs.declared.step.Outcome.TheVariants as outcomes
use Rattle.gix_odb.specs.LookUpOrder.{not_found}
use Rattle.gix_odb.specs.declared.look_up.LookUp.{LookUp}
use Rattle.gix_odb.specs.Contents.{sought}
use Rattle.gix_odb_world.specs.AtWork.{MakeCall, Modes, Store}
use Rattle.gix_odb_history.specs.Cores.{answer_behind, history_at}
use Rattle.gix_odb_history.specs.Event.{CoreAnswer, CoreEvent, Event, OfCore}
use Rattle.gix_odb_world.specs.Headline.{outcome_of}
use Rattle.gix_odb_world.specs.Machine.{placed}
use Rattle.gix_odb_world.specs.Promise.{Keeps, Promise, QueryPromise, claim_of}
use Rattle.gix_odb_world.specs.Refused.{RefusedSince}
use Rattle.gix_odb_world.specs.Written.{PromiseOfWrite}
use Rattle.gix_odb_history.specs.Writing.{to_write}
use Rattle.gix_odb_history.specs.Run.{FailedSince, Stand, told_now, tree_at}
use Rattle.gix_odb_world.specs.Running.Query.{looking}
use Rattle.gix_odb_world.specs.Told.{call_of, told_since}
use Rattle.gix_odb_world.proofs.QueryCalls.{of_call}
use Rattle.gix_odb_world.proofs.RunLaws.QueryTurns.{same_event}

pub reply_of_result : (result : Result Reply LookUp) (reply : Reply) → outcome_of (placed looking result) ≡ outcomes.Reply reply → result ≡ Ok reply
reply_of_result (Ok own) reply is = let same : own ≡ reply = cc is in ap (λ (r : Reply). Ok r) same
reply_of_result (Err look) reply is = absurd (cc is)

pub core_told : (at : Stand) (disk : Volume) (ask : Option Ask) (store seat : ℕ) (event : CoreEvent) (answer : CoreAnswer) → told_now at disk ask ≡ OfCore store seat event answer
    → OfCore at.store at.seat event (answer_behind (history_at at.cores at.store) at.seat event) ≡ OfCore store seat event answer
core_told at disk None store seat event answer is = absurd (cc is)
core_told at disk (Some (parts.Disk ask)) store seat event answer is = absurd (cc is)
core_told at disk (Some (parts.NewCore slots folders)) store seat event answer is = absurd (cc is)
core_told at disk (Some (parts.Core own)) store seat event answer is =
    let same = same_event at.store at.seat store seat own event (answer_behind (history_at at.cores at.store) at.seat own) answer is in
    ap (λ (x : CoreEvent). OfCore at.store at.seat x (answer_behind (history_at at.cores at.store) at.seat x)) (sym same) ∙ is

pub same_answer : (store seat other further : ℕ) (one two : CoreEvent) (a b : CoreAnswer) → OfCore store seat one a ≡ OfCore other further two b → a ≡ b
same_answer store seat other further one two a b is = cc is

pub no_failure : (first : Volume) (whole : List Event) (handle : ℕ) (store : Store) (modes : Modes) (begun : ℕ) (query : Query)
    → Promise first whole handle store modes begun (MakeCall (call_of query)) (not_found query.want) → ¬ (FailedSince whole handle begun)
no_failure first whole handle store modes begun query promise =
    by query.want
    (of_call
    (λ (q : Query). QueryPromise (tree_at first whole) (FailedSince whole handle begun) (RefusedSince whole handle modes.core begun) (told_since whole handle begun) store modes begun (length whole) q (not_found query.want))
    (λ kind size bytes known. PromiseOfWrite first whole handle store modes begun (to_write store.parts.objects store.parts.object_hash kind size bytes known) (not_found query.want))
    query promise)
  where
    by : (want : Want)
        → Keeps (tree_at first whole) (FailedSince whole handle begun) (RefusedSince whole handle modes.core begun) (told_since whole handle begun) store modes.refresh begun (length whole) want (sought store.parts modes.ignoring query) (claim_of want (not_found want))
        → ¬ (FailedSince whole handle begun)
    by wants.Object misses = misses.no_failure
    by wants.Header misses = misses.no_failure
    by wants.Presence misses = misses.no_failure
