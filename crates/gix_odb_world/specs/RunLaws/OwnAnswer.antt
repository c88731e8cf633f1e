-- The answers that are an opening's or a call's own, and when a run shows no cause for an error.
use Rattle.std.specs.Prelude.{ℕ, List, length}
use Rattle.odb_disk.specs.MemDisk.{Volume}
use Rattle.gix_object.specs.declared.want.Want.{Want}
use Rattle.gix_object.specs.declared.want.Want.TheVariants as wants
use Rattle.gix_odb_calls.specs.Query.{by_call}
use Rattle.gix_odb_calls.specs.declared.call.Call.{Call}
use Rattle.gix_odb_calls.specs.declared.call.Reply.{Reply}
use Rattle.gix_odb_calls.specs.declared.call.Reply.TheVariants as replies
use Rattle.gix_odb_calls.specs.declared.find.Error as finding
use Rattle.gix_odb_calls.specs.declared.init.Error as opening
use Rattle.gix_odb_calls.specs.declared.load_index.Error as load
use Rattle.gix_odb_calls.specs.declared.query.Query.{Query}
use Rattle.gix_odb_loose.specs.declared.write.Error as loose_write
use Rattle.gix_odb.specs.Contents.{sought}
use Rattle.gix_odb.specs.Refreshed.{IsCaused}
use Rattle.gix_odb_history.specs.Event.{Event}
use Rattle.gix_odb_history.specs.Run.{FailedSince, tree_at}
use Rattle.gix_odb_history.specs.Writing.{CauseOfWrite, ToWrite, to_write}
use Rattle.gix_odb_world.specs.AtWork.{MakeCall, Modes, OpenStore, Store, Task, setting_in}
use Rattle.gix_odb_world.specs.Causes.{FindCause, OpeningCause}
use Rattle.gix_odb_world.specs.Refused.{LoadCause, RefusedSince}
use Rattle.gix_odb_world.specs.Told.{told_since}

-- ---- own answers

-- a find finds an object or none, a look-up of a header a header or none, and a test says yes or no
abbrev pub IsOwnOfWant : Want → Reply → Type 0
IsOwnOfWant wants.Object (replies.Found kind bytes) = Unit {0}
IsOwnOfWant wants.Object replies.NotFound = Unit {0}
IsOwnOfWant wants.Header (replies.Header header) = Unit {0}
IsOwnOfWant wants.Header replies.NotFound = Unit {0}
IsOwnOfWant wants.Presence (replies.Tested there) = Unit {0}
IsOwnOfWant want reply = ⊥

-- a write names the object
abbrev pub IsOwnOfWrite : Reply → Type 0
IsOwnOfWrite (replies.Wrote id) = Unit {0}
IsOwnOfWrite reply = ⊥

abbrev pub IsOwnOfCall : Call → Reply → Type 0
IsOwnOfCall call reply = by_call (λ query. IsOwnOfWant query.want reply) (λ kind size bytes known. IsOwnOfWrite reply) call

-- an opening returns the slots of its store; none of these answers is a refusal
abbrev pub IsOwnAnswer : Task → Reply → Type 0
IsOwnAnswer OpenStore (replies.Opened slots) = Unit {0}
IsOwnAnswer OpenStore reply = ⊥
IsOwnAnswer (MakeCall call) reply = IsOwnOfCall call reply

-- ---- no cause

-- what the events of a run show of a handle's query since the event that has a number is the cause of no error
abbrev pub NoQueryCause : Volume → List Event → (handle : ℕ) → Store → Modes → (begun : ℕ) → Query → Type 0
NoQueryCause first events handle store modes begun query =
    (error : finding.Error) → ¬ (FindCause (tree_at first events) (FailedSince events handle begun) (RefusedSince events handle modes.core begun) (told_since events handle begun) store
    begun (length events) query.want (sought store.parts modes.ignoring query) error)

-- what they show of a write is the cause of no error of the loose objects, and of none of the listing before it
pub record NoWriteCause (first : Volume) (events : List Event) (handle : ℕ) (store : Store) (modes : Modes) (begun : ℕ) (w : ToWrite) : Type 0 where
  pub written : (error : loose_write.Error) → ¬ (CauseOfWrite first events handle begun w error)
  pub listed : (error : load.Error) → ¬ (LoadCause (RefusedSince events handle modes.core begun) (IsCaused (setting_in store) (told_since events handle begun) error) error)

-- what they show of an opening is the cause of no error
abbrev pub NoOpeningCause : Volume → List Event → (handle : ℕ) → Store → (begun : ℕ) → Type 0
NoOpeningCause first events handle store begun =
    (error : opening.Error) → ¬ (OpeningCause (tree_at first events) (FailedSince events handle begun) (told_since events handle begun) store begun (length events) error)

-- what they show of a task is the cause of no error
abbrev pub NoCause : Volume → List Event → (handle : ℕ) → Store → Modes → (begun : ℕ) → Task → Type 0
NoCause first events handle store modes begun OpenStore = NoOpeningCause first events handle store begun
NoCause first events handle store modes begun (MakeCall call) =
    by_call
    (λ query. NoQueryCause first events handle store modes begun query)
    (λ kind size bytes known. NoWriteCause first events handle store modes begun (to_write store.parts.objects store.parts.object_hash kind size bytes known))
    call
