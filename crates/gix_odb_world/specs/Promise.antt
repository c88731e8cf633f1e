-- What the reply to an opening or a call promises of the moments from its start to the reply.
use Rattle.std.specs.Prelude.{◌≡◌, ℕ, ◌≤◌, true, false, List, [], ◌∷◌, ◌++◌, length}
use Rattle.odb_disk.specs.Tree.{Tree}
use Rattle.odb_disk.specs.MemDisk.{Volume}
use Rattle.gix_hash.specs.declared.object_id.ObjectId.{ObjectId}
use Rattle.gix_odb_calls.specs.declared.query.Query.{Query}
use Rattle.gix_object.specs.declared.want.Want.{Want}
use Rattle.gix_object.specs.declared.want.Want.TheVariants as wants
use Rattle.gix_odb_calls.specs.declared.call.Reply.{Reply}
use Rattle.gix_odb_calls.specs.declared.call.Reply.TheVariants as replies
use Rattle.gix_odb_calls.specs.declared.call.CallError.TheVariants as call_errors
use Rattle.gix_odb_calls.specs.declared.find.Error as finding
use Rattle.gix_odb_calls.specs.Query.{by_call}
use Rattle.gix_odb.specs.Contents.{Answer, Object, HeaderOf, Presence, folder_list, sought}
use Rattle.gix_odb.specs.Held.{Held, Still}
use Rattle.gix_odb.specs.LookExchanges.{Exchange}
use Rattle.gix_odb.specs.RefreshMode.{by_mode}
use Rattle.gix_odb.specs.declared.refresh_mode.RefreshMode.{RefreshMode}
use Rattle.gix_odb_history.specs.Event.{CoreAnswer, Event, OfNewCore}
use Rattle.gix_odb_events.specs.declared.event.Refusal.{Refusal}
use Rattle.gix_odb_world.specs.Refused.{RefusedSince}
use Rattle.gix_odb_world.specs.Told.{told_since}
use Rattle.gix_odb_world.specs.Status.{Store, Task, OpenStore, MakeCall, Modes, setting_in}
use Rattle.gix_odb_history.specs.Run.{tree_at, FailedSince}
use Rattle.gix_odb_history.specs.Writing.{to_write}
use Rattle.gix_odb_world.specs.Written.{PromiseOfWrite}
use Rattle.gix_odb_world.specs.Counted.{IsCountedNumber}
use Rattle.gix_odb_world.specs.Causes.{Sometime, ShowsDirectory, OpeningCause, FindCause}
use Rattle.gix_odb_events.specs.PackId.{most_slots}

-- The last of the events made a core with so many slots, of a store with so many folders.
pub record MadeCore (events : List Event) (slots folders : ℕ) : Type 0 where
  pub past : List Event
  pub event : Event
  pub last : events ≡ past ++ event ∷ []
  pub core : ℕ
  pub seat : ℕ
  pub answer : CoreAnswer
  pub asked : event.asked ≡ OfNewCore slots folders core seat answer

-- An open store has the slots that were given, or as many as are needed for the files that its opening counted, each of which was shown meanwhile;
-- they are those of the core that was made for it, and its objects directory was shown in the opening.
pub record Opens (events : List Event) (trees : ℕ → Tree) (told : List Exchange) (store : Store) (begun now slots : ℕ) : Type 0 where
  pub number : IsCountedNumber trees (setting_in store) told begun now store.parts.slots slots
  pub core : MadeCore events slots (length (folder_list store.parts))
  pub not_too_many : slots ≤ most_slots
  pub directory : Sometime begun now (λ moment. ShowsDirectory (trees moment) store.parts.objects)

-- The moment from which an object has to stay unchanged, to be found by a call: its start; or, by a handle that never refreshes its list, the
-- store's opening.
abbrev pub still_from : RefreshMode → Store → (begun : ℕ) → ℕ
still_from mode store begun = by_mode store.opened begun mode

-- A reply that the object isn't there: no call of the disk failed in the call, and no sound object of the id stayed
-- unchanged throughout, or since the store was opened.
pub record Misses (trees : ℕ → Tree) (Failed : Type 0) (store : Store) (mode : RefreshMode) (begun now : ℕ) (want : Want) (id : ObjectId) : Type 0 where
  pub no_failure : ¬ Failed
  pub none_still : ¬ Still trees store.parts (still_from mode store begun) now want id

-- what a reply claims of its call: an answer that was held, that the object isn't there, an error with its cause; or
-- that the call never ends with it
pub data Claim : Type 0 where
  Holding : (answer : Answer) → Claim
  Missing : Claim
  Caused : (error : finding.Error) → Claim
  Never : Claim

-- what a reply claims, by what is wanted
abbrev pub claim_of : Want → Reply → Claim
claim_of want (replies.Refused (call_errors.Find error)) = Caused error
claim_of wants.Object (replies.Found kind bytes) = Holding (Object kind bytes)
claim_of wants.Object replies.NotFound = Missing
claim_of wants.Header (replies.Header header) = Holding (HeaderOf header)
claim_of wants.Header replies.NotFound = Missing
claim_of wants.Presence (replies.Tested true) = Holding Presence
claim_of wants.Presence (replies.Tested false) = Missing
claim_of want reply = Never

-- What a claim says, of the sought id, of a query with these answers to its handle since it began. The store was opened at the moment after its
-- open step.
abbrev pub Keeps : (ℕ → Tree) → Type 0 → (Refused : Refusal → Type 0) → (told : List Exchange) → Store → RefreshMode → ℕ → ℕ → Want → ObjectId → Claim → Type 0
Keeps trees Failed Refused told store mode begun now want id (Holding answer) = Held trees store.parts store.opened begun now want id answer
Keeps trees Failed Refused told store mode begun now want id Missing = Misses trees Failed store mode begun now want id
Keeps trees Failed Refused told store mode begun now want id (Caused error) = FindCause trees Failed Refused told store begun now want id error
Keeps trees Failed Refused told store mode begun now want id Never = ⊥

-- What a reply to an opening promises, with these answers to its handle since it began. A reply that an opening never ends with promises what
-- nothing can keep.
abbrev pub OpeningPromise : List Event → (ℕ → Tree) → Type 0 → (told : List Exchange) → Store → ℕ → ℕ → Reply → Type 0
OpeningPromise events trees Failed told store begun now (replies.Opened slots) = Opens events trees told store begun now slots
OpeningPromise events trees Failed told store begun now (replies.Refused (call_errors.Open error)) = OpeningCause trees Failed told store begun now error
OpeningPromise events trees Failed told store begun now reply = ⊥

-- What the reply to a query promises, of the id that it seeks.
abbrev pub QueryPromise : (ℕ → Tree) → Type 0 → (Refused : Refusal → Type 0) → (told : List Exchange) → Store → (modes : Modes) → ℕ → ℕ → Query → Reply → Type 0
QueryPromise trees Failed Refused told store modes begun now query reply = Keeps trees Failed Refused told store modes.refresh begun now query.want (sought store.parts modes.ignoring query) (claim_of query.want reply)

-- What a reply that the last event gives promises, by the task with which the handle began.
abbrev pub Promise : Volume → List Event → (handle : ℕ) → Store → (modes : Modes) → ℕ → Task → Reply → Type 0
Promise first events handle store modes begun OpenStore reply =
    OpeningPromise events (tree_at first events) (FailedSince events handle begun) (told_since events handle begun) store begun (length events) reply
Promise first events handle store modes begun (MakeCall call) reply =
    by_call
    (λ query. QueryPromise (tree_at first events) (FailedSince events handle begun) (RefusedSince events handle modes.core begun) (told_since events handle begun) store modes begun (length events) query reply)
    (λ kind size bytes known. PromiseOfWrite first events handle store modes begun (to_write store.parts.objects store.parts.object_hash kind size bytes known) reply)
    call
