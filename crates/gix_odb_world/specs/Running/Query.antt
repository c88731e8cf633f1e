-- What a query knows since it began. No public clause cites this.
use Rattle.std.specs.Prelude.{◌≡◌, ℕ, ◌<◌, ◌≤◌, true, List, [], ◌∷◌, length, Contains, None}
use Rattle.std.specs.List.{IsDistinct}
use Rattle.odb_disk.specs.Ask.{answer_now, fails_now}
use Rattle.odb_disk.specs.MemDisk.{Volume}
use Rattle.odb_disk.specs.declared.ask.DiskAnswer.{DiskAnswer}
use Rattle.odb_disk.specs.declared.ask.DiskAsk.{DiskAsk}
use Rattle.odb_disk.specs.Tree.{tree_of}
use Rattle.gix_hash.specs.ObjectId.{kind_of}
use Rattle.gix_hash.specs.declared.object_id.ObjectId.{ObjectId}
use Rattle.gix_odb_calls.specs.declared.query.Query.{Query}
use Rattle.gix_odb_core.specs.History.{present}
use Rattle.gix_odb_events.specs.declared.answer.Answer.TheVariants as told
use Rattle.gix_odb_events.specs.declared.answer.Ask.TheVariants as asks
use Rattle.gix_odb_events.specs.PackFiles.{same_path}
use Rattle.gix_odb.specs.LookExchanges.{AreAnswered, AreAsked, Exchange, HasFailed, WasTold}
use Rattle.gix_odb.specs.Fair.{AreFair, PackedPlace}
use Rattle.gix_odb.specs.StillListed.{AreFairOrFailed, AreListed}
use Rattle.gix_odb.specs.Laps.{AreNumbered, AreWithin, number_by}
use Rattle.gix_odb.specs.Shown.{IsShownView}
use Rattle.gix_odb.specs.True.{AreTrue}
use Rattle.gix_odb.specs.declared.look_up.LookUp.{LookUp}
use Rattle.gix_odb.specs.Contents.{folder_list, sought}
use Rattle.gix_odb.specs.Held.{WasShownWith}
use Rattle.gix_odb.specs.Store.{listed_for}
use Rattle.gix_odb_world.specs.AtWork.{MakeCall, Modes, Running, Store, setting_in}
use Rattle.gix_odb_world.specs.Bound.{HasAtMost}
use Rattle.gix_odb_history.specs.Cores.{cores_after, history_at}
use Rattle.gix_odb_history.specs.Event.{Event}
pub use Rattle.gix_odb_world.specs.Machines.Queries.{looking}
use Rattle.gix_odb_history.specs.Run.{FailedSince, tree_at}
use Rattle.gix_odb_world.specs.Running.PackedStill.{IsPackedStill}
use Rattle.gix_odb_world.specs.Running.Refused.{AreRefused}
pub use Rattle.gix_odb_world.specs.Told.{call_of}
use Rattle.gix_odb_world.specs.Told.{look_begun, look_now, told_since, view_then}

-- ---- the answers to its handle

-- the disk gave this answer at some moment since the query began, as it was then
pub record IsGiven (first : Volume) (events : List Event) (handle begun : ℕ) (ask : DiskAsk) (answer : DiskAnswer) : Type 0 where
  pub moment : ℕ
  pub from : begun ≤ moment
  pub to : moment ≤ length events
  pub disk : Volume
  pub shown : tree_at first events moment ≡ tree_of disk.state
  pub is : answer ≡ answer_now disk ask
  pub failed : fails_now disk ask ≡ true → FailedSince events handle begun

-- the number of the list after exchanges
abbrev pub number_after : (before : ℕ) → List Exchange → ℕ
number_after before [] = before
number_after before (exchange ∷ exchanges) = number_after (number_by before exchange.answer) exchanges

-- All answers to its handle since it began are true of the run; and where none of them failed, they are fair to what stayed unchanged in a pack.
pub record IsToldWell (first : Volume) (events : List Event) (handle : ℕ) (store : Store) (modes : Modes) (begun : ℕ) : Type 0 where
  pub opened : store.opened ≤ begun
  pub snapshot : IsShownView (WasShownWith (tree_at first events) store.opened (length events)) (setting_in store) store.parts.object_hash (view_then events handle modes.core begun)
  pub few : length (view_then events handle modes.core begun).snapshot.indices ≤ modes.slots
  pub place : modes.core < length (cores_after events)
  pub truth : AreTrue (WasShownWith (tree_at first events) store.opened (length events)) (setting_in store) store.parts.object_hash (told_since events handle begun)
  pub answered : AreAnswered (told_since events handle begun)
  pub numbered : AreNumbered modes.slots 0 (told_since events handle begun)
  pub no_later : number_after 0 (told_since events handle begun) ≤ (present (history_at (cores_after events) modes.core)).list_no
  pub within : (entries : ℕ) → HasAtMost (tree_at first events) store.parts begun (length events) entries → AreWithin entries None (told_since events handle begun)
  pub given : (ask : DiskAsk) (answer : DiskAnswer) → WasTold (told_since events handle begun) (asks.Disk ask) (told.Disk answer)
      → IsGiven first events handle begun ask answer
  pub failures : FailedSince events handle begun → HasFailed (told_since events handle begun)
  -- each call that didn't fail is fair; and each list that its looks at the core showed has what stayed unchanged in a pack since the store was opened
  pub met : (id : ObjectId) (place : PackedPlace) → IsPackedStill (tree_at first events) store begun (length events) id place
      → AreFairOrFailed (listed_for store.parts).multi store.parts.object_hash id place [] (told_since events handle begun)
  pub listed : (id : ObjectId) (place : PackedPlace) → Contains (folder_list store.parts) place.folder
      → IsPackedStill (tree_at first events) store store.opened (length events) id place
      → AreListed (listed_for store.parts).multi store.parts.object_hash id place (told_since events handle begun)
  pub fair : (id : ObjectId) (place : PackedPlace) → ¬ (FailedSince events handle begun)
      → IsPackedStill (tree_at first events) store begun (length events) id place
      → AreFair (listed_for store.parts).multi store.parts.object_hash id place [] (told_since events handle begun)

-- ---- what it knows

-- what the store of a query is: no folder occurs twice in it, and the sought id is of its hash
pub record IsFit (store : Store) (modes : Modes) (query : Query) : Type 0 where
  pub distinct : IsDistinct same_path (folder_list store.parts)
  pub hashed : kind_of (sought store.parts modes.ignoring query) ≡ store.parts.object_hash

-- A query is at the state after all answers to its handle since it began, each of which answered its ask then, and had a turn for each.
pub record IsLooking (first : Volume) (events : List Event) (handle : ℕ) (running : Running) (look : LookUp) : Type 0 where
  pub query : Query
  pub task : running.task ≡ MakeCall (call_of query)
  pub since : running.begun ≤ length events
  pub fits : IsFit running.store running.modes query
  pub is : look ≡ look_now events handle running.store running.modes running.begun query
  pub asked : AreAsked (setting_in running.store) (look_begun events handle running.store running.modes running.begun query) (told_since events handle running.begun)
  pub turns : running.turns ≡ length (told_since events handle running.begun)
  pub well : IsToldWell first events handle running.store running.modes running.begun
  pub refused : AreRefused events handle running.modes.core running.begun
