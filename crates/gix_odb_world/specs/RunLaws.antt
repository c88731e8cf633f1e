-- Laws of every run, which `World::run` promises besides the rest: how finds, listings and the core's events end, when a task ends, and that
-- nothing reports that memory ran out. Read `Turn` first, then the file that a law's words come from.
pub mod Turn
pub mod Ends
pub mod Stored
pub mod Listed
pub mod Hashed
pub mod Moved
pub mod Missed
pub mod Pending
pub mod OwnAnswer
pub mod Memory
use Rattle.std.specs.Prelude.{◌≡◌, ℕ, ◌+◌, ◌<◌, true, List, length, take, slice_get, Some}
use Rattle.odb_base.specs.Path.{Path}
use Rattle.odb_disk.specs.MemDisk.{Volume}
use Rattle.odb_disk.specs.declared.ask.DiskAnswer.TheVariants as answers
use Rattle.gix_hash.specs.declared.object_id.ObjectId.{ObjectId}
use Rattle.gix_object.specs.Id.{object_id}
use Rattle.gix_object.specs.declared.kind.Kind.{Kind}
use Rattle.gix_pack_read.specs.Index.{is_index}
use Rattle.gix_pack_read.specs.Pack.{is_pack}
use Rattle.gix_odb_events.specs.declared.event.Event.TheVariants as core_events
use Rattle.gix_odb_events.specs.declared.listing.Listing.{Listing}
use Rattle.gix_odb_events.specs.declared.pack_id.PackId.{PackId}
use Rattle.gix_odb_search.specs.LongestFirst.{longest_first}
use Rattle.gix_odb_calls.specs.declared.call.CallError.{CallError}
use Rattle.gix_odb_calls.specs.declared.call.Reply.{Reply}
use Rattle.gix_odb_calls.specs.declared.call.Reply.TheVariants as replies
use Rattle.gix_odb_calls.specs.declared.query.Query.{Query}
use Rattle.gix_odb_calls.specs.declared.step.Outcome.TheVariants as outcomes
use Rattle.gix_odb.specs.LookUpOrder.{not_found}
use Rattle.gix_odb.specs.declared.refresh_mode.RefreshMode.TheVariants.{AfterAllIndicesLoaded}
use Rattle.gix_odb.specs.Shown.{IsIndexPath}
use Rattle.gix_odb.specs.AtHand.{IsAtHand}
use Rattle.gix_odb.specs.JustRead.{IsPackPath}
use Rattle.gix_odb.specs.ListedFiles.{listed_in}
use Rattle.gix_odb.specs.Contents.{folder_list, sought}
use Rattle.gix_odb.specs.Store.{listed_for}
use Rattle.gix_odb_history.specs.Event.{CoreEvent, Event}
use Rattle.gix_odb_history.specs.Run.{tree_at}
use Rattle.gix_odb_world.specs.AtWork.{Running, setting_in}
use Rattle.gix_odb_world.specs.Told.{told_since, view_then}
use Rattle.gix_odb_world.specs.RunLaws.Turn.{AsksCore, IsQueryTurn, IsTurnAt, IsTurnBefore, Reads}
use Rattle.gix_odb_world.specs.RunLaws.Ends.{EndsUnasked}
use Rattle.gix_odb_world.specs.RunLaws.Stored.{IsBacked}
use Rattle.gix_odb_world.specs.RunLaws.Listed.{AreRowsShown, StoodStill}
use Rattle.gix_odb_world.specs.RunLaws.Hashed.{ObjectsHash, find_of}
use Rattle.gix_odb_world.specs.RunLaws.Moved.{HadPublished, HasMoved}
use Rattle.gix_odb_world.specs.RunLaws.Missed.{EndAtLastList}
use Rattle.gix_odb_world.specs.RunLaws.Pending.{AreInTime, ArePending}
use Rattle.gix_odb_world.specs.RunLaws.OwnAnswer.{IsOwnAnswer, NoCause}
use Rattle.gix_odb_world.specs.RunLaws.Memory.{RanOut, TellsWant}

-- The laws of the events that follow a first disk. A moment is a number of events, and a place is that of an event, from 0: the event at a place
-- is answered by the tree of the moment with the same number.
pub record KeepsRunLaws (first : Volume) (events : List Event) : Type 0 where
  -- Let a handle's snapshot, as its query began, be of a list that was read, with an index that has the sought id and the pack that each such index names
  -- for it; for a test an index with the id is enough. Then the query ends in its first turn, which asks for nothing, and not with "not found".
  pub at_hand : (place : ℕ) (e : Event) (handle : ℕ) (running : Running) (query : Query) → IsQueryTurn events place e handle running query → running.turns ≡ 0
      → IsAtHand query.want (sought running.store.parts running.modes.ignoring query) (view_then events handle running.modes.core running.begun)
      → EndsUnasked query e
  -- where a query read an index in a folder of its store, and the bytes parse, its next turn stores these bytes
  pub stores_index : (place : ℕ) (e : Event) (handle : ℕ) (running : Running) (query : Query) → IsQueryTurn events place e handle running query
      → (before : ℕ) (read : Event) (path : Path) (bytes : List ℕ) (time : ℕ) → IsTurnBefore events handle running.begun before read place
      → Reads read path (answers.File bytes time) → IsIndexPath (setting_in running.store) path → is_index running.store.parts.object_hash bytes ≡ true
      → (slot : ℕ) × AsksCore e (core_events.PutIndex slot path (record { kind = running.store.parts.object_hash; bytes = bytes }))
  -- the same for a pack that it read
  pub stores_pack : (place : ℕ) (e : Event) (handle : ℕ) (running : Running) (query : Query) → IsQueryTurn events place e handle running query
      → (before : ℕ) (read : Event) (path : Path) (bytes : List ℕ) (time : ℕ) → IsTurnBefore events handle running.begun before read place
      → Reads read path (answers.File bytes time) → IsPackPath (setting_in running.store) path → is_pack running.store.parts.object_hash bytes ≡ true
      → (pack : PackId) × AsksCore e (core_events.PutPack pack path (record { kind = running.store.parts.object_hash; bytes = bytes }))
  -- What a query stores it read in the turn before, as the file's path showed it then; and it passes a file over only in the turn after a read of
  -- its path, for what that read gave.
  pub just_read : (place : ℕ) (e : Event) (handle : ℕ) (running : Running) (query : Query) → IsQueryTurn events place e handle running query
      → (event : CoreEvent) → AsksCore e event → IsBacked events (tree_at first events) handle running.begun place running.store.parts.object_hash event
  -- The rows of a listing that a query or a write passes to the core have different paths, each that of an index, or of the multi-pack index, in the
  -- pack directory of one of the folders of the handle's store. An index was itself a file in the call, and its pack's path showed one; the path of a
  -- multi-pack index showed its row's content at its row's time.
  pub rows_shown : (place : ℕ) (e : Event) (handle : ℕ) (running : Running) → IsTurnAt events place e handle running
      → (listing : Listing) → AsksCore e (core_events.Publish listing) → AreRowsShown (setting_in running.store) (tree_at first events) running.begun place listing.rows
  -- where the tree stayed the same since the call began, they are the tree's listed files, in the order in which they are tried
  pub rows_of_tree : (place : ℕ) (e : Event) (handle : ℕ) (running : Running) → IsTurnAt events place e handle running
      → (listing : Listing) → AsksCore e (core_events.Publish listing) → StoodStill (tree_at first events) running.begun place
      → listing.rows ≡ longest_first (listed_in (tree_at first events running.begun) (listed_for running.store.parts).multi (folder_list running.store.parts))
  -- where each object in the files of a store, as the run shows them since the store was opened, has data that hash to its id, what a find finds has
  -- data that hash to the id that it seeks
  pub hashes : (place : ℕ) (e : Event) (handle : ℕ) (running : Running) (asked : ObjectId) → IsQueryTurn events place e handle running (find_of asked)
      → (kind : Kind) (bytes : List ℕ) → e.outcome ≡ outcomes.Reply (replies.Found kind bytes)
      → ObjectsHash (tree_at first events) (length events) running.store
      → object_id running.store.parts.object_hash kind bytes ≡ sought running.store.parts running.modes.ignoring (find_of asked)
  -- A query of a handle that refreshes its list doesn't end with "not found", in a store whose list had been read as the query began, while its object
  -- moves from a loose file of a
  -- folder into a pack there.
  pub moved_found : (place : ℕ) (e : Event) (handle : ℕ) (running : Running) (query : Query) → IsQueryTurn events place e handle running query
      → running.modes.refresh ≡ AfterAllIndicesLoaded → HadPublished events running.modes.core running.begun
      → HasMoved (tree_at first events) running.store.parts running.begun (place + 1) query.want (sought running.store.parts running.modes.ignoring query)
      → ¬ (e.outcome ≡ outcomes.Reply (not_found query.want))
  -- A query of a handle that refreshes its list and that ends with "not found" ended with a read of the core's state, whose view has the number of the list that the core
  -- published or confirmed last for it.
  pub misses_at_last_list : (place : ℕ) (e : Event) (handle : ℕ) (running : Running) (query : Query) → IsQueryTurn events place e handle running query
      → running.modes.refresh ≡ AfterAllIndicesLoaded → e.outcome ≡ outcomes.Reply (not_found query.want) → EndAtLastList (told_since (take (place + 1) events) handle running.begun)
  -- turns of one handle that are all pending, one after another, are fewer than the bound of its task, with those that it took for the task before
  pub pending_in_time : (handle from count : ℕ) → 0 < count → ArePending events handle from count → AreInTime first events handle from count
  -- where a turn ends a task, and the run up to it shows the cause of no error of the task, the answer is the task's own and no refusal
  pub own_answer : (place : ℕ) (e : Event) (handle : ℕ) (running : Running) → IsTurnAt events place e handle running
      → (reply : Reply) → e.outcome ≡ outcomes.Reply reply
      → NoCause first (take (place + 1) events) handle running.store running.modes running.begun running.task → IsOwnAnswer running.task reply
  -- neither the disk nor a core answers an event with `out of memory`
  pub no_want_answered : (place : ℕ) (e : Event) → slice_get events place ≡ Some e → ¬ (RanOut e.asked)
  -- and no opening, query or write ends by an error that reports it
  pub no_want_told : (place : ℕ) (e : Event) → slice_get events place ≡ Some e → (error : CallError) → e.outcome ≡ outcomes.Reply (replies.Refused error) → ¬ (TellsWant error)
