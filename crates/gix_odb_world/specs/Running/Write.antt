-- What a write has seen and done since it began. No public clause cites this.
use Rattle.std.specs.Prelude.{◌+◌, ◌<◌, ◌^◌, [], ◌++◌, ◌≡◌, ℕ, ◌≤◌, List, length, take, Contains, Option, Some, None}
use Rattle.std.specs.List.{IsDistinct}
use Rattle.odb_base.specs.Path.{Path}
use Rattle.odb_disk.specs.MemDisk.{Volume}
use Rattle.odb_disk.specs.declared.ask.DiskAnswer.TheVariants as answers
use Rattle.odb_disk.specs.declared.ask.DiskAsk.TheVariants as asks
use Rattle.odb_disk.specs.OwnFile.{HasFile}
use Rattle.gix_object.specs.Loose.{header_of}
use Rattle.gix_odb_loose.specs.Exchanges.{Exchange}
use Rattle.gix_odb_loose.specs.WriteAsks.{IsAlong, write_of}
use Rattle.gix_odb_loose.specs.WriteOrder.{number_made, temp_path}
use Rattle.gix_odb_loose.specs.declared.call.LooseCall.{LooseCall}
use Rattle.gix_odb_loose.specs.declared.call.Stage.TheVariants as loose_stages
use Rattle.gix_odb_loose.specs.declared.write_at_hand.Onward.TheVariants.{Stage}
use Rattle.gix_odb_loose.specs.declared.write_at_hand.WriteJob.{WriteJob}
use Rattle.gix_odb_loose.specs.declared.write_order.WriteStage.{WriteStage}
use Rattle.gix_odb_loose.specs.declared.write_order.WriteStage.TheVariants as write_stages
use Rattle.gix_odb_events.specs.PackFiles.{same_path}
use Rattle.gix_odb.specs.RefreshOrder.{IsReady}
use Rattle.gix_odb.specs.Refreshed.{AreAsked}
use Rattle.gix_odb.specs.declared.refresh.Refresh.{Refresh}
use Rattle.gix_odb.specs.declared.refresh.RefreshStep.TheVariants.{More}
use Rattle.gix_odb.specs.Contents.{folder_list}
use Rattle.gix_odb_history.specs.Event.{Event}
pub use Rattle.gix_odb_world.specs.Machines.Writes.{InFront, Own, Unlisted, WriteState, front_result, own_result, work_of, write_asks, write_fed, writes_by, writing}
use Rattle.gix_odb_world.specs.AtWork.{MakeCall, Running, setting_in}
use Rattle.gix_odb.specs.Laps.{turns_of_lap}
use Rattle.gix_odb_world.specs.Bound.{HasAtMost}
use Rattle.gix_odb_history.specs.Run.{tree_at}
use Rattle.gix_odb_world.specs.Running.Answered.{IsAnsweredWell}
use Rattle.gix_odb_world.specs.Running.Refused.{AreRefused}
use Rattle.gix_odb_world.specs.Told.{refresh_begun, refresh_now, told_since, turns_in_front}
use Rattle.gix_odb_history.specs.Writing.{AskedAt, AskedSince, ChangedNothing, LeftAlone, TurnsMadeOnly, NoTurnRenamed, ToWrite, call_to_write, head_to_write}

-- a write that has asked nothing
abbrev pub job_to_write : ToWrite → WriteJob
job_to_write w = write_of (head_to_write w) (w.hash) w.known w.bytes

-- a write that is at a stage
abbrev pub write_at : ToWrite → WriteStage → LooseCall
write_at w stage = record { stage = loose_stages.Writing (record { head = head_to_write w; stage = stage; bytes = w.bytes; hash = w.hash; known = w.known }) }

-- what the file that a write made holds, where nobody else touched it: nothing, and then the header and the data
abbrev pub content_at : ToWrite → WriteStage → Option (List ℕ)
content_at w (write_stages.Making number) = None
content_at w (write_stages.Heading number) = Some []
content_at w (write_stages.Filling number written) = Some (header_of w.kind w.size ++ take written w.bytes)
content_at w (write_stages.Foldering number id) = Some (header_of w.kind w.size ++ w.bytes)
content_at w (write_stages.Moving number id) = Some (header_of w.kind w.size ++ w.bytes)
content_at w (write_stages.Removing number refusal) = None

-- the file was made at some place, and holds this where nobody else touched it since
pub record HoldsFile (first : Volume) (events : List Event) (handle begun : ℕ) (path : Path) (bytes : List ℕ) : Type 0 where
  pub made : ℕ
  pub later : begun ≤ made
  pub makes : AskedAt first events handle made (asks.NewFile path) answers.Done
  pub holds : LeftAlone first events handle path (made + 1) (length events) → (s : Path) × HasFile (tree_at first events (length events)) path s bytes 0

abbrev pub Holds : Volume → List Event → (handle begun : ℕ) → Path → (number : Option ℕ) → Option (List ℕ) → Type 0
Holds first events handle begun objects (Some number) (Some bytes) = HoldsFile first events handle begun (temp_path objects number) bytes
Holds first events handle begun objects number bytes = Unit {0}

-- until it has made its file, a write has changed nothing
abbrev pub IsUntouched : List Event → (handle begun : ℕ) → (number : Option ℕ) → Type 0
IsUntouched events handle begun None = ChangedNothing events handle begun
IsUntouched events handle begun (Some number) = Unit {0}

-- what a write knows that reached a stage, after so many turns of its own: each asked the disk once
pub record StandsAt (first : Volume) (events : List Event) (handle begun own : ℕ) (w : ToWrite) (stage : WriteStage) : Type 0 where
  pub past : List Exchange
  pub along : IsAlong (job_to_write w) (Stage stage) past
  pub had : own ≡ length past
  pub asked : (x : Exchange) → Contains past x → AskedSince first events handle begun x.ask x.answer
  pub unnamed : NoTurnRenamed events handle begun
  pub made : TurnsMadeOnly events handle begun w.objects (number_made stage)
  pub untouched : IsUntouched events handle begun (number_made stage)
  pub holds : Holds first events handle begun w.objects (number_made stage) (content_at w stage)

-- A running write: what it is to write, and what it knows after so many turns of its own. Other turns, that changed nothing, may have come
-- before.
pub record IsWriting (first : Volume) (events : List Event) (handle : ℕ) (running : Running) (call : LooseCall) : Type 0 where
  pub write : ToWrite
  pub into : write.objects ≡ running.store.parts.objects
  pub hashed : write.hash ≡ running.store.parts.object_hash
  pub fits : write.size < 2 ^ 64
  pub stage : WriteStage
  pub is : call ≡ write_at write stage
  pub own : ℕ
  pub stands : StandsAt first events handle running.begun own write stage

-- the write that the task of its handle sets
pub record IsTask (running : Running) (w : ToWrite) : Type 0 where
  pub into : w.objects ≡ running.store.parts.objects
  pub hashed : w.hash ≡ running.store.parts.object_hash
  pub fits : w.size < 2 ^ 64
  pub task : running.task ≡ MakeCall (call_to_write w)

-- ---- the refresh before a write

-- The refresh before a write is at the step after all answers to its handle since the write began, each of which answered its ask then, and
-- had a turn for each. It has changed nothing.
pub record IsInFront (first : Volume) (events : List Event) (handle : ℕ) (running : Running) (refresh : Refresh) (call : LooseCall) : Type 0 where
  pub write : ToWrite
  pub of : IsTask running write
  pub is : call ≡ write_at write (write_stages.Making 0)
  pub opened : running.store.opened ≤ running.begun
  pub since : running.begun ≤ length events
  pub distinct : IsDistinct same_path (folder_list running.store.parts)
  pub refresh_is : More refresh ≡ refresh_now events handle running.store running.modes running.begun
  pub asked : AreAsked (setting_in running.store) (refresh_begun events handle running.modes running.begun) (told_since events handle running.begun)
  pub turns : running.turns ≡ length (told_since events handle running.begun)
  pub well : IsAnsweredWell first events handle running.store running.begun
  pub refused : AreRefused events handle running.modes.core running.begun
  pub unchanged : ChangedNothing events handle running.begun

-- A write that is the task of its handle: the refresh before it is ready, and took no more turns than a lap; the other turns are its own.
pub record IsAtOwnWrite (first : Volume) (events : List Event) (handle : ℕ) (running : Running) (call : LooseCall) : Type 0 where
  pub writing : IsWriting first events handle running call
  pub task : running.task ≡ MakeCall (call_to_write writing.write)
  pub since : running.begun ≤ length events
  pub ready : IsReady (refresh_now events handle running.store running.modes running.begun)
  pub turns : running.turns ≡ turns_in_front events handle running.store running.modes running.begun + writing.own
  pub short : (entries : ℕ) → HasAtMost (tree_at first events) running.store.parts running.begun (length events) entries
      → turns_in_front events handle running.store running.modes running.begun ≤ turns_of_lap running.modes.slots (length (folder_list running.store.parts)) entries

-- ---- at any of its states

-- what a write knows at any of its states; no write is left in the state that is not to be made
abbrev pub KnowsOfWrite : Volume → List Event → (handle : ℕ) → Running → WriteState → Type 0
KnowsOfWrite first events handle running (InFront refresh call) = IsInFront first events handle running refresh call
KnowsOfWrite first events handle running (Own call) = IsAtOwnWrite first events handle running call
KnowsOfWrite first events handle running (Unlisted error) = ⊥
