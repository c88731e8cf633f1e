-- The asks of a write and their answers, at a stage and at its end.
pub mod WentWell
pub mod Refused
use Rattle.std.specs.Prelude.{◌≡◌, ◌⊎◌, ℕ, ◌<◌, List, [], ◌∷◌, ◌++◌, length, Option, Some, None, Result, Ok, Err}
use Rattle.odb_disk.specs.declared.ask.DiskAsk.{DiskAsk}
use Rattle.odb_disk.specs.declared.ask.DiskAsk.TheVariants as asks
use Rattle.odb_disk.specs.declared.ask.DiskAnswer.{DiskAnswer}
use Rattle.odb_disk.specs.declared.ask.DiskAnswer.TheVariants as answers
use Rattle.odb_disk.specs.declared.disk_error.DiskError.TheVariants as disk_errors
use Rattle.gix_hash.specs.declared.object_id.ObjectId.{ObjectId}
use Rattle.gix_odb_loose.specs.Exchanges.{Exchange, exchanged}
use Rattle.gix_odb_loose.specs.WriteStreams.{CountsOther}
use Rattle.gix_odb_loose.specs.WriteOrder.{temp_names, temp_path, number_made, write_ask}
use Rattle.gix_odb_loose.specs.declared.write.Message.TheVariants as messages
use Rattle.gix_odb_loose.specs.declared.write_order.Refusal.{Refusal}
use Rattle.gix_odb_loose.specs.declared.write_order.Refusal.TheVariants as refusals
use Rattle.gix_odb_loose.specs.declared.write_order.WriteAsk.{WriteAsk}
use Rattle.gix_odb_loose.specs.declared.write_order.WriteAsk.TheVariants as wants
use Rattle.gix_odb_loose.specs.declared.write_order.WriteHead.{WriteHead}
use Rattle.gix_odb_loose.specs.declared.write_order.WriteStage.{WriteStage}
use Rattle.gix_odb_loose.specs.declared.write_order.WriteStage.TheVariants as stages
use Rattle.gix_odb_loose.specs.WriteHistory.WentWell.{tried, made, IsFilled, IsFoldered, IsMoved}
use Rattle.gix_odb_loose.specs.WriteHistory.Refused.{IsRefused}

-- ---- by the stage

-- The exchanges of a write that goes well, and the data that they appended, at a stage.
abbrev pub GoesWell : WriteHead → (Named : ObjectId → Type 0) (appended : List ℕ) → WriteStage → List Exchange → Type 0
GoesWell head Named appended (stages.Making number) past = (number < temp_names) × (appended ≡ []) × (past ≡ tried head number)
GoesWell head Named appended (stages.Heading number) past = (appended ≡ []) × (past ≡ made head number) × (number < temp_names)
GoesWell head Named appended (stages.Filling number written) past = (written ≡ length appended) × IsFilled head number appended past
GoesWell head Named appended (stages.Foldering number id) past = (length appended ≡ head.size) × Named id × IsFilled head number appended past
GoesWell head Named appended (stages.Moving number id) past = (length appended ≡ head.size) × Named id × IsFoldered head number id appended past
GoesWell head Named appended (stages.Removing number refusal) past = ⊥

-- all went well up to a stage, and then the ask of this stage got such an answer
pub record IsAnswered (head : WriteHead) (Named : ObjectId → Type 0) (So : DiskAsk → DiskAnswer → Type 0) (stage : WriteStage) (past : List Exchange) : Type 0 where
  pub appended : List ℕ
  pub before : List Exchange
  pub well : GoesWell head Named appended stage before
  pub piece : List ℕ
  pub answer : DiskAnswer
  pub so : So (write_ask head piece stage) answer
  pub is : past ≡ before ++ exchanged (write_ask head piece stage) answer ∷ []

-- the disk ran out of memory for an ask
abbrev pub Wants : DiskAsk → DiskAnswer → Type 0
Wants ask answer = answer ≡ answers.Refused disk_errors.NoMemory

-- The exchanges of a write that made its temporary file and then was refused, before the file is removed: its last ask was
-- refused, or the source failed, or the data had another length than expected, that of the appended ones. All before went well.
abbrev pub IsStopped : WriteHead → (Named : ObjectId → Type 0) (SourceFailed : Type 0) (Counted : ℕ → Type 0) (number : ℕ) → Refusal → List Exchange → Type 0
IsStopped head Named SourceFailed Counted number (refusals.Io messages.CreateTempFile) past = ⊥
IsStopped head Named SourceFailed Counted number (refusals.Io messages.WriteHeader) past = IsAnswered head Named IsRefused (stages.Heading number) past
IsStopped head Named SourceFailed Counted number (refusals.Io messages.StreamData) past =
    (SourceFailed × ((appended : List ℕ) × IsFilled head number appended past)) ⊎ ((written : ℕ) × IsAnswered head Named IsRefused (stages.Filling number written) past)
IsStopped head Named SourceFailed Counted number refusals.IoRaw past = (id : ObjectId) × IsAnswered head Named IsRefused (stages.Foldering number id) past
IsStopped head Named SourceFailed Counted number (refusals.Persist id) past = IsAnswered head Named IsRefused (stages.Moving number id) past
IsStopped head Named SourceFailed Counted number (refusals.SizeMismatch actual) past =
    Counted actual × ((appended : List ℕ) × IsFilled head number appended past × CountsOther head.size appended actual)
IsStopped head Named SourceFailed Counted number refusals.NoMemory past = (stage : WriteStage) × (number_made stage ≡ Some number) × IsAnswered head Named Wants stage past

-- The exchanges of a write, and the data that they appended, at a stage: all went well, or it was refused.
abbrev pub IsHistory : WriteHead → (Named : ObjectId → Type 0) (SourceFailed : Type 0) (Counted : ℕ → Type 0) (appended : List ℕ) → WriteStage → List Exchange → Type 0
IsHistory head Named SourceFailed Counted appended (stages.Removing number refusal) past = IsStopped head Named SourceFailed Counted number refusal past
IsHistory head Named SourceFailed Counted appended stage past = GoesWell head Named appended stage past

-- ---- by the end

-- The exchanges of a write that made no temporary file: all sixteen names were taken, or the making of one was refused.
abbrev pub IsUnmade : WriteHead → (Named : ObjectId → Type 0) → Refusal → List Exchange → Type 0
IsUnmade head Named (refusals.Io messages.CreateTempFile) past = (past ≡ tried head temp_names) ⊎ ((number : ℕ) × IsAnswered head Named IsRefused (stages.Making number) past)
IsUnmade head Named refusals.NoMemory past = (number : ℕ) × IsAnswered head Named Wants (stages.Making number) past
IsUnmade head Named refusal past = ⊥

-- some exchanges, and then the temporary file was asked to be removed, if one was made
abbrev pub IsRemovedAfter : WriteHead → (made : Option ℕ) → List Exchange → List Exchange → Type 0
IsRemovedAfter head None before past = past ≡ before
IsRemovedAfter head (Some number) before past = (answer : DiskAnswer) × (past ≡ before ++ exchanged (asks.Remove (temp_path head.objects number)) answer ∷ [])

-- The exchanges of a refused write: it made no temporary file, or asked last to remove the one that it made.
abbrev pub IsRefusedRun : WriteHead → (Named : ObjectId → Type 0) (SourceFailed : Type 0) (Counted : ℕ → Type 0) → Refusal → List Exchange → Type 0
IsRefusedRun head Named SourceFailed Counted refusal past =
    IsUnmade head Named refusal past ⊎ ((number : ℕ) × (before : List Exchange) × IsStopped head Named SourceFailed Counted number refusal before × IsRemovedAfter head (Some number) before past)

-- the exchanges of a write that ran out of memory between two asks: the file that it made was asked to be removed last
pub record IsBrokenRun (head : WriteHead) (Named : ObjectId → Type 0) (SourceFailed : Type 0) (Counted : ℕ → Type 0) (past : List Exchange) : Type 0 where
  pub stage : WriteStage
  pub appended : List ℕ
  pub before : List Exchange
  pub history : IsHistory head Named SourceFailed Counted appended stage before
  pub removed : IsRemovedAfter head (number_made stage) before past

-- the exchanges of a write that ends: a rename that was done came last, after header and all data; or it was refused
abbrev pub IsHistoryOfEnd : WriteHead → (Named : ObjectId → Type 0) (SourceFailed : Type 0) (Counted : ℕ → Type 0) (appended : List ℕ) → Result ObjectId Refusal → List Exchange → Type 0
IsHistoryOfEnd head Named SourceFailed Counted appended (Ok id) past = (length appended ≡ head.size) × Named id × ((number : ℕ) × IsMoved head number id appended past)
IsHistoryOfEnd head Named SourceFailed Counted appended (Err refusal) past = IsRefusedRun head Named SourceFailed Counted refusal past

-- the exchanges of a write by what it asks for next
abbrev pub IsHistoryOnward : WriteHead → (Named : ObjectId → Type 0) (SourceFailed : Type 0) (Counted : ℕ → Type 0) (appended : List ℕ) → WriteAsk → List Exchange → Type 0
IsHistoryOnward head Named SourceFailed Counted appended (wants.Disk stage) past = IsHistory head Named SourceFailed Counted appended stage past
IsHistoryOnward head Named SourceFailed Counted appended (wants.Data number written) past = GoesWell head Named appended (stages.Filling number written) past
IsHistoryOnward head Named SourceFailed Counted appended (wants.Done end) past = IsHistoryOfEnd head Named SourceFailed Counted appended end past

-- the data appended after one answer more: a piece that was appended counts
abbrev pub data_after : WriteStage → List ℕ → DiskAnswer → List ℕ → List ℕ
data_after (stages.Filling number written) piece answers.Done appended = appended ++ piece
data_after stage piece answer appended = appended
