-- What an answer leads to, outcome by outcome, in place of the table of all answers: a property of what a write asks for next,
-- and of the data that it has appended by then.
use Rattle.std.specs.Prelude.{◌≡◌, ℕ, ◌+◌, Bool, true, false, nat_lt, nat_le, List, ◌++◌, Ok, Err, if◌then◌else◌, refl}
use Rattle.odb_disk.specs.declared.ask.DiskAnswer.{DiskAnswer}
use Rattle.odb_disk.specs.declared.ask.DiskAnswer.TheVariants as answers
use Rattle.odb_disk.specs.declared.disk_error.DiskError.TheVariants as disk_errors
use Rattle.gix_hash.specs.declared.object_id.ObjectId.{ObjectId}
use Rattle.gix_odb_loose.specs.WriteHistory.{data_after}
use Rattle.gix_odb_loose.specs.WriteOrder.{temp_names, refused_by, made_by, headed_by, filled_by, foldered_by, moved_by, grown}
use Rattle.gix_odb_loose.specs.declared.write.Message.TheVariants as messages
use Rattle.gix_odb_loose.specs.declared.write_order.Refusal.{Refusal}
use Rattle.gix_odb_loose.specs.declared.write_order.Refusal.TheVariants as refusals
use Rattle.gix_odb_loose.specs.declared.write_order.WriteAsk.{WriteAsk}
use Rattle.gix_odb_loose.specs.declared.write_order.WriteAsk.TheVariants as wants
use Rattle.gix_odb_loose.specs.declared.write_order.WriteStage.TheVariants as stages

module _ (P : List ℕ → WriteAsk → Type 0) (appended : List ℕ) (number : ℕ) where
  -- the creation of the temporary file: it is made, or the next name is tried, or the write ends
  module _ (done : P appended (wants.Disk (stages.Heading number))) (next : nat_lt (number + 1) temp_names ≡ true → P appended (wants.Disk (stages.Making (number + 1))))
      (ends : (refusal : Refusal) → P appended (wants.Done (Err refusal))) where
    by_name : (more : Bool) → nat_lt (number + 1) temp_names ≡ more
        → P appended (if more then wants.Disk (stages.Making (number + 1)) else wants.Done (Err (refusals.Io messages.CreateTempFile)))
    by_name true is = next is
    by_name false is = ends (refusals.Io messages.CreateTempFile)

    pub by_made : (answer : DiskAnswer) → P appended (made_by number answer)
    by_made answers.Done = done
    by_made (answers.Meta meta) = ends (refusals.Io messages.CreateTempFile)
    by_made (answers.Dir dir) = ends (refusals.Io messages.CreateTempFile)
    by_made (answers.Entry entry) = ends (refusals.Io messages.CreateTempFile)
    by_made answers.End = ends (refusals.Io messages.CreateTempFile)
    by_made (answers.File bytes time) = ends (refusals.Io messages.CreateTempFile)
    by_made (answers.Refused disk_errors.Exists) = by_name (nat_lt (number + 1) temp_names) refl
    by_made (answers.Refused disk_errors.Absent) = ends (refusals.Io messages.CreateTempFile)
    by_made (answers.Refused disk_errors.WrongKind) = ends (refusals.Io messages.CreateTempFile)
    by_made (answers.Refused disk_errors.LinkLoop) = ends (refusals.Io messages.CreateTempFile)
    by_made (answers.Refused disk_errors.NotEmpty) = ends (refusals.Io messages.CreateTempFile)
    by_made (answers.Refused disk_errors.Failed) = ends (refusals.Io messages.CreateTempFile)
    by_made (answers.Refused disk_errors.NoMemory) = ends refusals.NoMemory

  -- each later ask: it is done, or the temporary file is to be removed
  module _ (removes : (held : List ℕ) (refusal : Refusal) → P held (wants.Disk (stages.Removing number refusal))) where
    pub by_headed : P appended (wants.Data number 0) → (answer : DiskAnswer) → P appended (headed_by number answer)
    by_headed done answers.Done = done
    by_headed done (answers.Meta meta) = removes appended (refusals.Io messages.WriteHeader)
    by_headed done (answers.Dir dir) = removes appended (refusals.Io messages.WriteHeader)
    by_headed done (answers.Entry entry) = removes appended (refusals.Io messages.WriteHeader)
    by_headed done answers.End = removes appended (refusals.Io messages.WriteHeader)
    by_headed done (answers.File bytes time) = removes appended (refusals.Io messages.WriteHeader)
    by_headed done (answers.Refused error) = removes appended (refused_by (refusals.Io messages.WriteHeader) (answers.Refused error))

    module _ (size written len : ℕ) (piece : List ℕ) (done : nat_le (written + len) size ≡ true → P (appended ++ piece) (wants.Data number (written + len))) where
      by_length : (fits : Bool) → nat_le (written + len) size ≡ fits
          → P (appended ++ piece) (if fits then wants.Data number (written + len) else wants.Disk (stages.Removing number (refusals.SizeMismatch (grown written len))))
      by_length true is = done is
      by_length false is = removes (appended ++ piece) (refusals.SizeMismatch (grown written len))

      pub by_filled : (answer : DiskAnswer) → P (data_after (stages.Filling number written) piece answer appended) (filled_by number written size len answer)
      by_filled answers.Done = by_length (nat_le (written + len) size) refl
      by_filled (answers.Meta meta) = removes appended (refusals.Io messages.StreamData)
      by_filled (answers.Dir dir) = removes appended (refusals.Io messages.StreamData)
      by_filled (answers.Entry entry) = removes appended (refusals.Io messages.StreamData)
      by_filled answers.End = removes appended (refusals.Io messages.StreamData)
      by_filled (answers.File bytes time) = removes appended (refusals.Io messages.StreamData)
      by_filled (answers.Refused error) = removes appended (refused_by (refusals.Io messages.StreamData) (answers.Refused error))

    module _ (id : ObjectId) where
      pub by_foldered : P appended (wants.Disk (stages.Moving number id)) → (answer : DiskAnswer) → P appended (foldered_by number id answer)
      by_foldered done answers.Done = done
      by_foldered done (answers.Meta meta) = removes appended refusals.IoRaw
      by_foldered done (answers.Dir dir) = removes appended refusals.IoRaw
      by_foldered done (answers.Entry entry) = removes appended refusals.IoRaw
      by_foldered done answers.End = removes appended refusals.IoRaw
      by_foldered done (answers.File bytes time) = removes appended refusals.IoRaw
      by_foldered done (answers.Refused disk_errors.Exists) = done
      by_foldered done (answers.Refused disk_errors.Absent) = removes appended refusals.IoRaw
      by_foldered done (answers.Refused disk_errors.WrongKind) = removes appended refusals.IoRaw
      by_foldered done (answers.Refused disk_errors.LinkLoop) = removes appended refusals.IoRaw
      by_foldered done (answers.Refused disk_errors.NotEmpty) = removes appended refusals.IoRaw
      by_foldered done (answers.Refused disk_errors.Failed) = removes appended refusals.IoRaw
      by_foldered done (answers.Refused disk_errors.NoMemory) = removes appended refusals.NoMemory

      pub by_moved : P appended (wants.Done (Ok id)) → (answer : DiskAnswer) → P appended (moved_by number id answer)
      by_moved done answers.Done = done
      by_moved done (answers.Meta meta) = removes appended (refusals.Persist id)
      by_moved done (answers.Dir dir) = removes appended (refusals.Persist id)
      by_moved done (answers.Entry entry) = removes appended (refusals.Persist id)
      by_moved done answers.End = removes appended (refusals.Persist id)
      by_moved done (answers.File bytes time) = removes appended (refusals.Persist id)
      by_moved done (answers.Refused error) = removes appended (refused_by (refusals.Persist id) (answers.Refused error))
