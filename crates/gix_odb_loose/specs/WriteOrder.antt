-- The order of work of a write: a temporary file, its header and data, the directory of the object, and its name last.
use Rattle.std.specs.Prelude.{ℕ, ◌+◌, ◌-◌, ◌^◌, ◌==◌, nat_lt, nat_le, min, List, [], ◌∷◌, ◌++◌, take, codes, Option, Some, None, Result, Ok, Err, if◌then◌else◌}
use Rattle.std.specs.Fmt.{decimal}
use Rattle.odb_base.specs.Path.{Name, Path}
use Rattle.odb_disk.specs.declared.ask.DiskAsk.{DiskAsk}
use Rattle.odb_disk.specs.declared.ask.DiskAsk.TheVariants as asks
use Rattle.odb_disk.specs.declared.ask.DiskAnswer.{DiskAnswer}
use Rattle.odb_disk.specs.declared.ask.DiskAnswer.TheVariants as answers
use Rattle.odb_disk.specs.declared.disk_error.DiskError.TheVariants as disk_errors
use Rattle.gix_hash.specs.ObjectId.{hex_of}
use Rattle.gix_hash.specs.declared.object_id.ObjectId.{ObjectId}
use Rattle.gix_object.specs.Loose.{header_of}
use Rattle.gix_odb_loose.specs.LooseFile.{loose_path}
use Rattle.gix_odb_loose.specs.declared.write.Error.{Error}
use Rattle.gix_odb_loose.specs.declared.write.Error.TheVariants as errors
use Rattle.gix_odb_loose.specs.declared.write.Message.{Message}
use Rattle.gix_odb_loose.specs.declared.write.Message.TheVariants as messages
use Rattle.gix_odb_loose.specs.declared.write_order.Refusal.{Refusal}
use Rattle.gix_odb_loose.specs.declared.write_order.Refusal.TheVariants as refusals
use Rattle.gix_odb_loose.specs.declared.write_order.WriteAsk.{WriteAsk}
use Rattle.gix_odb_loose.specs.declared.write_order.WriteAsk.TheVariants as wants
use Rattle.gix_odb_loose.specs.declared.write_order.WriteHead.{WriteHead}
use Rattle.gix_odb_loose.specs.declared.write_order.WriteStage.{WriteStage}
use Rattle.gix_odb_loose.specs.declared.write_order.WriteStage.TheVariants as stages

-- the text of an error's message
abbrev pub message_text : Message → List ℕ
message_text messages.CreateTempFile = codes "create named temp file in"
message_text messages.WriteHeader = codes "write header to tempfile in"
message_text messages.StreamData = codes "stream all data into tempfile in"

-- the directory of an object's file: the first two hex digits of the id
unfoldable pub prefix_path : Path → ObjectId → Path
prefix_path objects id = objects ++ take 2 (hex_of id) ∷ []

-- how many temporary names are tried: enough for concurrent writes, and a write ends soon where all are taken
abbrev pub temp_names : ℕ
temp_names = 16

unfoldable pub temp_name : ℕ → Name
temp_name number = codes "tmp_obj_" ++ decimal number

-- the path of a temporary file, by its number
unfoldable pub temp_path : Path → ℕ → Path
temp_path objects number = objects ++ temp_name number ∷ []

-- The next call of the disk at a stage. `piece` is the next piece of the data.
abbrev pub write_ask : WriteHead → List ℕ → WriteStage → DiskAsk
write_ask head piece (stages.Making number) = asks.NewFile (temp_path head.objects number)
write_ask head piece (stages.Heading number) = asks.Append (temp_path head.objects number) (header_of head.kind head.size)
write_ask head piece (stages.Filling number written) = asks.Append (temp_path head.objects number) piece
write_ask head piece (stages.Foldering number id) = asks.MakeDir (prefix_path head.objects id)
write_ask head piece (stages.Moving number id) = asks.Rename (temp_path head.objects number) (loose_path head.objects id)
write_ask head piece (stages.Removing number refusal) = asks.Remove (temp_path head.objects number)

-- how many bytes of data are in the temporary file, where a piece is to be appended
abbrev pub written_in : WriteStage → Option ℕ
written_in (stages.Filling number written) = Some written
written_in stage = None

-- the number of the temporary file
abbrev pub number_in : WriteStage → ℕ
number_in (stages.Making number) = number
number_in (stages.Heading number) = number
number_in (stages.Filling number written) = number
number_in (stages.Foldering number id) = number
number_in (stages.Moving number id) = number
number_in (stages.Removing number refusal) = number

-- the number of the temporary file, if it was made
abbrev pub number_made : WriteStage → Option ℕ
number_made (stages.Making number) = None
number_made stage = Some (number_in stage)

abbrev pub temporary_of : WriteHead → Option ℕ → Option Path
temporary_of head None = None
temporary_of head (Some number) = Some (temp_path head.objects number)

-- ---- after an answer

-- running out of memory is passed on, and each other refusal is this one
abbrev pub refused_by : Refusal → DiskAnswer → Refusal
refused_by refusal (answers.Refused disk_errors.NoMemory) = refusals.NoMemory
refused_by refusal answer = refusal

-- where the name is taken, the next one is tried, if there is one
abbrev pub made_by : ℕ → DiskAnswer → WriteAsk
made_by number answers.Done = wants.Disk (stages.Heading number)
made_by number (answers.Refused disk_errors.Exists) =
    if nat_lt (number + 1) temp_names then wants.Disk (stages.Making (number + 1)) else wants.Done (Err (refusals.Io messages.CreateTempFile))
made_by number answer = wants.Done (Err (refused_by (refusals.Io messages.CreateTempFile) answer))

abbrev pub headed_by : ℕ → DiskAnswer → WriteAsk
headed_by number answers.Done = wants.Data number 0
headed_by number answer = wants.Disk (stages.Removing number (refused_by (refusals.Io messages.WriteHeader) answer))

-- how many bytes there are after a piece; a count of 64 bits stays at the greatest
abbrev pub grown : ℕ → ℕ → ℕ
grown written piece = min (written + piece) (2 ^ 64 - 1)

-- one byte above the size is too many
abbrev pub filled_by : (number written size piece : ℕ) → DiskAnswer → WriteAsk
filled_by number written size piece answers.Done =
    if nat_le (written + piece) size then wants.Data number (written + piece) else wants.Disk (stages.Removing number (refusals.SizeMismatch (grown written piece)))
filled_by number written size piece answer = wants.Disk (stages.Removing number (refused_by (refusals.Io messages.StreamData) answer))

-- a directory that is there already is fine
abbrev pub foldered_by : ℕ → ObjectId → DiskAnswer → WriteAsk
foldered_by number id answers.Done = wants.Disk (stages.Moving number id)
foldered_by number id (answers.Refused disk_errors.Exists) = wants.Disk (stages.Moving number id)
foldered_by number id answer = wants.Disk (stages.Removing number (refused_by refusals.IoRaw answer))

abbrev pub moved_by : ℕ → ObjectId → DiskAnswer → WriteAsk
moved_by number id answers.Done = wants.Done (Ok id)
moved_by number id answer = wants.Disk (stages.Removing number (refused_by (refusals.Persist id) answer))

-- What follows an answer. Whatever the answer to the removal, the write ends with its refusal.
abbrev pub next_write : (size piece : ℕ) → WriteStage → DiskAnswer → WriteAsk
next_write size piece (stages.Making number) answer = made_by number answer
next_write size piece (stages.Heading number) answer = headed_by number answer
next_write size piece (stages.Filling number written) answer = filled_by number written size piece answer
next_write size piece (stages.Foldering number id) answer = foldered_by number id answer
next_write size piece (stages.Moving number id) answer = moved_by number id answer
next_write size piece (stages.Removing number refusal) answer = wants.Done (Err refusal)

-- the stage after the end of the data, which have this id, where `written` bytes were appended
abbrev pub ended_with : ℕ → ObjectId → (number written : ℕ) → WriteStage
ended_with size id number written = if written == size then stages.Foldering number id else stages.Removing number (refusals.SizeMismatch written)

-- the stage after a source of the data failed
abbrev pub source_failed : ℕ → WriteStage
source_failed number = stages.Removing number (refusals.Io messages.StreamData)

abbrev pub error_from : WriteHead → Refusal → Error
error_from head (refusals.Io message) = errors.Io message head.objects
error_from head refusals.IoRaw = errors.IoRaw
error_from head (refusals.Persist id) = errors.Persist (loose_path head.objects id)
error_from head (refusals.SizeMismatch actual) = errors.SizeMismatch head.size actual
error_from head refusals.NoMemory = errors.NoMemory

abbrev pub wrote_by : WriteHead → Result ObjectId Refusal → Result ObjectId Error
wrote_by head (Ok id) = Ok id
wrote_by head (Err refusal) = Err (error_from head refusal)
