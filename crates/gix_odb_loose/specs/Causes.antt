-- Why a call was refused: each `find::Error` and each `write::Error`, and what was seen where it is returned.
--
-- `Gave read`: a read of the object's path gave `read` in the call. `Failed`: a call of the disk failed in it. `Wanting`:
-- memory ran out. `Refuses ask`: this call of the disk failed, or found a part of its way absent, of the wrong kind or a link
-- loop. `Exists ask`: something was there already. `Done ask`: it was done. A write removes its file last, so a file that it
-- made and then appends to or renames was not removed by it. A store's call, the machine and a run over a changing tree each
-- have their own.
use Rattle.std.specs.Prelude.{◌≡◌, ◌≢◌, ◌⊎◌, ℕ, ◌<◌, false, List, [], length, All, Option, Ok, Err}
use Rattle.std.specs.List.{concat}
use Rattle.odb_disk.specs.declared.ask.DiskAsk.{DiskAsk}
use Rattle.odb_disk.specs.declared.ask.DiskAsk.TheVariants as asks
use Rattle.gix_hash.specs.declared.object_id.ObjectId.{ObjectId}
use Rattle.gix_object.specs.Loose.{header_of}
use Rattle.gix_odb_loose.specs.LooseFile.{loose_path}
use Rattle.gix_odb_loose.specs.WriteOrder.{temp_names, temp_path, prefix_path}
use Rattle.gix_odb_loose.specs.WriteStreams.{CountsOther}
use Rattle.gix_odb_loose.specs.declared.write_order.WriteHead.{WriteHead}
use Rattle.gix_odb_loose.specs.declared.write.Error.{Error as WriteError}
use Rattle.gix_odb_loose.specs.declared.write.Error.TheVariants as write_errors
use Rattle.gix_odb_loose.specs.declared.write.Message.{Message}
use Rattle.gix_odb_loose.specs.declared.write.Message.TheVariants as messages
use Rattle.odb_base.specs.Path.{Path}
use Rattle.odb_disk.specs.Tree.Follow.{WrongKind, LinkLoop}
use Rattle.gix_object.specs.Limit.{is_within}
use Rattle.gix_object.specs.Loose.{IsLoose}
use Rattle.gix_object.specs.declared.kind.Kind.{Kind}
use Rattle.gix_odb_loose.specs.LooseFile.{Reading, IsWithin}
use Rattle.gix_odb_loose.specs.declared.find.Error.{Error}
use Rattle.gix_odb_loose.specs.declared.find.Error.TheVariants as errors
use Rattle.gix_odb_loose.specs.declared.find.Action.TheVariants.{OpenOrMap}
use Rattle.gix_odb_loose.specs.declared.call.LooseJob.{LooseJob}
use Rattle.gix_odb_loose.specs.declared.call.LooseJob.TheVariants as jobs

-- some read of the object's path gave a reading with property P
abbrev pub Seen : (Reading → Type 0) → (Reading → Type 0) → Type 0
Seen Gave P = (read : Reading) × Gave read × P read

-- a read gave the wrong kind, a link loop, or an empty file
abbrev pub IsUnreadable : Reading → Type 0
IsUnreadable read = (read ≡ Err WrongKind) ⊎ ((read ≡ Err LinkLoop) ⊎ ((time : ℕ) × (read ≡ Ok ([], time))))

-- a read gave a file that isn't empty and begins with no header
pub record HasNoHeader (read : Reading) : Type 0 where
  pub bytes : List ℕ
  pub time : ℕ
  pub given : read ≡ Ok (bytes, time)
  pub some : bytes ≢ []
  pub none : (kind : Kind) (size : ℕ) (rest : List ℕ) → ¬ (IsLoose bytes kind size rest)

-- a read gave a file whose header says a size above the limit
pub record HasLargeSize (limit : Option ℕ) (size : ℕ) (read : Reading) : Type 0 where
  pub bytes : List ℕ
  pub time : ℕ
  pub kind : Kind
  pub rest : List ℕ
  pub given : read ≡ Ok (bytes, time)
  pub header : IsLoose bytes kind size rest
  pub above : is_within limit size ≡ false

-- a read gave a file whose header says a size within the limit, and whose data have another length
pub record HasOtherLength (limit : Option ℕ) (expected actual : ℕ) (read : Reading) : Type 0 where
  pub bytes : List ℕ
  pub time : ℕ
  pub kind : Kind
  pub rest : List ℕ
  pub given : read ≡ Ok (bytes, time)
  pub header : IsLoose bytes kind expected rest
  pub within : IsWithin limit expected
  pub length_is : length rest ≡ actual
  pub differs : actual ≢ expected

-- The cause of each error of a find, where `path` is that of the sought object.
abbrev pub FindCause : (path : Path) (limit : Option ℕ) (Gave : Reading → Type 0) (Failed Wanting : Type 0) → Error → Type 0
FindCause path limit Gave Failed Wanting (errors.SizeMismatch actual expected at) = (at ≡ path) × Seen Gave (HasOtherLength limit expected actual)
FindCause path limit Gave Failed Wanting errors.Decode = Seen Gave HasNoHeader
FindCause path limit Gave Failed Wanting (errors.OutOfMemory size) = Seen Gave (HasLargeSize limit size)
FindCause path limit Gave Failed Wanting (errors.Io action at) = (action ≡ OpenOrMap) × (at ≡ path) × (Failed ⊎ Seen Gave IsUnreadable)
FindCause path limit Gave Failed Wanting errors.NoMemory = Wanting

-- The cause of each error of a header look-up. The size is only returned: it has no limit, and isn't compared.
abbrev pub HeaderCause : (path : Path) (Gave : Reading → Type 0) (Failed Wanting : Type 0) → Error → Type 0
HeaderCause path Gave Failed Wanting (errors.SizeMismatch actual expected at) = ⊥
HeaderCause path Gave Failed Wanting errors.Decode = Seen Gave HasNoHeader
HeaderCause path Gave Failed Wanting (errors.OutOfMemory size) = ⊥
HeaderCause path Gave Failed Wanting (errors.Io action at) = (action ≡ OpenOrMap) × (at ≡ path) × (Failed ⊎ Seen Gave IsUnreadable)
HeaderCause path Gave Failed Wanting errors.NoMemory = Wanting

-- The cause of each error of a test of presence: only a failed call is one.
abbrev pub TestCause : (path : Path) (Failed Wanting : Type 0) → Error → Type 0
TestCause path Failed Wanting (errors.SizeMismatch actual expected at) = ⊥
TestCause path Failed Wanting errors.Decode = ⊥
TestCause path Failed Wanting (errors.OutOfMemory size) = ⊥
TestCause path Failed Wanting (errors.Io action at) = (action ≡ OpenOrMap) × (at ≡ path) × Failed
TestCause path Failed Wanting errors.NoMemory = Wanting

-- The cause of each error of a call that finds. A look-up of a prefix and a write have errors of their own.
abbrev pub Cause : LooseJob → (path : Path) (limit : Option ℕ) (Gave : Reading → Type 0) (Failed Wanting : Type 0) → Error → Type 0
Cause (jobs.Contains id) path limit Gave Failed Wanting error = TestCause path Failed Wanting error
Cause (jobs.Find id) path limit Gave Failed Wanting error = FindCause path limit Gave Failed Wanting error
Cause (jobs.Header id) path limit Gave Failed Wanting error = HeaderCause path Gave Failed Wanting error
Cause (jobs.Prefix prefix gather) path limit Gave Failed Wanting error = ⊥
Cause (jobs.Write kind size bytes id) path limit Gave Failed Wanting error = ⊥

-- ---- a write

-- The cause of each message: a temporary file couldn't be made, or all sixteen names were taken, each when it was tried; the
-- header or a piece of the data couldn't be appended to the file that was made; or the source of the data failed.
abbrev pub IoCause : WriteHead → (Refuses Exists Done : DiskAsk → Type 0) (SourceFailed : Type 0) → Message → Type 0
IoCause head Refuses Exists Done SourceFailed messages.CreateTempFile =
    ((number : ℕ) × (number < temp_names) × Refuses (asks.NewFile (temp_path head.objects number))) ⊎ ((number : ℕ) → number < temp_names → Exists (asks.NewFile (temp_path head.objects number)))
IoCause head Refuses Exists Done SourceFailed messages.WriteHeader =
    (number : ℕ) × Done (asks.NewFile (temp_path head.objects number)) × Refuses (asks.Append (temp_path head.objects number) (header_of head.kind head.size))
IoCause head Refuses Exists Done SourceFailed messages.StreamData =
    SourceFailed ⊎ ((number : ℕ) × (piece : List ℕ) × Done (asks.NewFile (temp_path head.objects number)) × Refuses (asks.Append (temp_path head.objects number) piece))

-- Pieces of data were appended to the file that was made: fewer bytes than the size says, or one more.
pub record AppendsOther (head : WriteHead) (Done : DiskAsk → Type 0) (actual : ℕ) : Type 0 where
  pub number : ℕ
  pub made : Done (asks.NewFile (temp_path head.objects number))
  pub pieces : List (List ℕ)
  pub each : All (λ (piece : List ℕ). Done (asks.Append (temp_path head.objects number) piece)) pieces
  pub counted : CountsOther head.size (concat pieces) actual

-- The cause of each error of a write. `Named id`: the object gets this id. `Counted actual`: there were `actual` bytes of data,
-- which isn't the size, and that many were appended. A file that is renamed was made, and then the directory of the object was
-- made or was there.
abbrev pub WriteCause : WriteHead → (Named : ObjectId → Type 0) (Refuses Exists Done : DiskAsk → Type 0) (SourceFailed Wanting : Type 0) (Counted : ℕ → Type 0) → WriteError → Type 0
WriteCause head Named Refuses Exists Done SourceFailed Wanting Counted (write_errors.Io message at) = (at ≡ head.objects) × IoCause head Refuses Exists Done SourceFailed message
WriteCause head Named Refuses Exists Done SourceFailed Wanting Counted write_errors.IoRaw = (id : ObjectId) × Named id × Refuses (asks.MakeDir (prefix_path head.objects id))
WriteCause head Named Refuses Exists Done SourceFailed Wanting Counted (write_errors.Persist target) =
    (id : ObjectId) × Named id × (target ≡ loose_path head.objects id)
    × ((number : ℕ) × Done (asks.NewFile (temp_path head.objects number))
    × (Done (asks.MakeDir (prefix_path head.objects id)) ⊎ Exists (asks.MakeDir (prefix_path head.objects id))) × Refuses (asks.Rename (temp_path head.objects number) target))
WriteCause head Named Refuses Exists Done SourceFailed Wanting Counted (write_errors.SizeMismatch expected actual) = (expected ≡ head.size) × Counted actual × AppendsOther head Done actual
WriteCause head Named Refuses Exists Done SourceFailed Wanting Counted write_errors.NoMemory = Wanting
