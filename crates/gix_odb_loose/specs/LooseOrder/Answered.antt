-- The results of a test, a find and a header look-up, from the answer to their ask and nothing else.
use Rattle.std.specs.Prelude.{ℕ, ◌==◌, Bool, true, false, not, List, [], ◌∷◌, length, Option, Some, None, Result, Ok, Err, if◌then◌else◌}
use Rattle.odb_base.specs.Path.{Path}
use Rattle.odb_disk.specs.declared.ask.DiskAnswer.{DiskAnswer}
use Rattle.odb_disk.specs.declared.ask.DiskAnswer.TheVariants as answers
use Rattle.odb_disk.specs.declared.disk_error.DiskError.TheVariants as disk_errors
use Rattle.odb_disk.specs.declared.meta.Kind.{Kind as NodeKind}
use Rattle.odb_disk.specs.declared.meta.Kind.TheVariants as nodes
use Rattle.gix_object.specs.Limit.{is_within}
use Rattle.gix_object.specs.Loose.{LooseObject, loose_of}
use Rattle.gix_object.specs.declared.kind.Kind.{Kind}
use Rattle.gix_odb_loose.specs.declared.find.Error.{Error}
use Rattle.gix_odb_loose.specs.declared.find.Error.TheVariants as errors
use Rattle.gix_odb_loose.specs.declared.find.Action.TheVariants.{OpenOrMap}
use Rattle.gix_odb_loose.specs.declared.reply.Flaw.{Flaw}
use Rattle.gix_odb_loose.specs.declared.reply.Flaw.TheVariants as flaws

abbrev pub unreadable : Path → Error
unreadable path = errors.Io OpenOrMap path

abbrev pub is_file : NodeKind → Bool
is_file nodes.File = true
is_file nodes.Dir = false
is_file nodes.Link = false

-- A file is a yes, a failed call is an error, running out of memory is passed on, and all else is a no.
abbrev pub tested_by : Path → DiskAnswer → Result Bool Error
tested_by path (answers.Meta meta) = Ok (is_file meta.kind)
tested_by path (answers.Refused disk_errors.Failed) = Err (unreadable path)
tested_by path (answers.Refused disk_errors.NoMemory) = Err errors.NoMemory
tested_by path answer = Ok false

-- the object that a file spells, or what it lacks: an empty file is distinguished from one without a header
abbrev pub spelled_or : Option LooseObject → Result LooseObject Flaw
spelled_or None = Err flaws.NoHeader
spelled_or (Some object) = Ok object

abbrev pub spelled_in : List ℕ → Result LooseObject Flaw
spelled_in [] = Err flaws.Empty
spelled_in (byte ∷ bytes) = spelled_or (loose_of (byte ∷ bytes))

abbrev pub flaw_error : Path → Flaw → Error
flaw_error path flaws.Empty = unreadable path
flaw_error path flaws.NoHeader = errors.Decode

-- the limit is tested first, and then the length of the data
abbrev pub object_from : Path → Option ℕ → Result LooseObject Flaw → Result (Option (Kind × List ℕ)) Error
object_from path limit (Err flaw) = Err (flaw_error path flaw)
object_from path limit (Ok object) =
    if not (is_within limit object.size) then Err (errors.OutOfMemory object.size)
    else if length object.rest == object.size then Ok (Some (object.kind, object.rest))
    else Err (errors.SizeMismatch (length object.rest) object.size path)

abbrev pub header_from : Path → Result LooseObject Flaw → Result (Option (ℕ × Kind)) Error
header_from path (Err flaw) = Err (flaw_error path flaw)
header_from path (Ok object) = Ok (Some (object.size, object.kind))

-- A read that gave no file: nothing at the path is a not-found, running out of memory is passed on; a failed call, a wrong kind
-- and a link loop are errors.
abbrev pub unread_by : {A : Type 0} → Path → DiskAnswer → Result (Option A) Error
unread_by path (answers.Refused disk_errors.Absent) = Ok None
unread_by path (answers.Refused disk_errors.NoMemory) = Err errors.NoMemory
unread_by path answer = Err (unreadable path)

-- A file is judged by its bytes.
abbrev pub read_by : {A : Type 0} → (List ℕ → Result (Option A) Error) → Path → DiskAnswer → Result (Option A) Error
read_by from path (answers.File bytes time) = from bytes
read_by from path answer = unread_by path answer

abbrev pub object_in : Path → Option ℕ → List ℕ → Result (Option (Kind × List ℕ)) Error
object_in path limit bytes = object_from path limit (spelled_in bytes)

abbrev pub header_in : Path → List ℕ → Result (Option (ℕ × Kind)) Error
header_in path bytes = header_from path (spelled_in bytes)

abbrev pub found_by : Path → Option ℕ → DiskAnswer → Result (Option (Kind × List ℕ)) Error
found_by path limit answer = read_by (object_in path limit) path answer

abbrev pub header_by : Path → DiskAnswer → Result (Option (ℕ × Kind)) Error
header_by path answer = read_by (header_in path) path answer
