-- The errors of a walk, and what their calls return.
use Rattle.std.specs.Prelude.{◌≡◌, ◌⊎◌, ℕ, Bool, true, false, List, ◌++◌, codes, Option, Some, None}
use Rattle.odb_base.specs.Path.{Path, text_of}
use Rattle.odb_disk.specs.declared.disk_error.DiskError.{DiskError}
use Rattle.odb_disk.specs.declared.disk_error.DiskError.TheVariants as refusals
use Rattle.walkdir.specs.declared.error.Error.{Error}
use Rattle.walkdir.specs.declared.error.ErrorInner.{ErrorInner}
use Rattle.walkdir.specs.declared.error.ErrorInner.TheVariants.{Io, Loop, NoMemory}

-- a call on a path was refused
abbrev pub io_error : ℕ → Path → DiskError → Error
io_error depth path error = record { depth = depth; inner = Io (Some path) error }

-- a stream failed in the middle of a directory, whose entries have this depth
abbrev pub stream_error : ℕ → DiskError → Error
stream_error depth error = record { depth = depth; inner = Io None error }

-- a link at a path leads to a directory that the walk is in
abbrev pub loop_error : ℕ → Path → Path → Error
loop_error depth ancestor child = record { depth = depth; inner = Loop ancestor child }

-- out of memory
abbrev pub no_memory : Error
no_memory = record { depth = 0; inner = NoMemory }

abbrev pub is_no_memory_inner : ErrorInner → Bool
is_no_memory_inner NoMemory = true
is_no_memory_inner inner = false

abbrev pub is_no_memory : Error → Bool
is_no_memory error = is_no_memory_inner error.inner

-- ---- what the calls of an error return

abbrev pub path_in : ErrorInner → Option Path
path_in (Io path error) = path
path_in (Loop ancestor child) = Some child
path_in NoMemory = None

abbrev pub path_of : Error → Option Path
path_of error = path_in error.inner

abbrev pub ancestor_in : ErrorInner → Option Path
ancestor_in (Io path error) = None
ancestor_in (Loop ancestor child) = Some ancestor
ancestor_in NoMemory = None

abbrev pub ancestor_of : Error → Option Path
ancestor_of error = ancestor_in error.inner

abbrev pub depth_of : Error → ℕ
depth_of error = error.depth

abbrev pub disk_error_in : ErrorInner → Option DiskError
disk_error_in (Io path error) = Some error
disk_error_in (Loop ancestor child) = None
disk_error_in NoMemory = None

abbrev pub disk_error_of : Error → Option DiskError
disk_error_of error = disk_error_in error.inner

-- whether a stream may be refused so: it failed, or isn't open
abbrev pub is_stream_refusal : DiskError → Bool
is_stream_refusal refusals.Failed = true
is_stream_refusal refusals.Absent = true
is_stream_refusal error = false

abbrev pub is_of_call_in : ErrorInner → Bool
is_of_call_in (Io (Some path) error) = true
is_of_call_in (Io None error) = is_stream_refusal error
is_of_call_in (Loop ancestor child) = false
is_of_call_in NoMemory = true

-- whether an error comes from one call: on a path, or of a stream, or that memory ran out
abbrev pub is_of_call : Error → Bool
is_of_call error = is_of_call_in error.inner

-- a call on this path, at this depth, was refused, or memory ran out
abbrev pub IsOnPathIn : Path → ℕ → ℕ → ErrorInner → Type 0
IsOnPathIn path depth own (Io (Some at) error) = (at ≡ path) × (own ≡ depth)
IsOnPathIn path depth own (Io None error) = ⊥
IsOnPathIn path depth own (Loop ancestor child) = ⊥
IsOnPathIn path depth own NoMemory = Unit {0}

abbrev pub IsOnPath : Path → ℕ → Error → Type 0
IsOnPath path depth error = IsOnPathIn path depth error.depth error.inner

-- a call on an entry's path, at its depth, was refused; the entry is a link that leads to a directory above it; or memory
-- ran out
abbrev pub IsOfEntryIn : Path → ℕ → ℕ → ErrorInner → Type 0
IsOfEntryIn path depth own (Io (Some at) error) = (at ≡ path) × (own ≡ depth)
IsOfEntryIn path depth own (Io None error) = ⊥
IsOfEntryIn path depth own (Loop ancestor child) = (child ≡ path) × (own ≡ depth)
IsOfEntryIn path depth own NoMemory = Unit {0}

abbrev pub IsOfEntry : Path → ℕ → Error → Type 0
IsOfEntry path depth error = IsOfEntryIn path depth error.depth error.inner

-- how many failures of the disk an error is: one, or none
abbrev pub failures_in : ErrorInner → ℕ
failures_in (Io path refusals.Failed) = 1
failures_in inner = 0

abbrev pub failures : Error → ℕ
failures error = failures_in error.inner

-- ---- how the walk makes its errors: the one wanted, unless memory ran out

abbrev pub stream_failed : ℕ → DiskError → Error
stream_failed depth refusals.NoMemory = no_memory
stream_failed depth error = stream_error depth error

abbrev pub IsFromPath : ℕ → Path → DiskError → Error → Type 0
IsFromPath depth path refusals.NoMemory result = result ≡ no_memory
IsFromPath depth path error result = (result ≡ io_error depth path error) ⊎ (result ≡ no_memory)

abbrev pub IsFromLoop : ℕ → Path → Path → Error → Type 0
IsFromLoop depth ancestor child result = (result ≡ loop_error depth ancestor child) ⊎ (result ≡ no_memory)

-- ---- what an error prints

-- the name of a disk's error
abbrev pub refusal_name : DiskError → List ℕ
refusal_name refusals.Absent = codes "Absent"
refusal_name refusals.WrongKind = codes "WrongKind"
refusal_name refusals.LinkLoop = codes "LinkLoop"
refusal_name refusals.Exists = codes "Exists"
refusal_name refusals.NotEmpty = codes "NotEmpty"
refusal_name refusals.Failed = codes "Failed"
refusal_name refusals.NoMemory = codes "NoMemory"

abbrev pub io_text : Option Path → DiskError → List ℕ
io_text None error = refusal_name error
io_text (Some path) error = codes "IO error for operation on " ++ text_of path ++ codes ": " ++ refusal_name error

abbrev pub text_in : ErrorInner → List ℕ
text_in (Io path error) = io_text path error
text_in (Loop ancestor child) =
    codes "File system loop found: " ++ (text_of child ++ (codes " points to an ancestor " ++ text_of ancestor))
text_in NoMemory = codes "NoMemory"

unfoldable pub text_of_error : Error → List ℕ
text_of_error error = text_in error.inner
