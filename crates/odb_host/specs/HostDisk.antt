-- How a real disk turns the system's answers into its own.
use Rattle.std.specs.Prelude.{◌≡◌, ◌≢◌, ℕ, ◌+◌, ◌-◌, ◌*◌, ◌^◌, ◌==◌, Bool, true, false, not, nat_eq, List, min, ℤ, pos, Option, Some, None, Result, Ok, Err, if◌then◌else◌}
use Rattle.std.specs.List.{list_any}
use Rattle.std.specs.declared.io.ErrorKind.{ErrorKind}
use Rattle.std.specs.declared.io.ErrorKind.TheVariants.{NotFound, NotADirectory, IsADirectory, FilesystemLoop, AlreadyExists, DirectoryNotEmpty}
use Rattle.std.specs.declared.fs.FileType.{FileType}
use Rattle.std.specs.declared.fs.Metadata.{Metadata}
use Rattle.std.specs.declared.fs.OpenOptions.{OpenOptions}
use Rattle.std.specs.Fs.{file_type, metadata_len, new_options, with_append}
use Rattle.odb_base.specs.Path.{Name, is_name}
use Rattle.odb_disk.specs.declared.entry.Entry.{Entry}
use Rattle.odb_disk.specs.declared.meta.Kind.{Kind}
use Rattle.odb_disk.specs.declared.meta.Kind.TheVariants.{File, Dir, Link}
use Rattle.odb_disk.specs.declared.meta.Meta.{Meta}
use Rattle.odb_disk.specs.declared.disk_error.DiskError.{DiskError}
use Rattle.odb_disk.specs.declared.disk_error.DiskError.TheVariants as errors
use Rattle.odb_base.specs.declared.source.ReadError.{ReadError}
use Rattle.odb_base.specs.declared.source.ReadError.TheVariants as read_errors

-- The most bytes that are read of one file, and the most entries of one directory. Both are held in memory whole, so
-- what is larger is a fault: 4 GiB, and 2 ^ 24 names.
abbrev pub longest_file : ℕ
longest_file = 4_294_967_296

abbrev pub most_entries : ℕ
most_entries = 16_777_216

-- the refusal for an error of the system; `Failed` for any other than these
abbrev pub refusal_of : ErrorKind → DiskError
refusal_of NotFound = errors.Absent
refusal_of NotADirectory = errors.WrongKind
refusal_of IsADirectory = errors.WrongKind
refusal_of FilesystemLoop = errors.LinkLoop
refusal_of AlreadyExists = errors.Exists
refusal_of DirectoryNotEmpty = errors.NotEmpty
refusal_of kind = errors.Failed

-- the types of the system's nodes: Linux's `S_IFREG`, `S_IFDIR` and `S_IFLNK`
abbrev pub file_bits : ℕ
file_bits = 0o100000

abbrev pub directory_bits : ℕ
directory_bits = 0o040000

abbrev pub link_bits : ℕ
link_bits = 0o120000

-- the kind of node that a type of the system is, if it is one of the three
abbrev pub kind_of : FileType → Option Kind
kind_of t = if t.bits == file_bits then Some File else (if t.bits == directory_bits then Some Dir else (if t.bits == link_bits then Some Link else None))

-- The answer to a stat of a node of a kind, with these numbers, this length and this time. A directory and a link have
-- length 0 and time 0, and what is no file, directory or link is a fault.
abbrev pub meta_from : Option Kind → (dev ino len time : ℕ) → Result Meta DiskError
meta_from None dev ino len time = Err errors.Failed
meta_from (Some File) dev ino len time = Ok (record { kind = File; dev = dev; ino = ino; len = len; time = time })
meta_from (Some kind) dev ino len time = Ok (record { kind = kind; dev = dev; ino = ino; len = 0; time = 0 })

-- the answer to a stat from the system's: its kind and a file's length are the system's
pub record MetaOf (metadata : Metadata) (told : Result Meta DiskError) : Type 0 where
  pub dev : ℕ
  pub ino : ℕ
  pub time : ℕ
  pub is : told ≡ meta_from (kind_of (file_type metadata)) dev ino (metadata_len metadata) time

-- how a file is opened for appending: each write goes to its end, and nothing is created or truncated
abbrev pub append_options : OpenOptions
append_options = with_append new_options true

-- whether a call that needs a file goes on, by what its path leads to
abbrev pub only_file : Kind → Result (Unit {0}) DiskError
only_file File = Ok tt
only_file Dir = Err errors.WrongKind
only_file Link = Err errors.Failed

-- whether a rename goes on, by what is at its source
abbrev pub no_directory : Kind → Result (Unit {0}) DiskError
no_directory File = Ok tt
no_directory Dir = Err errors.WrongKind
no_directory Link = Ok tt

-- and by a stat of its target, where nothing need be
abbrev pub replaceable : Result Meta DiskError → Result (Unit {0}) DiskError
replaceable (Ok meta) = no_directory meta.kind
replaceable (Err errors.Absent) = Ok tt
replaceable (Err error) = Err error

-- the refusal for a read that didn't reach its end
abbrev pub read_refusal : ReadError → DiskError
read_refusal read_errors.Failed = errors.Failed
read_refusal read_errors.NoMemory = errors.NoMemory

abbrev pub nanoseconds_in_second : ℕ
nanoseconds_in_second = 1_000_000_000

-- the latest time, as one is kept in 64 bits: a day in July 2554
abbrev pub latest_time : ℕ
latest_time = 2 ^ 64 - 1

-- nanoseconds since 1970, from seconds and the nanoseconds of the last one. An earlier time is 0, and one later than the
-- latest is the latest
abbrev pub time_of : ℤ → ℤ → ℕ
time_of (pos seconds) (pos nanoseconds) = min (seconds * nanoseconds_in_second + nanoseconds) latest_time
time_of seconds nanoseconds = 0

-- the entry of a name that was read in a directory, by a stat of it. What is no name has none
abbrev pub found_entry : Name → Result Meta DiskError → Option Entry
found_entry name (Ok meta) = if is_name name then Some (record { name = name; kind = meta.kind; ino = meta.ino }) else None
found_entry name (Err error) = None

-- whether what was read is skipped, so that a call fails for it. A node that is gone by now isn't
abbrev pub is_odd : Name → Result Meta DiskError → Bool
is_odd name (Ok meta) = not (is_name name)
is_odd name (Err errors.Absent) = false
is_odd name (Err errors.WrongKind) = true
is_odd name (Err errors.LinkLoop) = true
is_odd name (Err errors.Exists) = true
is_odd name (Err errors.NotEmpty) = true
is_odd name (Err errors.Failed) = true
is_odd name (Err errors.NoMemory) = true

-- whether a stream is among those that skipped something, until a call failed for it
abbrev pub owes_failure : List ℕ → ℕ → Bool
owes_failure odd dir = list_any (λ number. nat_eq number dir) odd

-- each other stream must fail if it had to before
abbrev pub OthersOwe : ℕ → List ℕ → List ℕ → Type 0
OthersOwe dir old new = (number : ℕ) → number ≢ dir → owes_failure new number ≡ owes_failure old number
