-- The streams of a disk: which directories are open, and what each of them still gives.
use Rattle.std.specs.Prelude.{◌≡◌, ℕ, ◌^◌, ◌<◌, Bool, true, false, max, List, [], ◌∷◌, length, Option, Some, None, Result, Ok, Err, IsOk, IfSome, is_some, refl}
use Rattle.std.specs.Option.{option_map}
use Rattle.std.specs.Ordering.{nat_cmp}
use Rattle.std.specs.FinMap as finite
use Rattle.std.specs.Coded.{Coded, code_by, coded×, coded_ℕ, coded_list}
use Rattle.odb_base.specs.Path.{Path, is_name}
use Rattle.odb_disk.specs.Tree.{State, tree_of}
use Rattle.odb_disk.specs.Tree.Follow.{Refusal}
use Rattle.odb_disk.specs.Answers.{Answers}
use Rattle.odb_disk.specs.Entries.{opened, coded_entry}
use Rattle.odb_disk.specs.declared.entry.Entry.{Entry}
use Rattle.odb_disk.specs.declared.disk_error.DiskError.{DiskError}
use Rattle.odb_disk.specs.declared.disk_error.DiskError.TheVariants as errors

-- ---- the streams of a disk

pub record Streams : Type 0 where
  -- the open streams by their numbers, each with the entries that it still gives
  pub open_dirs : finite.FinMap nat_cmp (List Entry)
  -- the most streams that were open at one time so far
  pub peak : ℕ

abbrev pub no_streams : Streams
no_streams = record { open_dirs = finite.empty; peak = 0 }

-- the entries that a stream still gives, if it is open
abbrev pub still_gives : Streams → ℕ → Option (List Entry)
still_gives streams dir = finite.get streams.open_dirs dir

abbrev pub is_open : Streams → ℕ → Bool
is_open streams dir = is_some (still_gives streams dir)

-- for an open stream, how many entries it still gives
abbrev pub left : Streams → ℕ → Option ℕ
left streams dir = option_map length (still_gives streams dir)

-- how many streams are open
abbrev pub open_count : Streams → ℕ
open_count streams = finite.len streams.open_dirs

-- the streams, except that one gives these entries from now on
abbrev pub with_stream : Streams → ℕ → List Entry → Streams
with_stream streams dir entries = record streams { open_dirs = finite.insert streams.open_dirs dir entries }

-- the streams after one more was opened
abbrev pub with_opened : Streams → ℕ → List Entry → Streams
with_opened streams dir entries = record { open_dirs = finite.insert streams.open_dirs dir entries; peak = max streams.peak (open_count (with_stream streams dir entries)) }

-- the streams after one was closed. Nothing changes if it isn't open
abbrev pub with_closed : Streams → ℕ → Streams
with_closed streams dir = record streams { open_dirs = finite.remove streams.open_dirs dir }

-- the least number that no open stream has
pub record IsLeastClosed (open_dirs : finite.FinMap nat_cmp (List Entry)) (dir : ℕ) : Type 0 where
  pub free : finite.contains_key open_dirs dir ≡ false
  pub least : (n : ℕ) → n < dir → finite.contains_key open_dirs n ≡ true

-- streams by their numbers alone, as a map of the code has them
abbrev pub lists_only : List (ℕ × List Entry) → Streams
lists_only lists = record { open_dirs = finite.from_entries lists; peak = 0 }

-- ---- what the calls of a disk do

-- a directory is opened or refused as the tree says, unless the call failed or memory ran out
abbrev pub AnswersOpen : Result ℕ DiskError → Result (List Entry) Refusal → Type 0
AnswersOpen (Ok dir) told = IsOk told
AnswersOpen (Err error) told = Answers {A = List Entry} (Err error) told

-- A new stream, under a number that no open stream has. What it gives is fixed: if the tree is known, the entries of the
-- directory that the path leads to, in the order of the bytes of their names.
pub record Opens (state : Option State) (path : Path) (old new : Streams) (dir : ℕ) : Type 0 where
  pub entries : List Entry
  pub was_free : still_gives old dir ≡ None
  pub few : length entries < 2 ^ 64
  pub streams : new ≡ with_opened old dir entries
  pub fixed : IfSome state (λ s. opened (tree_of s) path ≡ Ok entries)

-- an open stream gives the first of its entries, and has the others left
pub record GivesFirst (old new : Streams) (dir : ℕ) (entry : Entry) : Type 0 where
  pub rest : List Entry
  pub first : still_gives old dir ≡ Some (entry ∷ rest)
  pub left : new ≡ with_stream old dir rest
  pub named : is_name entry.name ≡ true

-- an open stream has nothing left
pub record IsAtEnd (old new : Streams) (dir : ℕ) : Type 0 where
  pub ended : still_gives old dir ≡ Some []
  pub same : new ≡ old

-- a stream that isn't open
pub record IsClosed (old new : Streams) (dir : ℕ) : Type 0 where
  pub closed : still_gives old dir ≡ None
  pub same : new ≡ old

-- what taking the next entry from a stream does
abbrev pub TakesNext : Streams → Streams → ℕ → Option (Option Entry) → Type 0
TakesNext old new dir None = IsClosed old new dir
TakesNext old new dir (Some None) = IsAtEnd old new dir
TakesNext old new dir (Some (Some entry)) = GivesFirst old new dir entry

-- What `next_entry` answers, and the streams after it: the first entry, which is given once; the end; or an error, which
-- takes nothing. A stream is absent if it isn't open.
abbrev pub Gives : Streams → Streams → ℕ → Result (Option Entry) DiskError → Type 0
Gives old new dir (Ok (Some entry)) = GivesFirst old new dir entry
Gives old new dir (Ok None) = IsAtEnd old new dir
Gives old new dir (Err errors.Absent) = IsClosed old new dir
Gives old new dir (Err errors.WrongKind) = ⊥
Gives old new dir (Err errors.LinkLoop) = ⊥
Gives old new dir (Err errors.Exists) = ⊥
Gives old new dir (Err errors.NotEmpty) = ⊥
Gives old new dir (Err errors.Failed) = new ≡ old
Gives old new dir (Err errors.NoMemory) = new ≡ old

-- how streams are distinguished, for models that hold them
abbrev pub coded_streams : Coded Streams
coded_streams =
    code_by (finite.FinMap nat_cmp (List Entry) × ℕ) (coded× (finite.code coded_ℕ (coded_list coded_entry)) coded_ℕ) (λ s. (s.open_dirs, s.peak))
    (λ p. record { open_dirs = p.0; peak = p.1 }) (λ _. refl)
