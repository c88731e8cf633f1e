-- What one directory of a walk still has: its stream, or what was already read of it.
use Rattle.std.specs.Prelude.{◌≡◌, ℕ, ◌+◌, ◌^◌, Bool, true, false, List, [], ◌∷◌, length, map, Option, Some, None, Ok, Err, unwrap_or}
use Rattle.odb_base.specs.Path.{Path}
use Rattle.odb_disk.specs.Streams.{Streams, still_gives, left, with_closed}
use Rattle.odb_disk.specs.declared.entry.Entry.{Entry}
use Rattle.walkdir.specs.Error.{is_stream_refusal}
use Rattle.walkdir.specs.Walk.{Item}
use Rattle.walkdir.specs.Walk.Children.{IsStreamed, child_of}
use Rattle.walkdir.specs.Within.{IsChild}
use Rattle.walkdir.specs.declared.error.ErrorInner.{ErrorInner}
use Rattle.walkdir.specs.declared.error.ErrorInner.TheVariants.{Io, Loop, NoMemory}
use Rattle.walkdir.specs.declared.directory.Items.{Items}
use Rattle.walkdir.specs.declared.directory.Items.TheVariants.{Opened, Closed, Skipped}

-- ---- its stream, and what was read of it

-- its open stream
abbrev pub stream_in : Items → Option ℕ
stream_in (Opened dir) = Some dir
stream_in (Closed items) = None
stream_in Skipped = None

-- what was already read of it
abbrev pub held : Items → List Item
held (Opened dir) = []
held (Closed items) = items.items
held Skipped = []

abbrev pub is_skipped : Items → Bool
is_skipped Skipped = true
is_skipped (Opened dir) = false
is_skipped (Closed items) = false

-- contents without a stream, nothing of which was read
pub record HasNothing (items : Items) : Type 0 where
  pub no_stream : stream_in items ≡ None
  pub nothing : held items ≡ []

-- The first of what was already read is taken. A closed list stays closed, also when it is empty.
abbrev pub TakesHeld : Items → Option Item → Items → Type 0
TakesHeld old None new = (held old ≡ []) × HasNothing new × (is_skipped new ≡ is_skipped old)
TakesHeld old (Some item) new = (held old ≡ item ∷ held new) × (stream_in new ≡ None) × (is_skipped old ≡ false) × (is_skipped new ≡ false)

-- the streams without this one, if there is one
abbrev pub without_stream : Option ℕ → Streams → Streams
without_stream None streams = streams
without_stream (Some dir) streams = with_closed streams dir

-- ---- its children, and its errors

-- An error of a directory at this path, whose entries have this depth: a call on the directory was refused, its stream
-- failed, or memory ran out.
abbrev pub IsOfDirectory : Path → ℕ → ℕ → ErrorInner → Type 0
IsOfDirectory path depth own (Io (Some at) error) = (at ≡ path) × (own + 1 ≡ depth)
IsOfDirectory path depth own (Io None error) = (own ≡ depth) × (is_stream_refusal error ≡ true)
IsOfDirectory path depth own (Loop ancestor child) = ⊥
IsOfDirectory path depth own NoMemory = Unit {0}

-- a child of the directory at this path, whose entries have this depth, or an error of the directory
abbrev pub IsAt : Path → ℕ → Item → Type 0
IsAt path depth (Ok entry) = (entry.depth ≡ depth) × IsChild path entry.path
IsAt path depth (Err error) = IsOfDirectory path depth error.depth error.inner

abbrev pub AreAt : Path → ℕ → List Item → Type 0
AreAt path depth [] = Unit {0}
AreAt path depth (item ∷ items) = IsAt path depth item × AreAt path depth items

-- ---- the children that it still has

-- the children that a directory still has, whose depth this is
abbrev pub HasLeft : Streams → ℕ → Path → Items → List Item → Type 0
HasLeft streams depth path (Opened dir) children =
    (entries : List Entry) × (still_gives streams dir ≡ Some entries) × IsStreamed depth (map (child_of path depth) entries) children
HasLeft streams depth path (Closed items) children = children ≡ items.items
HasLeft streams depth path Skipped children = children ≡ []

-- ---- how much it has

-- no stream gives more: a disk counts the entries of a directory in 64 bits
abbrev pub most_entries : ℕ
most_entries = 2 ^ 64

-- more than any directory has: one more for an error, and one for leaving it
abbrev pub many : ℕ
many = most_entries + 2

-- a stream may fail after its entries
abbrev pub left_in : Streams → Items → ℕ
left_in streams (Opened dir) = unwrap_or (left streams dir) 0 + 1
left_in streams (Closed items) = length items.items
left_in streams Skipped = 0
