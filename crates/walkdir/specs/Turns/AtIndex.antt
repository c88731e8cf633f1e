-- One directory of the stack, by its index, the outermost first: what it has, and what is put into it. No public clause
-- cites this module.
use Rattle.std.specs.Prelude.{◌≡◌, ℕ, ◌+◌, true, false, List, [], ◌∷◌, ◌++◌, length, Option, Some, None, slice_index_or}
use Rattle.walkdir.specs.Directory.{AreAt, held, is_skipped, stream_in}
use Rattle.walkdir.specs.declared.directory.DirList.{DirList}
use Rattle.walkdir.specs.declared.directory.Items.{Items}

-- ---- what is put into it

-- the directory at an index has other contents, and all else stays
pub record Puts (old new : List DirList) (index : ℕ) (items : Items) : Type 0 where
  pub outer : List DirList
  pub inner : List DirList
  pub list : DirList
  pub at : length outer ≡ index
  pub was : old ≡ outer ++ list ∷ inner
  pub is : new ≡ outer ++ (record list { items = items }) ∷ inner

-- what is put into the directory at an index was read of it
abbrev pub AreOf : List DirList → ℕ → Items → Type 0
AreOf lists index items = (list : DirList) → list ≡ slice_index_or lists index list → AreAt list.path (index + 1) (held items)

-- ---- a directory that is found

-- the directory at an index has this stream
pub record OwnsAt (lists : List DirList) (index dir : ℕ) : Type 0 where
  pub list : DirList
  pub at : list ≡ slice_index_or lists index list
  pub own : stream_in list.items ≡ Some dir

-- each of these is skipped
abbrev pub AllSkipped : List DirList → Type 0
AllSkipped [] = Unit {0}
AllSkipped (list ∷ lists) = (is_skipped list.items ≡ true) × AllSkipped lists

-- the directory at an index isn't skipped, and all further in are
pub record Unskips (lists : List DirList) (index : ℕ) : Type 0 where
  pub outer : List DirList
  pub list : DirList
  pub inner : List DirList
  pub at : length outer ≡ index
  pub is : lists ≡ outer ++ list ∷ inner
  pub own : is_skipped list.items ≡ false
  pub others : AllSkipped inner

-- the index of the innermost directory that isn't skipped yet, if there is one
abbrev pub IsUnskipped : List DirList → Option ℕ → Type 0
IsUnskipped lists None = AllSkipped lists
IsUnskipped lists (Some index) = Unskips lists index
