-- What holds of the fields of a tree in memory, and how its free inode numbers are kept. No public clause cites this.
use Rattle.std.specs.Prelude.{◌≡◌, ◌⊎◌, ℕ, ◌-◌, ◌^◌, ◌<◌, ◌==◌, ◌||◌, Bool, true, false, not, List, Option, Some, None}
use Rattle.std.specs.Ordering.{eq_by_cmp, nat_cmp}
use Rattle.std.specs.List.{list_any}
use Rattle.odb_disk.specs.Tree.{Tree}
use Rattle.odb_disk.specs.Tree.Change.{is_taken}
use Rattle.odb_disk.specs.declared.node.Node.{Node}

-- whether a number is in a set
abbrev pub is_listed : List ℕ → ℕ → Bool
is_listed numbers n = list_any (eq_by_cmp nat_cmp n) numbers

-- whether a number is that of a node, if there is one
abbrev pub has_number : Option Node → ℕ → Bool
has_number None n = false
has_number (Some node) n = node.ino == n

-- the number of a node, if there is one, is now free too
abbrev pub Frees : Option Node → List ℕ → List ℕ → Type 0
Frees node old new = (n : ℕ) → is_listed new n ≡ (has_number node n || is_listed old n)

-- Each inode number from 1 below `next` is a node's or free, and not both. No other number is either.
pub record AreNumbers (tree : Tree) (next : ℕ) (free : List ℕ) : Type 0 where
  pub split : (n : ℕ) → 0 < n → n < next → is_taken tree n ≡ not (is_listed free n)
  pub above : (n : ℕ) → is_taken tree n ≡ true → (0 < n) × (n < next)
  pub free_above : (n : ℕ) → is_listed free n ≡ true → (0 < n) × (n < next)

-- the greatest inode number, as one is kept in 64 bits. No node has it: `next` is always above each that one has
abbrev pub last_number : ℕ
last_number = 2 ^ 64 - 1

-- the least free number: one that is listed, else the next, which can be counted on
pub record IsLeastFree (free : List ℕ) (next n : ℕ) : Type 0 where
  pub is_free : (is_listed free n ≡ true) ⊎ ((n ≡ next) × (next < last_number))
  pub least : (m : ℕ) → m < n → is_listed free m ≡ false
