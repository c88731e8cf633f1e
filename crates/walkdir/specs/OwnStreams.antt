-- The streams of a walk next to all others of its disk.
use Rattle.std.specs.Prelude.{◌≡◌, ℕ, ◌+◌, ◌≤◌, ◌&&◌, Bool, true, max, List, [], ◌∷◌, length}
use Rattle.std.specs.Ordering.{nat_cmp}
use Rattle.std.specs.FinMap as finite
use Rattle.odb_disk.specs.Streams.{Streams, open_count}
use Rattle.odb_disk.specs.declared.entry.Entry.{Entry}

-- open streams by their numbers
abbrev pub OpenDirs : Type 0
OpenDirs = finite.FinMap nat_cmp (List Entry)

-- The open streams are these others and a walk's own: each of its own is open, and when they are closed one after the
-- other, the others are left.
unfoldable pub AreBeside : OpenDirs → List ℕ → OpenDirs → Type 0
AreBeside others [] now = now ≡ others
AreBeside others (dir ∷ own) now = (finite.contains_key now dir ≡ true) × AreBeside others own (finite.remove now dir)

-- whether these streams are open, each under a number of its own
unfoldable pub are_apart : List ℕ → OpenDirs → Bool
are_apart [] now = true
are_apart (dir ∷ own) now = finite.contains_key now dir && are_apart own (finite.remove now dir)

-- A walk began on a disk with these streams, and has these of its own: at most `max_open`, and all others are as they
-- were. The most open at one time are at most those open at most before, or open then, and `max_open` more.
pub record Owns (before : Streams) (max_open : ℕ) (own : List ℕ) (now : Streams) : Type 0 where
  pub beside : AreBeside before.open_dirs own now.open_dirs
  pub few : length own ≤ max_open
  pub peak : now.peak ≤ max before.peak (open_count before + max_open)

-- the streams after a walk: as they were before it
pub record AreBack (before : Streams) (max_open : ℕ) (now : Streams) : Type 0 where
  pub same : now.open_dirs ≡ before.open_dirs
  pub peak : now.peak ≤ max before.peak (open_count before + max_open)
