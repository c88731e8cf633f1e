-- The rows of a listing that a call passes to the core of its store.
use Rattle.std.specs.Prelude.{◌≡◌, ℕ, ◌≤◌, List, All}
use Rattle.odb_disk.specs.Tree.{Tree}
use Rattle.gix_odb_events.specs.PackFiles.{HasDifferentPaths}
use Rattle.gix_odb_events.specs.declared.listing.ListingRow.{ListingRow}
use Rattle.gix_odb.specs.ListedRows.{WasListed}
use Rattle.gix_odb.specs.LookUpOrder.{Setting}
use Rattle.gix_odb.specs.Shown.{IsIndexRow}

-- The rows of a listing have different paths. Each is that of an index in the pack directory of one of a store's folders, or of the multi-pack index
-- there, which the store can use. The index of a row was itself a file at a moment from `begun` to `now`, and its pack's path showed one at such a
-- moment; the path of a multi-pack index showed the row's content at the row's time at one.
pub record AreRowsShown (setting : Setting) (trees : ℕ → Tree) (begun now : ℕ) (rows : List ListingRow) : Type 0 where
  pub different : HasDifferentPaths rows
  pub at : All (IsIndexRow setting) rows
  pub shown : All (WasListed trees begun now) rows

-- the tree stayed the same from one moment to another
abbrev pub StoodStill : (trees : ℕ → Tree) → (begun now : ℕ) → Type 0
StoodStill trees begun now = (moment : ℕ) → begun ≤ moment → moment ≤ now → trees moment ≡ trees begun
