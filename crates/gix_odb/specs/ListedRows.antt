-- What the rows of a listing say of the disk, while the listing was made, over any family of trees numbered by moments.
use Rattle.std.specs.Prelude.{◌≡◌, ℕ, List, Option, Some, None}
use Rattle.odb_disk.specs.Tree.{Tree}
use Rattle.gix_odb_events.specs.PackPath.{pack_path}
use Rattle.gix_odb_events.specs.declared.listing.ListingRow.{ListingRow}
use Rattle.gix_odb_search.specs.ListOrder.{multi_row}
use Rattle.gix_odb.specs.Contents.{ShowsFile}
use Rattle.gix_odb.specs.Held.{IsItselfFile, WasShownWith}
use Rattle.gix_odb.specs.Moments.{Sometime}

-- the path of a row is itself a file, of the time and the length that the row has
pub record IsFileOf (tree : Tree) (row : ListingRow) : Type 0 where
  pub itself : IsItselfFile tree row.path
  pub time : row.time ≡ itself.meta.time
  pub len : row.len ≡ itself.meta.len

-- an index was itself a file at one moment, and its pack's path showed a file at one
pub record WasIndexListed (trees : ℕ → Tree) (begun now : ℕ) (row : ListingRow) : Type 0 where
  pub index : Sometime begun now (λ moment. IsFileOf (trees moment) row)
  pub pack : Sometime begun now (λ moment. (bytes : List ℕ) × ShowsFile (trees moment) (pack_path row.path) bytes)

-- a multi-pack index was shown at one moment, with the content and the time that the row has
pub record WasMultiListed (trees : ℕ → Tree) (begun now : ℕ) (row : ListingRow) (bytes : List ℕ) : Type 0 where
  pub is : row ≡ multi_row row.path bytes row.time
  pub shown : WasShownWith trees begun now row.path row.time bytes

abbrev pub WasListedAs : (trees : ℕ → Tree) → (begun now : ℕ) → ListingRow → Option (List ℕ) → Type 0
WasListedAs trees begun now row None = WasIndexListed trees begun now row
WasListedAs trees begun now row (Some bytes) = WasMultiListed trees begun now row bytes

-- a row was shown from `begun` to `now`
abbrev pub WasListed : (trees : ℕ → Tree) → (begun now : ℕ) → ListingRow → Type 0
WasListed trees begun now row = WasListedAs trees begun now row row.multi
