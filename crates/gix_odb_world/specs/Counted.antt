-- How many slots an open store has: where none were given, what its opening promises of the files that it counted.
use Rattle.std.specs.Prelude.{◌≡◌, ℕ, List, length, All}
use Rattle.odb_disk.specs.Tree.{Tree}
use Rattle.gix_odb_events.specs.PackFiles.{HasDifferentPaths}
use Rattle.gix_odb_events.specs.declared.listing.Listing.{Listing}
use Rattle.gix_odb_events.specs.declared.listing.ListingRow.{ListingRow}
use Rattle.gix_odb_search.specs.LongestFirst.{longest_first}
use Rattle.gix_odb_search.specs.declared.lister.ListStep.TheVariants as listed
use Rattle.gix_odb_calls.specs.declared.init.Slots.{Slots}
use Rattle.gix_odb_calls.specs.declared.init.Slots.TheVariants.{AsNeededByDiskState, Given}
use Rattle.gix_odb.specs.LookExchanges.{Exchange}
use Rattle.gix_odb.specs.LookUpOrder.{Setting}
use Rattle.gix_odb.specs.Shown.{IsIndexRow, folders_of}
use Rattle.gix_odb.specs.ListedFiles.{listed_in}
use Rattle.gix_odb.specs.ListedRows.{WasListed}
use Rattle.gix_odb.specs.Store.{listed_for}
use Rattle.gix_odb.specs.Moments.{Throughout}
use Rattle.gix_odb.specs.OpenExchanges.{HasListed}
use Rattle.gix_odb.specs.OpenOrder.{slots_for}

-- A row was shown from `begun` to `now`: an index in the folder of packs of one of the folders was itself a file at one moment, and its pack's
-- path showed a file at one; or the multi-pack index of one was shown at one, with the content and the time of the row.
abbrev pub WasShownRow : (trees : ℕ → Tree) → Setting → (begun now : ℕ) → ListingRow → Type 0
WasShownRow trees setting begun now row = IsIndexRow setting row × WasListed trees begun now row

-- The files that were counted from `begun` to `now`: their paths are different, each was shown, and where the tree was the same at every moment, they
-- are all of its listed files, in the order in which they are tried.
pub record AreCounted (trees : ℕ → Tree) (setting : Setting) (begun now : ℕ) (rows : List ListingRow) : Type 0 where
  pub different : HasDifferentPaths rows
  pub shown : All (WasShownRow trees setting begun now) rows
  pub of_tree : (tree : Tree) → Throughout begun now (λ moment. trees moment ≡ tree) → rows ≡ longest_first (listed_in tree (listed_for setting.parts).multi (folders_of setting))

-- the number of slots that was given, or the one for as many files as were counted by the answers to the handle of the opening
abbrev pub IsCountedNumber : (ℕ → Tree) → Setting → (told : List Exchange) → (begun now : ℕ) → Slots → ℕ → Type 0
IsCountedNumber trees setting told begun now (Given slots) number = number ≡ slots
IsCountedNumber trees setting told begun now (AsNeededByDiskState percent minimum) number =
    (listing : Listing) × HasListed setting told (listed.Listed listing) × AreCounted trees setting begun now listing.rows
    × (number ≡ slots_for percent minimum (length listing.rows))
