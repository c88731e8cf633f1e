-- Rows of indices of the folders, as they were seen by a listing whose reads were shown, are those that may be passed to the core.
use Rattle.std.proofs.Common.{ℕ, List, [], ◌∷◌, All, Option, Some, None}
use Rattle.std.proofs.lemmas.List.Elements.{All-cons, All-head, All-nil, All-tail}
use Rattle.odb_base.specs.Path.{Path}
use Rattle.gix_hash.specs.declared.kind.Kind.{Kind}
use Rattle.gix_odb_events.specs.declared.listing.ListingRow.{ListingRow}
use Rattle.gix_odb.specs.ListerCalls.{IsRowSeen, IsSeenAs}
use Rattle.gix_odb.specs.Shown.{IsContentShown, IsIndexRow, IsRowHanded}
use Rattle.gix_odb.specs.Store.{Setting}
use Rattle.gix_odb.specs.True.{ShowsRead}

module _ (Shown : Path → ℕ → List ℕ → Type 0) (setting : Setting) (hash : Kind) where
  -- what was seen of a row was shown
  content_shown : (row : ListingRow) (multi : Option (List ℕ)) → IsSeenAs (ShowsRead Shown) row multi → IsContentShown Shown setting hash row multi
  content_shown row None seen = tt
  content_shown row (Some bytes) seen = seen.1

  pub rows_handed : (rows : List ListingRow) → All (IsIndexRow setting) rows → All (IsRowSeen (ShowsRead Shown)) rows
      → All (IsRowHanded Shown setting hash) rows
  rows_handed [] known seen = All-nil (IsRowHanded Shown setting hash)
  rows_handed (row ∷ rows) known seen =
      All-cons (IsRowHanded Shown setting hash) row rows
      (All-head (IsIndexRow setting) row rows known, content_shown row row.multi (All-head (IsRowSeen (ShowsRead Shown)) row rows seen))
      (rows_handed rows (All-tail (IsIndexRow setting) row rows known) (All-tail (IsRowSeen (ShowsRead Shown)) row rows seen))
