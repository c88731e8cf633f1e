-- The rows of a listing in a shape, for laws of listings.
use Rattle.std.specs.Prelude.{◌≡◌, ℕ, ◌<◌, true, List, get_or, length}
use Rattle.gix_odb_events.specs.Slots.{slot_at, holds}
use Rattle.gix_odb_events.specs.declared.listing.ListingRow.{ListingRow}
use Rattle.gix_odb_core.specs.declared.shape.Shape.{Shape}

-- the list has a slot for each row, in the order of the rows, and the slot holds the row
pub record HasRowsInOrder (rows : List ListingRow) (shape : Shape) : Type 0 where
  pub long : length shape.list ≡ length rows
  pub each : (k : ℕ) (d : ListingRow) → k < length rows → holds (get_or rows k d) (slot_at shape.slots (get_or shape.list k 0)) ≡ true
