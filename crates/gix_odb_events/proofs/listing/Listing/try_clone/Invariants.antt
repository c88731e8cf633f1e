use Rattle.std.proofs.Common.{◌≡◌, take}
use Rattle.gix_odb_events.proofs.listing.Listing.try_clone.Given as goal

abbrev pub invariant-loop-row : goal.invariant-loop-row
invariant-loop-row l = l.rows ≡ take l.row-index l.row-items
