use Rattle.std.proofs.Common.{◌≡◌, ◌<◌, ℕ, false, get_or, length, take}
use Rattle.gix_odb_events.specs.Shown.{is_listed}
use Rattle.gix_odb_events.proofs.places.marks_of.Given as goal

abbrev pub invariant-loop-place : goal.invariant-loop-place
invariant-loop-place l = (length l.marks.items ≡ l.count) × ((k : ℕ) → k < l.count → get_or l.marks.items k false ≡ is_listed (take l.place-index l.places) k)
