-- What a view shows is what its slots hold, listed or not, and conversely.
pub use Rattle.gix_odb_events.proofs.ShownLemmas.{contains_more, given_by, gives, shown_of_slot}
use Rattle.std.proofs.Common.{Contains, ◌≡◌, ℕ, Bool, true, false, Some, inl, inr, refl, ap, ◌∙◌}
use Rattle.gix_odb_core.specs.Views.{view_of}
use Rattle.gix_odb_events.specs.View.{IsShown}
use Rattle.gix_odb_events.specs.Slots.{slot_at}
use Rattle.gix_odb_events.specs.Shown.{is_listed, shown_slot}
use Rattle.gix_odb_events.proofs.ShownLemmas.{kept_has, kept_only, shown_by_filled, shown_has, shown_only}
use Rattle.gix_odb_core.specs.declared.shape.Shape.{Shape}
use Rattle.gix_odb_events.specs.declared.slot.Filled.{Filled}
use Rattle.gix_odb_events.specs.declared.loaded.SnapshotIndex.{SnapshotIndex}

module _ (shape : Shape) (number : ℕ) where
  -- what is shown is what a filled slot shows
  pub shown_from : (index : SnapshotIndex) → IsShown (view_of shape number) index
      → (place : ℕ) × (filled : Filled) × (slot_at shape.slots place ≡ Some filled) × (shown_slot place (Some filled) ≡ Some index)
  shown_from index shown = by shown
    where
      at : shown_slot index.slot (slot_at shape.slots index.slot) ≡ Some index
          → (place : ℕ) × (filled : Filled) × (slot_at shape.slots place ≡ Some filled) × (shown_slot place (Some filled) ≡ Some index)
      at shows = let filled = shown_by_filled index.slot (slot_at shape.slots index.slot) index shows in (index.slot, filled.0, filled.1, filled.2)

      by : IsShown (view_of shape number) index → (place : ℕ) × (filled : Filled) × (slot_at shape.slots place ≡ Some filled) × (shown_slot place (Some filled) ≡ Some index)
      by (inl listed) = at (shown_only shape.slots shape.list index.slot index listed refl).1
      by (inr kept) = at (kept_only shape.slots shape.list index.slot index kept refl).1

  -- a listed slot is shown among the indices
  pub shown_listed : (place : ℕ) (filled : Filled) (index : SnapshotIndex) → slot_at shape.slots place ≡ Some filled → shown_slot place (Some filled) ≡ Some index → is_listed shape.list place ≡ true
      → Contains (view_of shape number).snapshot.indices index
  shown_listed place filled index is shows listed = shown_has shape.slots shape.list place index listed (ap (shown_slot place) is ∙ shows)

  -- and another one among the kept
  pub shown_unlisted : (place : ℕ) (filled : Filled) (index : SnapshotIndex) → slot_at shape.slots place ≡ Some filled → shown_slot place (Some filled) ≡ Some index
      → is_listed shape.list place ≡ false
      → Contains (view_of shape number).snapshot.kept index
  shown_unlisted place filled index is shows unlisted = kept_has shape.slots shape.list place index unlisted (ap (shown_slot place) is ∙ shows)

  pub shown_by : (place : ℕ) (filled : Filled) (index : SnapshotIndex) → slot_at shape.slots place ≡ Some filled → shown_slot place (Some filled) ≡ Some index → IsShown (view_of shape number) index
  shown_by place filled index is shows = by (is_listed shape.list place) refl
    where
      by : (b : Bool) → is_listed shape.list place ≡ b → IsShown (view_of shape number) index
      by true listed = inl (shown_listed place filled index is shows listed)
      by false unlisted = inr (shown_unlisted place filled index is shows unlisted)
