-- Laws of listed slots: none is shown twice, to be loaded twice, or counted twice.
use Rattle.std.proofs.Common.{◌≡◌, ℕ, ◌<◌, ◌≤◌, false, nat_eq, Option, Some, None, ◌⊎◌, inl, inr, sym, ap, ◌∙◌, arith}
use Rattle.std.specs.List.{IsDistinct}
use Rattle.std.proofs.lemmas.Bool.{cases_lt, eqb-false}
use Rattle.gix_odb_core.specs.Steps.{IsShape}
use Rattle.gix_odb_core.specs.Views.{view_of}
use Rattle.gix_odb_core.specs.declared.shape.Shape.{Shape}
use Rattle.gix_odb_core.specs.Counts.{listed_in}
use Rattle.gix_odb_events.specs.Slots.{slot_at, Slot, index_path}
use Rattle.gix_odb_events.specs.Shown.{loaded_index, shown_slot, todo_of, unloaded_slot}
use Rattle.gix_odb_events.specs.declared.loaded.LoadedIndex.{LoadedIndex}
use Rattle.gix_odb_events.specs.declared.loaded.SnapshotIndex.{SnapshotIndex}
use Rattle.gix_odb_events.specs.declared.loaded.Todo.{Todo}
use Rattle.gix_odb_events.specs.declared.slot.Filled.{Filled}
use Rattle.gix_odb_core.proofs.ShownLemmas.{shown_of_slot}
use Rattle.gix_odb_core.proofs.ApartLemmas.{apart_at}
use Rattle.gix_odb_core.proofs.FilterMapLemmas.{IsDistinct-filter_map}
use Rattle.gix_odb_core.proofs.SameIndexLemmas.{same_filled, same_filled_flip}

module _ (shape : Shape) (is : IsShape shape) where
  -- the listed slots hold different indices: so no index is counted twice, and none is reported twice
  pub listed_slots_hold_different_indices : IsDistinct same_filled (listed_in shape.slots shape.list)
  listed_slots_hold_different_indices = IsDistinct-filter_map (slot_at shape.slots) nat_eq same_filled apart shape.list is.distinct
    where
      apart : (one other : ℕ) (x y : Filled) → nat_eq one other ≡ false → slot_at shape.slots one ≡ Some x → slot_at shape.slots other ≡ Some y → same_filled x y ≡ false
      apart one other x y differ at its = by (cases_lt one other)
        where
          by : (one < other) ⊎ (other ≤ one) → same_filled x y ≡ false
          by (inl order) = apart_at same_filled shape.slots is.apart one other x y order at its
          by (inr order) =
              let unequal = eqb-false one other differ in
              let below : other < one = omega arith in
              same_filled_flip y x (apart_at same_filled shape.slots is.apart other one y x below its at)

  -- no two shown indices of the listed slots are of one slot
  pub listed_slots_are_shown_once : (number : ℕ) → IsDistinct (λ (one other : SnapshotIndex). nat_eq one.slot other.slot) (view_of shape number).snapshot.indices
  listed_slots_are_shown_once number =
      IsDistinct-filter_map (λ place. shown_slot place (slot_at shape.slots place)) nat_eq (λ (one other : SnapshotIndex). nat_eq one.slot other.slot) apart shape.list is.distinct
    where
      place_of : (place : ℕ) (slot : Slot) (shows : SnapshotIndex) → shown_slot place slot ≡ Some shows → shows.slot ≡ place
      place_of place None shows gives = absurd cc
      place_of place (Some filled) shows gives = (shown_of_slot place filled shows gives).0

      apart : (one other : ℕ) (x y : SnapshotIndex) → nat_eq one other ≡ false → shown_slot one (slot_at shape.slots one) ≡ Some x → shown_slot other (slot_at shape.slots other) ≡ Some y
          → nat_eq x.slot y.slot ≡ false
      apart one other x y differ at its =
          ap (λ k. nat_eq k y.slot) (place_of one (slot_at shape.slots one) x at) ∙ ap (nat_eq one) (place_of other (slot_at shape.slots other) y its) ∙ differ

  -- and no two that are to be loaded
  pub listed_slots_are_to_be_loaded_once : (number : ℕ) → IsDistinct (λ (one other : Todo). nat_eq one.slot other.slot) (view_of shape number).todo
  listed_slots_are_to_be_loaded_once number =
      IsDistinct-filter_map (λ place. unloaded_slot place (slot_at shape.slots place)) nat_eq (λ (one other : Todo). nat_eq one.slot other.slot) apart shape.list is.distinct
    where
      by : (place : ℕ) (filled : Filled) (o : Option LoadedIndex) (todo : Todo) → todo_of place o filled ≡ Some todo → todo.slot ≡ place
      by place filled None todo gives =
          let same : ◌≡◌ {A = Todo} (record { slot = place; path = index_path filled.index }) todo = cc in
          sym (ap (λ (t : Todo). t.slot) same)
      by place filled (Some loaded) todo gives = absurd cc

      place_of : (place : ℕ) (slot : Slot) (todo : Todo) → unloaded_slot place slot ≡ Some todo → todo.slot ≡ place
      place_of place None todo gives = absurd cc
      place_of place (Some filled) todo gives = by place filled (loaded_index filled.index) todo gives

      apart : (one other : ℕ) (x y : Todo) → nat_eq one other ≡ false → unloaded_slot one (slot_at shape.slots one) ≡ Some x → unloaded_slot other (slot_at shape.slots other) ≡ Some y
          → nat_eq x.slot y.slot ≡ false
      apart one other x y differ at its =
          ap (λ k. nat_eq k y.slot) (place_of one (slot_at shape.slots one) x at) ∙ ap (nat_eq one) (place_of other (slot_at shape.slots other) y its) ∙ differ
