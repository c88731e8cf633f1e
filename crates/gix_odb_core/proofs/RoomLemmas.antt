-- A listing that there is room for, and the counters that rise with it.
use Rattle.std.proofs.Common.{◌≡◌, ◌≢◌, ℕ, ◌+◌, ◌-◌, ◌<◌, ◌≤◌, ◌^◌, Bool, true, false, cond, not, ◌==◌, ◌||◌, ◌&&◌, nat_lt}
use Rattle.std.proofs.Common.{List, [], ◌∷◌, length, map, take, refl, sym, ap, ◌∙◌, is_some, arith, eq-eqb}
use Rattle.std.specs.List.{list_any, zip}
use Rattle.std.proofs.lemmas.Bool.{and_parts, eqb-true, le-ltb}
use Rattle.gix_odb_core.proofs.SlotsAfterLemmas.{length-slots_after}
use Rattle.gix_odb_core.proofs.StandsLemmas.{slots_after-changes, slots_after-same, taken-none}
use Rattle.gix_odb_core.specs.Handles.{is_any_stable}
use Rattle.gix_odb_core.specs.Publish.{free_places, is_unsettled, list_after, new_rows, settled, slots_after, taken, with_taken}
use Rattle.gix_odb_events.specs.Slots.{slot_at, Slot}
use Rattle.gix_odb_core.specs.Shelf.{shelf_of}
use Rattle.gix_odb_core.specs.Steps.{Outdated, Overflows, Published, TooFew, Unchanged, is_confirmed}
use Rattle.gix_odb_core.specs.Steps.{publishing, settled_as, takes_over, with_list, with_room, would_overflow}
use Rattle.gix_odb_events.specs.View.{last_generation, last_state}
use Rattle.gix_odb_events.specs.declared.listing.Listing.{Listing}
use Rattle.gix_odb_events.specs.declared.listing.ListingRow.{ListingRow}
use Rattle.gix_odb_core.specs.Turn.{changes_to, publish_turn, quiet, stands}
use Rattle.gix_odb_core.specs.declared.shape.Shape.{Shape}
use Rattle.gix_odb_core.specs.declared.turn.Told.TheVariants as told

-- ---- counters that can rise

neither : (a b : Bool) → (a || b) ≡ false → (a ≡ false) × (b ≡ false)
neither true b h = absurd cc
neither false b h = (refl, h)

apart : (n m : ℕ) → (n == m) ≡ false → n ≢ m
apart n m differ same = let yes : (n == m) ≡ true = eq-eqb n m same in absurd cc

module _ (shape : Shape) (renewed : Bool) (rises : would_overflow shape false renewed ≡ false) where
  pub state_rises : shape.state_id ≢ 18446744073709551615
  state_rises = apart shape.state_id last_state (neither (shape.state_id == last_state) (renewed && shape.generation == last_generation) rises).0

  pub generation_rises : shape.generation < 2 ^ 32 → shape.generation + cond renewed 1 0 < 2 ^ 32
  generation_rises small = by renewed (neither (shape.state_id == last_state) (renewed && shape.generation == last_generation) rises).1
    where
      by : (b : Bool) → (b && shape.generation == last_generation) ≡ false → shape.generation + cond b 1 0 < 2 ^ 32
      by true h = let other : shape.generation ≢ 4294967295 = apart shape.generation last_generation h in omega arith
      by false h = omega arith

-- ---- which slots are taken over

any-zip : {B : Type 0} (p : ℕ → Bool) (xs : List ℕ) (ys : List B) → list_any (λ (pair : ℕ × B). p pair.0) (zip xs ys) ≡ list_any p (take (length ys) xs)
any-zip p [] [] = refl
any-zip p [] (y ∷ ys) = refl
any-zip p (x ∷ xs) [] = refl
any-zip p (x ∷ xs) (y ∷ ys) = ap (λ (b : Bool). p x || b) (any-zip p xs ys)

module _ (shape : Shape) (rows : List ListingRow) (stable : Bool) (free : List ℕ) (after : List Slot)
    (stable_is : stable ≡ is_any_stable shape.handles) (free_is : free ≡ free_places stable rows shape.slots shape.list)
    (after_is : after ≡ with_taken (zip free (new_rows shape.slots rows)) (map (settled stable rows) shape.slots))
  where
    slots_are : after ≡ slots_after (is_any_stable shape.handles) rows shape.slots shape.list
    slots_are =
        after_is
        ∙ ap (λ (places : List ℕ). with_taken (zip places (new_rows shape.slots rows)) (map (settled stable rows) shape.slots)) free_is
        ∙ ap (λ (s : Bool). slots_after s rows shape.slots shape.list) stable_is

    pub length-after : length after ≡ length shape.slots
    length-after = ap (length {A = Slot}) slots_are ∙ length-slots_after (is_any_stable shape.handles) rows shape.slots shape.list

    pub with_room-from : (news : ℕ) (list : List ℕ) (renewed : Bool) → length (new_rows shape.slots rows) ≡ news
        → renewed ≡ list_any (λ place. is_some (slot_at shape.slots place)) (take news free) → list ≡ list_after rows after
        → settled_as shape rows after list renewed ≡ with_room shape rows
    with_room-from news list renewed new over places =
        let seats = free_places (is_any_stable shape.handles) rows shape.slots shape.list in
        let free_are : free ≡ seats = free_is ∙ ap (λ (s : Bool). free_places s rows shape.slots shape.list) stable_is in
        let renews : renewed ≡ takes_over shape.slots (zip seats (new_rows shape.slots rows)) =
        over
        ∙ ap (λ (n : ℕ). list_any (λ place. is_some (slot_at shape.slots place)) (take n free)) (sym new)
        ∙ sym (any-zip (λ place. is_some (slot_at shape.slots place)) free (new_rows shape.slots rows))
        ∙ ap (λ (l : List ℕ). takes_over shape.slots (zip l (new_rows shape.slots rows))) free_are in
        ap (λ (l : List ℕ). settled_as shape rows after l renewed) places
        ∙ ap (λ (s : List Slot). settled_as shape rows s (list_after rows s) renewed) slots_are
        ∙ ap (λ (b : Bool). settled_as shape rows (slots_after (is_any_stable shape.handles) rows shape.slots shape.list)
        (list_after rows (slots_after (is_any_stable shape.handles) rows shape.slots shape.list)) b) renews

-- ---- a listing that there is room for is published in this way

pub publishing-roomy : (shape : Shape) (listing : Listing) → listing.base ≡ shape.list_no
    → length (new_rows shape.slots listing.rows) ≤ length (free_places (is_any_stable shape.handles) listing.rows shape.slots shape.list)
    → with_room shape listing.rows ≡ publishing shape listing
publishing-roomy shape listing base room =
    let free = length (free_places (is_any_stable shape.handles) listing.rows shape.slots shape.list) in
    let news = length (new_rows shape.slots listing.rows) in
    ap (λ (b : Bool). cond b (TooFew (news - free)) (with_room shape listing.rows)) (sym (le-ltb free news room))
    ∙ ap (λ (b : Bool). cond (not b) Outdated (cond (nat_lt free news) (TooFew (news - free)) (with_room shape listing.rows))) (sym (eq-eqb listing.base shape.list_no base))

-- ---- a listing that leaves the slots and the list unchanged

first : (a b : Bool) → (not a && b) ≡ true → (a ≡ false) × (b ≡ true)
first true b h = absurd cc
first false b h = (refl, h)

module _ (shape : Shape) (rows : List ListingRow) where
  none_new-if : (list : List ℕ) → is_confirmed shape rows list ≡ true → length (new_rows shape.slots rows) ≡ 0
  none_new-if list confirmed = eqb-true (length (new_rows shape.slots rows)) 0 (and_parts _ _ confirmed).1

  module _ (stays : stands shape rows ≡ true) where
    settled_is : list_any (is_unsettled (is_any_stable shape.handles) rows) shape.slots ≡ false
    settled_is = (first (list_any (is_unsettled (is_any_stable shape.handles) rows) shape.slots) (is_confirmed shape rows (list_after rows shape.slots)) stays).0

    confirmed_is : is_confirmed shape rows (list_after rows shape.slots) ≡ true
    confirmed_is = (first (list_any (is_unsettled (is_any_stable shape.handles) rows) shape.slots) (is_confirmed shape rows (list_after rows shape.slots)) stays).1

    none_new : length (new_rows shape.slots rows) ≡ 0
    none_new = none_new-if (list_after rows shape.slots) confirmed_is

    -- the slots are the same
    pub slots-stand : slots_after (is_any_stable shape.handles) rows shape.slots shape.list ≡ shape.slots
    slots-stand = slots_after-same (is_any_stable shape.handles) rows shape.slots shape.list none_new settled_is

    -- so the listing is confirmed, and nothing changes
    pub turn-stands : publish_turn shape rows (with_room shape rows) ≡ quiet told.Unchanged
    turn-stands =
        ap (λ (slots : List Slot). publish_turn shape rows (settled_as shape rows slots (list_after rows slots)
        (takes_over shape.slots (taken (is_any_stable shape.handles) rows shape.slots shape.list)))) slots-stand
        ∙ ap (λ (pairs : List (ℕ × ListingRow)). publish_turn shape rows (settled_as shape rows shape.slots (list_after rows shape.slots) (takes_over shape.slots pairs)))
        (taken-none (is_any_stable shape.handles) rows shape.slots shape.list none_new)
        ∙ ap (λ (b : Bool). publish_turn shape rows (cond (would_overflow shape b false) Overflows (cond b (Unchanged (record shape { slots = shape.slots }))
        (Published (with_list shape shape.slots (list_after rows shape.slots) false))))) confirmed_is
        ∙ ap (λ (b : Bool). cond b (quiet told.Unchanged) (changes_to (shelf_of shape) told.Unchanged)) stays

  -- and a listing that confirms the list in another way leaves other slots
  pub slots-move : stands shape rows ≡ false
      → let after = slots_after (is_any_stable shape.handles) rows shape.slots shape.list in is_confirmed shape rows (list_after rows after) ≡ true → after ≢ shape.slots
  slots-move changes confirmed same =
      by (list_any (is_unsettled (is_any_stable shape.handles) rows) shape.slots) refl
    where
      after : List Slot
      after = slots_after (is_any_stable shape.handles) rows shape.slots shape.list

      still : is_confirmed shape rows (list_after rows shape.slots) ≡ true
      still = ap (λ (slots : List Slot). is_confirmed shape rows (list_after rows slots)) (sym same) ∙ confirmed

      by : (b : Bool) → list_any (is_unsettled (is_any_stable shape.handles) rows) shape.slots ≡ b → ⊥
      by true moves = slots_after-changes (is_any_stable shape.handles) rows shape.slots shape.list (none_new-if (list_after rows after) confirmed) moves same
      by false stay =
          let stood : stands shape rows ≡ true = ap (λ (b : Bool). not b && is_confirmed shape rows (list_after rows shape.slots)) stay ∙ still in
          let no : false ≡ true = sym changes ∙ stood in
          absurd cc
