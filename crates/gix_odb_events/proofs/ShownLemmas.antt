-- What is shown of slots and a list: each index under the number of its slot, listed or not.
use Rattle.std.proofs.Common.{Contains, ◌≡◌, ℕ, zero, suc, ◌+◌, ◌==◌, Bool, true, false, cond, nat_eq, List, [], ◌∷◌, Option, Some, None, option_map}
use Rattle.std.proofs.Common.{refl, sym, ap, subst, ◌∙◌, arith, eq-eqb, eqb-true}
use Rattle.std.specs.Cmp.{nat_eq_equiv}
use Rattle.std.specs.List.{cons_option, enumerate_from, filter_map, find}
use Rattle.std.proofs.lemmas.Bool.{false≢true}
use Rattle.std.proofs.lemmas.Map.Views.{Contains-from_any, list_any-from_Contains}
use Rattle.gix_odb_events.specs.Slots.{Slot, index_path, slot_at}
use Rattle.gix_odb_events.specs.Shown.{is_listed, kept_at, loaded_index, shown_indices, shown_kept, shown_slot}
use Rattle.gix_odb_events.specs.declared.slot.Filled.{Filled}
use Rattle.gix_odb_events.specs.declared.loaded.LoadedIndex.{LoadedIndex}
use Rattle.gix_odb_events.specs.declared.loaded.SnapshotIndex.{SnapshotIndex}

-- ---- elements

module _ {Y : Type 0} where
  pub contains_more : (y : Y) (ys : List Y) (x : Y) → Contains ys x → Contains (y ∷ ys) x
  contains_more y ys x (k, within, is) = (suc k, omega arith, is)

module _ {X Y : Type 0} (h : X → Option Y) where
  -- each item was given by an element
  pub given_by : (xs : List X) (y : Y) → Contains (filter_map h xs) y → (x : X) × Contains xs x × (h x ≡ Some y)
  given_by [] y (k, within, is) = let no : ⊥ = omega arith in absurd no
  given_by (x ∷ xs) y has = by (h x) refl has (given_by xs y)
    where
      later : (z : X) × Contains xs z × (h z ≡ Some y) → (z : X) × Contains (x ∷ xs) z × (h z ≡ Some y)
      later (z, (k, within, is), gives) = (z, (suc k, omega arith, is), gives)

      by : (o : Option Y) → h x ≡ o → Contains (cons_option o (filter_map h xs)) y → (Contains (filter_map h xs) y → (z : X) × Contains xs z × (h z ≡ Some y))
          → (z : X) × Contains (x ∷ xs) z × (h z ≡ Some y)
      by None gives has rest = later (rest has)
      by (Some w) gives (zero, within, is) rest = (x, (zero, omega arith, refl), gives ∙ ap Some is)
      by (Some w) gives (suc k, within, is) rest = later (rest (k, omega arith, is))

  -- the item of an element is among them
  pub gives : (xs : List X) (x : X) (y : Y) → Contains xs x → h x ≡ Some y → Contains (filter_map h xs) y
  gives [] x y (k, within, is) to = let no : ⊥ = omega arith in absurd no
  gives (z ∷ xs) x y (zero, within, is) to =
      subst (λ (o : Option Y). Contains (cons_option o (filter_map h xs)) y) (sym (ap h is ∙ to)) (zero, omega arith, refl)
  gives (z ∷ xs) x y (suc k, within, is) to = by (h z) (gives xs x y (k, omega arith, is) to)
    where
      by : (o : Option Y) → Contains (filter_map h xs) y → Contains (cons_option o (filter_map h xs)) y
      by None has = has
      by (Some w) (j, below, at) = (suc j, omega arith, at)

module _ {Y : Type 0} (number : Y → ℕ) where
  -- an element with a number is the first, if all with this number are equal
  find-some : (ys : List Y) (place : ℕ) (y : Y) → Contains ys y → number y ≡ place → ((z : Y) → Contains ys z → number z ≡ place → Some y ≡ Some z)
      → Some y ≡ find (λ z. number z == place) ys
  find-some [] place y (k, within, is) under only = let no : ⊥ = omega arith in absurd no
  find-some (z ∷ ys) place y has under only = by (number z == place) refl has (λ there. find-some ys place y there under (λ w has same. only w (contains_more z ys w has) same))
    where
      here : number z ≡ place → Some y ≡ Some z
      here same = only z (zero, omega arith, refl) same

      by : (b : Bool) → (number z == place) ≡ b → Contains (z ∷ ys) y → (Contains ys y → Some y ≡ find (λ w. number w == place) ys)
          → Some y ≡ cond b (Some z) (find (λ w. number w == place) ys)
      by true same has later = here (eqb-true _ _ same)
      by false differ (zero, within, is) later = absurd (false≢true (sym differ ∙ eq-eqb _ _ (ap number is ∙ under)))
      by false differ (suc k, within, is) later = later (k, omega arith, is)

  -- nothing is found if nothing has the number
  find-none : (ys : List Y) (place : ℕ) → ((z : Y) → Contains ys z → number z ≡ place → ◌≡◌ {A = Option Y} None (Some z)) → None ≡ find (λ z. number z == place) ys
  find-none [] place nothing = refl
  find-none (z ∷ ys) place nothing = by (number z == place) refl (find-none ys place (λ w has same. nothing w (contains_more z ys w has) same))
    where
      by : (b : Bool) → (number z == place) ≡ b → None ≡ find (λ w. number w == place) ys → None ≡ cond b (Some z) (find (λ w. number w == place) ys)
      by true same later = nothing z (zero, omega arith, refl) (eqb-true _ _ same)
      by false differ later = later

  -- if all elements with a number are equal, this is what is found
  pub find-only : (ys : List Y) (place : ℕ) (o : Option Y) → ((z : Y) → Contains ys z → number z ≡ place → o ≡ Some z)
      → ((y : Y) → o ≡ Some y → Contains ys y × (number y ≡ place)) → o ≡ find (λ z. number z == place) ys
  find-only ys place None only has = find-none ys place only
  find-only ys place (Some y) only has = let there = has y refl in find-some ys place y there.0 there.1 only

-- ---- slots with their places

pub placed : (n : ℕ) (slots : List Slot) (at : ℕ × Slot) → Contains (enumerate_from n slots) at → (k : ℕ) × (at.0 ≡ n + k) × (slot_at slots k ≡ at.1)
placed n [] at (k, within, is) = let no : ⊥ = omega arith in absurd no
placed n (slot ∷ slots) at (zero, within, is) = (zero, (let same : n ≡ at.0 = ap (λ p. p.0) is in omega arith), ap (λ p. p.1) is)
placed n (slot ∷ slots) at (suc k, within, is) = later (placed (n + 1) slots at (k, omega arith, is))
  where
    later : (j : ℕ) × (at.0 ≡ n + 1 + j) × (slot_at slots j ≡ at.1) → (j : ℕ) × (at.0 ≡ n + j) × (slot_at (slot ∷ slots) j ≡ at.1)
    later (j, place, holds) = (suc j, omega arith, holds)

pub has_place : (n : ℕ) (slots : List Slot) (k : ℕ) (filled : Filled) → slot_at slots k ≡ Some filled → Contains (enumerate_from n slots) (n + k, Some filled)
has_place n [] k filled is = absurd cc
has_place n (slot ∷ slots) zero filled is = (zero, omega arith, λ i. ((let same : n ≡ n + 0 = omega arith in same) i, is i))
has_place n (slot ∷ slots) (suc k) filled is =
    let same : ◌≡◌ {A = ℕ} (n + 1 + k) (n + suc k) = omega arith in
    contains_more (n, slot) (enumerate_from (n + 1) slots) (n + suc k, Some filled)
    (subst (λ (p : ℕ). Contains (enumerate_from (n + 1) slots) (p, Some filled)) same (has_place (n + 1) slots k filled is))

-- ---- one slot

-- what a slot shows has the number of the slot, and its index was read
pub shown_of_slot : (place : ℕ) (filled : Filled) (shows : SnapshotIndex) → shown_slot place (Some filled) ≡ Some shows → (shows.slot ≡ place) × (loaded_index filled.index ≡ Some shows.index)
shown_of_slot place filled shows is = by (loaded_index filled.index) refl is
  where
    shown_as : LoadedIndex → SnapshotIndex
    shown_as l = record { slot = place; path = index_path filled.index; index = l; packs = filled.packs }

    by : (o : Option LoadedIndex) → loaded_index filled.index ≡ o → option_map shown_as o ≡ Some shows → (shows.slot ≡ place) × (loaded_index filled.index ≡ Some shows.index)
    by None read maps = absurd cc
    by (Some l) read maps = let same : shown_as l ≡ shows = cc in (sym (ap (λ (s : SnapshotIndex). s.slot) same), read ∙ ap (λ (s : SnapshotIndex). Some s.index) same)

-- what is shown was shown by a slot that holds something, and has the slot's number
pub shown_by_filled : (place : ℕ) (slot : Slot) (shows : SnapshotIndex) → shown_slot place slot ≡ Some shows
    → (filled : Filled) × (slot ≡ Some filled) × (shown_slot place (Some filled) ≡ Some shows) × (shows.slot ≡ place)
shown_by_filled place None shows is = absurd cc
shown_by_filled place (Some filled) shows is = (filled, refl, is, (shown_of_slot place filled shows is).0)

-- ---- the lists of a view

module _ (slots : List Slot) (list : List ℕ) where
  -- an index of the first list is what the listed slot of its number shows
  pub shown_only : (place : ℕ) (index : SnapshotIndex) → Contains (shown_indices slots list) index → index.slot ≡ place
      → (is_listed list place ≡ true) × (shown_slot place (slot_at slots place) ≡ Some index)
  shown_only place index has under = by (given_by (λ p. shown_slot p (slot_at slots p)) list index has)
    where
      by : (p : ℕ) × Contains list p × (shown_slot p (slot_at slots p) ≡ Some index) → (is_listed list place ≡ true) × (shown_slot place (slot_at slots place) ≡ Some index)
      by (p, there, shows) =
          let at = shown_by_filled p (slot_at slots p) index shows in
          let same : p ≡ place = sym at.3 ∙ under in
          (list_any-from_Contains nat_eq_equiv place list (subst (Contains list) same there), subst (λ (q : ℕ). shown_slot q (slot_at slots q) ≡ Some index) same shows)

  -- what a listed slot shows is in it
  pub shown_has : (place : ℕ) (index : SnapshotIndex) → is_listed list place ≡ true → shown_slot place (slot_at slots place) ≡ Some index → Contains (shown_indices slots list) index
  shown_has place index listed shows = gives (λ p. shown_slot p (slot_at slots p)) list place index (Contains-from_any {eq = nat_eq} eqb-true place list listed) shows

  -- an index of the second list is what the slot of its number shows, which isn't listed
  pub kept_only : (place : ℕ) (index : SnapshotIndex) → Contains (shown_kept slots list) index → index.slot ≡ place
      → (is_listed list place ≡ false) × (shown_slot place (slot_at slots place) ≡ Some index)
  kept_only place index has under = by (given_by (kept_at list) (enumerate_from 0 slots) index has)
    where
      Shows : ℕ → Slot → Type 0
      Shows p slot = (is_listed list p ≡ false) × (shown_slot p slot ≡ Some index)

      apart : (listed : Bool) (p : ℕ) (slot : Slot) → is_listed list p ≡ listed → cond listed None (shown_slot p slot) ≡ Some index → Shows p slot
      apart true p slot is kept = absurd cc
      apart false p slot is kept = (is, kept)

      at_slot : (p : ℕ) (slot : Slot) (k : ℕ) → p ≡ 0 + k → slot_at slots k ≡ slot → Shows p slot → Shows place (slot_at slots place)
      at_slot p slot k here holds shows =
          let filled = shown_by_filled p slot index shows.1 in
          let same : p ≡ place = sym filled.3 ∙ under in
          let also : k ≡ place = omega arith in
          subst (λ (q : ℕ). Shows q (slot_at slots place)) same (subst (Shows p) (sym holds ∙ ap (slot_at slots) also) shows)

      at : (pair : ℕ × Slot) → (k : ℕ) × (pair.0 ≡ 0 + k) × (slot_at slots k ≡ pair.1) → kept_at list pair ≡ Some index → Shows place (slot_at slots place)
      at pair (k, here, holds) kept = at_slot pair.0 pair.1 k here holds (apart (is_listed list pair.0) pair.0 pair.1 refl kept)

      by : (pair : ℕ × Slot) × Contains (enumerate_from 0 slots) pair × (kept_at list pair ≡ Some index) → Shows place (slot_at slots place)
      by (pair, there, kept) = at pair (placed 0 slots pair there) kept

  -- what a slot that isn't listed shows is in it
  pub kept_has : (place : ℕ) (index : SnapshotIndex) → is_listed list place ≡ false → shown_slot place (slot_at slots place) ≡ Some index → Contains (shown_kept slots list) index
  kept_has place index unlisted shows = by (shown_by_filled place (slot_at slots place) index shows)
    where
      by : (filled : Filled) × (slot_at slots place ≡ Some filled) × (shown_slot place (Some filled) ≡ Some index) × (index.slot ≡ place) → Contains (shown_kept slots list) index
      by (filled, is, shows, under) =
          let here : ◌≡◌ {A = ℕ} (0 + place) place = omega arith in
          gives (kept_at list) (enumerate_from 0 slots) (place, Some filled) index
          (subst (λ (p : ℕ). Contains (enumerate_from 0 slots) (p, Some filled)) here (has_place 0 slots place filled is)) (rw unlisted shows)

  -- ---- the index of a slot

  -- what a listed slot shows is the one of its number
  pub shown_find : (place : ℕ) → is_listed list place ≡ true → shown_slot place (slot_at slots place) ≡ find (λ index. index.slot == place) (shown_indices slots list)
  shown_find place listed =
      find-only (λ (index : SnapshotIndex). index.slot) (shown_indices slots list) place (shown_slot place (slot_at slots place))
      (λ index has under. (shown_only place index has under).1)
      (λ index shows. (shown_has place index listed shows, (shown_by_filled place (slot_at slots place) index shows).3))

  -- and of a slot that isn't listed there is none
  pub shown_find-unlisted : (place : ℕ) → is_listed list place ≡ false → None ≡ find (λ index. index.slot == place) (shown_indices slots list)
  shown_find-unlisted place unlisted =
      find-none (λ (index : SnapshotIndex). index.slot) (shown_indices slots list) place
      (λ index has under. absurd (false≢true (sym unlisted ∙ (shown_only place index has under).0)))

  -- what a slot that isn't listed shows is the one of its number
  pub kept_find : (place : ℕ) → is_listed list place ≡ false → shown_slot place (slot_at slots place) ≡ find (λ index. index.slot == place) (shown_kept slots list)
  kept_find place unlisted =
      find-only (λ (index : SnapshotIndex). index.slot) (shown_kept slots list) place (shown_slot place (slot_at slots place))
      (λ index has under. (kept_only place index has under).1)
      (λ index shows. (kept_has place index unlisted shows, (shown_by_filled place (slot_at slots place) index shows).3))

  -- and of a listed slot there is none
  pub kept_find-listed : (place : ℕ) → is_listed list place ≡ true → None ≡ find (λ index. index.slot == place) (shown_kept slots list)
  kept_find-listed place listed =
      find-none (λ (index : SnapshotIndex). index.slot) (shown_kept slots list) place
      (λ index has under. absurd (false≢true (sym (kept_only place index has under).0 ∙ listed)))
