-- The rows of a table while it is made and sorted.
use Rattle.std.proofs.Common.{◌≡◌, ℕ, zero, suc, ◌+◌, ◌-◌, ◌<◌, Bool, false, cond, List, [], ◌∷◌, ◌++◌, All, filter, length, get_or, map, replicate, Option, Some, None, is_some, Ordering, refl, sym, ap, subst, ◌∙◌, arith}
use Rattle.std.specs.List.{range_with_len}
use Rattle.std.specs.List.Sorted.{IsPermutation, IsSorted}
use Rattle.std.specs.Ordering.{is_lt, nat_cmp, ordering_then}
use Rattle.std.proofs.lemmas.List.{append-nil, get_or-map, get_or_default, get_or_past, length-map, map_push}
use Rattle.std.proofs.lemmas.List.Elements.{All-get_or, All-push}
use Rattle.std.proofs.lemmas.List.Sorted.{All-permutation, IsPermutation-map, IsPermutation-refl}
use Rattle.odb_base.specs.Path.{Path}
use Rattle.gix_odb_events.specs.Slots.{Slot, index_path}
use Rattle.gix_odb_events.specs.declared.slot.Filled.{Filled}
use Rattle.gix_odb_core.specs.IndexKeys.{index_time, key_cmp}
use Rattle.gix_odb_core.specs.SlotTable.{IsTable, Key, filled_places, key_at, keys_of, place_cmp, slot_key}
use Rattle.gix_odb_core.specs.declared.slot_table.TableRow.{TableRow}
use Rattle.gix_odb_core.proofs.PublishLemmas.{filter-range_more}
use Rattle.gix_odb_core.proofs.SlotTableLemmas.{key_at-slot, option_key_cmp}
use Rattle.gix_odb_core.proofs.SlotsAfterLemmas.{slot_at-get_or}

-- the key of a row
abbrev pub row_key : TableRow → Option Key
row_key row = Some (row.key.path.now, row.key.multi_time)

abbrev pub HasKey : List Slot → TableRow → Type 0
HasKey slots row = key_at (keys_of slots) row.place ≡ row_key row

abbrev pub row_order : TableRow → TableRow → Ordering
row_order one other = ordering_then (key_cmp one.key other.key) (nat_cmp one.place other.place)

-- the key that a row is made with
pub row_key-of : (filled : Filled) (row : TableRow) → row.key.path.now ≡ index_path filled.index → row.key.multi_time ≡ index_time filled.index filled.time → row_key row ≡ slot_key (Some filled)
row_key-of filled row path time = ap (λ (p : Path). Some (p, row.key.multi_time)) path ∙ ap (λ (t : Option ℕ). Some (index_path filled.index, t)) time

-- the rows of the filled ones of the first slots
pub record AreRows (slots : List Slot) (place : ℕ) (rows : List TableRow) : Type 0 where
  pub places : map TableRow.place rows ≡ filter (λ p. is_some (key_at (keys_of slots) p)) (range_with_len 0 place)
  pub keys : All (HasKey slots) rows

pub same_rows : (slots : List Slot) (place : ℕ) (rows same : List TableRow) → same ≡ rows → AreRows slots place rows → AreRows slots place same
same_rows slots place rows same is are = subst (AreRows slots place) (sym is) are

module _ (slots : List Slot) (place : ℕ) (slot : Slot) (within : place < length slots) (is : slot ≡ get_or slots place slot) where
  key_here : key_at (keys_of slots) place ≡ slot_key slot
  key_here = key_at-slot slots place ∙ ap slot_key (slot_at-get_or slots place ∙ get_or_default slots place None slot within ∙ sym is)

  places_more : filter (λ p. is_some (key_at (keys_of slots) p)) (range_with_len 0 (place + 1))
      ≡ filter (λ p. is_some (key_at (keys_of slots) p)) (range_with_len 0 place) ++ cond (is_some (slot_key slot)) (place ∷ []) []
  places_more =
      let next : place + 1 ≡ place + 1 - 0 = omega arith in
      let here : place - 0 ≡ place = omega arith in
      ap (λ (n : ℕ). filter (λ p. is_some (key_at (keys_of slots) p)) (range_with_len 0 n)) next
      ∙ filter-range_more (λ p. is_some (key_at (keys_of slots) p)) 0 place (omega arith)
      ∙ ap (λ (n : ℕ). filter (λ p. is_some (key_at (keys_of slots) p)) (range_with_len 0 n) ++ cond (is_some (key_at (keys_of slots) place)) (place ∷ []) []) here
      ∙ ap (λ (k : Option Key). filter (λ p. is_some (key_at (keys_of slots) p)) (range_with_len 0 place) ++ cond (is_some k) (place ∷ []) []) key_here

  -- an empty slot has none
  pub rows-empty : (rows : List TableRow) → slot ≡ None → AreRows slots place rows → AreRows slots (place + 1) rows
  rows-empty rows empty are = record {
    places = are.places
        ∙ sym (append-nil (filter (λ p. is_some (key_at (keys_of slots) p)) (range_with_len 0 place)))
        ∙ ap (λ (s : Slot). filter (λ p. is_some (key_at (keys_of slots) p)) (range_with_len 0 place) ++ cond (is_some (slot_key s)) (place ∷ []) []) (sym empty)
        ∙ sym places_more;
    keys = are.keys;
  }

  -- a filled one has the row of its key
  pub rows-filled : (filled : Filled) (row : TableRow) (rows more : List TableRow) → slot ≡ Some filled → row.place ≡ place → row_key row ≡ slot_key (Some filled) → more ≡ rows ++ row ∷ []
      → AreRows slots place rows → AreRows slots (place + 1) more
  rows-filled filled row rows more holding at key pushed are = record {
    places = ap (map TableRow.place) pushed
        ∙ map_push TableRow.place rows row
        ∙ ap (λ (l : List ℕ). l ++ row.place ∷ []) are.places
        ∙ ap (λ (p : ℕ). filter (λ p. is_some (key_at (keys_of slots) p)) (range_with_len 0 place) ++ p ∷ []) at
        ∙ ap (λ (s : Slot). filter (λ p. is_some (key_at (keys_of slots) p)) (range_with_len 0 place) ++ cond (is_some (slot_key s)) (place ∷ []) []) (sym holding)
        ∙ sym places_more;
    keys = subst (All (HasKey slots)) (sym pushed)
        (All-push (HasKey slots) rows row are.keys (ap (key_at (keys_of slots)) at ∙ key_here ∙ ap slot_key holding ∙ sym key));
  }

module _ (slots : List Slot) (rows sorted : List TableRow) (places : map TableRow.place rows ≡ filled_places (keys_of slots)) (keys : All (HasKey slots) rows) (moved : IsPermutation rows sorted) where
  keyed : All (HasKey slots) sorted
  keyed = All-permutation (HasKey slots) rows sorted moved keys

  places_moved : IsPermutation (filled_places (keys_of slots)) (map TableRow.place sorted)
  places_moved = subst (λ (l : List ℕ). IsPermutation l (map TableRow.place sorted)) places (IsPermutation-map TableRow.place rows sorted moved)

  -- the places of two rows compare as the rows do
  same_order : (one other : TableRow) → HasKey slots one → HasKey slots other → place_cmp (keys_of slots) one.place other.place ≡ row_order one other
  same_order one other has its =
      ap (λ (k : Option Key). ordering_then (option_key_cmp k (key_at (keys_of slots) other.place)) (nat_cmp one.place other.place)) has
      ∙ ap (λ (k : Option Key). ordering_then (option_key_cmp (row_key one) k) (nat_cmp one.place other.place)) its

  places_rise : IsSorted row_order sorted → IsSorted (place_cmp (keys_of slots)) (map TableRow.place sorted)
  places_rise rises k d from next = by sorted refl (subst (λ (n : ℕ). k + 1 < n) (length-map sorted TableRow.place) next)
    where
      at : (first : TableRow) (i : ℕ) → i < length sorted → get_or (map TableRow.place sorted) i d ≡ (get_or sorted i first).place
      at first i inside = get_or-map TableRow.place sorted i first d inside

      by : (l : List TableRow) → sorted ≡ l → k + 1 < length sorted
          → is_lt (place_cmp (keys_of slots) (get_or (map TableRow.place sorted) (k + 1) d) (get_or (map TableRow.place sorted) k d)) ≡ false
      by [] none inside = let long : length sorted ≡ 0 = ap (length {A = TableRow}) none in absurd (omega (arith, inside, long))
      by (first ∷ l) some inside =
          ap (λ (n : ℕ). is_lt (place_cmp (keys_of slots) n (get_or (map TableRow.place sorted) k d))) (at first (k + 1) inside)
          ∙ ap (λ (n : ℕ). is_lt (place_cmp (keys_of slots) (get_or sorted (k + 1) first).place n)) (at first k (omega (arith, inside)))
          ∙ ap is_lt
          (same_order (get_or sorted (k + 1) first) (get_or sorted k first) (All-get_or (HasKey slots) sorted (k + 1) first inside keyed)
          (All-get_or (HasKey slots) sorted k first (omega (arith, inside)) keyed))
          ∙ rises k first from inside

  -- the places of sorted rows are a table
  pub sorted_rows-table : IsSorted row_order sorted → IsTable (keys_of slots) (map TableRow.place sorted)
  sorted_rows-table rises = record { places = places_moved; rises = places_rise rises }

-- ---- empty slots

empty_slot : (count place : ℕ) → get_or (replicate {A = Slot} count None) place None ≡ None
empty_slot zero place = get_or_past {X = Slot} [] place None (omega arith)
empty_slot (suc count) zero = refl
empty_slot (suc count) (suc place) = empty_slot count place

none_pass : (p : ℕ → Bool) → ((x : ℕ) → p x ≡ false) → (xs : List ℕ) → filter p xs ≡ []
none_pass p fails [] = refl
none_pass p fails (x ∷ xs) = ap (λ (b : Bool). cond b (x ∷ filter p xs) (filter p xs)) (fails x) ∙ none_pass p fails xs

no_key : (count place : ℕ) → is_some (key_at (keys_of (replicate count None)) place) ≡ false
no_key count place =
    ap is_some (key_at-slot (replicate count None) place ∙ ap slot_key (slot_at-get_or (replicate count None) place ∙ empty_slot count place))

-- their table is empty
pub empty_slots-table : (count : ℕ) → IsTable (keys_of (replicate count None)) []
empty_slots-table count =
    let none : filled_places (keys_of (replicate count None)) ≡ [] =
    none_pass (λ p. is_some (key_at (keys_of (replicate count None)) p)) (no_key count) (range_with_len 0 (length (keys_of (replicate count None)))) in
    record { places = subst (λ (l : List ℕ). IsPermutation l []) (sym none) (IsPermutation-refl []); rises = λ k d from next. absurd (omega (arith, next)) }
