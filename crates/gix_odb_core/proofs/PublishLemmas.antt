-- The loops over rows and slots, a step at a time.
use Rattle.std.proofs.Common.{◌≡◌, ℕ, zero, suc, ◌+◌, ◌-◌, ◌<◌, ◌≤◌, Bool, true, false, cond, List, [], ◌∷◌, ◌++◌, length, get_or}
use Rattle.std.proofs.Common.{take, drop, set, Some, None, Option, All, refl, sym, ap, subst, ◌∙◌, append_assoc, arith}
use Rattle.std.specs.List.{cons_option, filter, filter_map, range_with_len, zip}
use Rattle.std.specs.Option.{option_to_list}
use Rattle.std.proofs.lemmas.List.{drop_all, drop_more, take_more}
use Rattle.std.proofs.lemmas.List.Elements.{All-append, All-cons, All-drop, All-nil, filter-append, filter_map-append}
use Rattle.gix_odb_core.specs.Publish.{is_free, is_new, new_rows, with_taken}
use Rattle.gix_odb_events.specs.Slots.{slot_at, Slot, new_filled}
use Rattle.gix_odb_events.specs.declared.listing.ListingRow.{ListingRow}
use Rattle.gix_odb_events.specs.declared.slot.Filled.{Filled}

-- one number more
pub range_with_len-more : (a n : ℕ) → range_with_len a (n + 1) ≡ range_with_len a n ++ (a + n) ∷ []
range_with_len-more a zero = grind arith
range_with_len-more a (suc n) =
    let e : a + 1 + n ≡ a + suc n = omega arith in
    let s : suc n + 1 ≡ suc (n + 1) = omega arith in
    rw s (ap (λ l. a ∷ l) (range_with_len-more (a + 1) n ∙ ap (λ k. range_with_len (a + 1) n ++ k ∷ []) e))

-- one more number that a test takes or leaves
pub filter-range_more : (p : ℕ → Bool) (from place : ℕ) → from ≤ place
    → filter p (range_with_len from (place + 1 - from)) ≡ filter p (range_with_len from (place - from)) ++ (cond (p place) (place ∷ []) [])
filter-range_more p from place h =
    let n : place + 1 - from ≡ (place - from) + 1 = omega arith in
    let at : from + (place - from) ≡ place = omega arith in
    ap (λ k. filter p (range_with_len from k)) n ∙ ap (filter p) (range_with_len-more from (place - from)) ∙ filter-append p _ _
    ∙ ap (λ k. filter p (range_with_len from (place - from)) ++ cond (p k) (k ∷ []) []) at

-- one more item, for which a function gives something or nothing
pub filter_map-take_more : {X Y : Type 0} (h : X → Option Y) (xs : List X) (i : ℕ) (d : X) → i < length xs
    → filter_map h (take (i + 1) xs) ≡ filter_map h (take i xs) ++ option_to_list (h (get_or xs i d))
filter_map-take_more {Y = Y} h xs i d within =
    ap (filter_map h) (take_more xs i d within) ∙ filter_map-append h (take i xs) _ ∙ ap (λ l. filter_map h (take i xs) ++ l) (only (h (get_or xs i d)))
  where
    only : (o : Option Y) → cons_option o [] ≡ option_to_list o
    only None = refl
    only (Some y) = refl

-- nothing is paired with no rows
pub nothing : (places : List ℕ) → ◌≡◌ {A = List (ℕ × ListingRow)} (zip places []) []
nothing [] = refl
nothing (place ∷ places) = refl

-- one more place, free or not
pub free_places-step : (stable : Bool) (rows : List ListingRow) (slots : List Slot) (from place : ℕ) (begun old new : List ℕ) (free : Bool)
    → from ≤ place → free ≡ is_free stable rows (slot_at slots place)
    → old ≡ begun ++ filter (λ k. is_free stable rows (slot_at slots k)) (range_with_len from (place - from))
    → new ≡ old ++ cond free (place ∷ []) []
    → new ≡ begun ++ filter (λ k. is_free stable rows (slot_at slots k)) (range_with_len from (place + 1 - from))
free_places-step stable rows slots from place begun old new free order test so_far put =
    put
    ∙ ap (λ (l : List ℕ). l ++ cond free (place ∷ []) []) so_far
    ∙ append_assoc begun (filter (λ k. is_free stable rows (slot_at slots k)) (range_with_len from (place - from))) (cond free (place ∷ []) [])
    ∙ ap (λ (b : Bool). begun ++ (filter (λ k. is_free stable rows (slot_at slots k)) (range_with_len from (place - from)) ++ cond b (place ∷ []) [])) test
    ∙ ap (λ (l : List ℕ). begun ++ l) (sym (filter-range_more (λ k. is_free stable rows (slot_at slots k)) from place order))

pub within-step : (n place : ℕ) (old new : List ℕ) (free : Bool) → place < n → All (λ k. k < n) old → new ≡ old ++ cond free (place ∷ []) [] → All (λ k. k < n) new
within-step n place old new free below all put = subst (All (λ k. k < n)) (sym put) (All-append (λ k. k < n) old (cond free (place ∷ []) []) all (one free))
  where
    one : (b : Bool) → All (λ k. k < n) (cond b (place ∷ []) [])
    one true = All-cons (λ k. k < n) place [] below (All-nil (λ k. k < n))
    one false = All-nil (λ k. k < n)

-- one more row, which takes a place if it is new and one is left
with_taken-step : (slots : List Slot) (row : ListingRow) (rows : List ListingRow) (left : List ℕ) (after : List Slot) (new : Bool) → new ≡ is_new slots row
    → with_taken (zip (drop (cond new 1 0) left) (new_rows slots rows)) (with_taken (zip left (cond new (row ∷ []) [])) after) ≡ with_taken (zip left (new_rows slots (row ∷ rows))) after
with_taken-step slots row rows left after new is = by new left ∙ ap (λ (b : Bool). with_taken (zip left (cond b (row ∷ new_rows slots rows) (new_rows slots rows))) after) is
  where
    by : (b : Bool) (places : List ℕ) → with_taken (zip (drop (cond b 1 0) places) (new_rows slots rows)) (with_taken (zip places (cond b (row ∷ []) [])) after)
        ≡ with_taken (zip places (cond b (row ∷ new_rows slots rows) (new_rows slots rows))) after
    by true [] = refl
    by true (place ∷ places) = ap (λ (l : List (ℕ × ListingRow)). with_taken (zip places (new_rows slots rows)) (with_taken l (set after place (Some (new_filled row))))) (nothing places)
    by false places = ap (λ (l : List (ℕ × ListingRow)). with_taken (zip places (new_rows slots rows)) (with_taken l after)) (nothing places)

pub take-step : (slots : List Slot) (rows : List ListingRow) (i : ℕ) (row : ListingRow) (left more : List ℕ) (after now whole : List Slot) (new : Bool)
    → i < length rows → row ≡ get_or rows i row → new ≡ is_new slots row
    → now ≡ with_taken (zip left (cond new (row ∷ []) [])) after → more ≡ drop (cond new 1 0) left
    → with_taken (zip left (new_rows slots (drop i rows))) after ≡ whole
    → with_taken (zip more (new_rows slots (drop (i + 1) rows))) now ≡ whole
take-step slots rows i row left more after now whole new within is tests seats rest so_far =
    let here : drop i rows ≡ row ∷ drop (i + 1) rows = drop_more rows i row within ∙ ap (λ (r : ListingRow). r ∷ drop (i + 1) rows) (sym is) in
    ap (λ (l : List ℕ). with_taken (zip l (new_rows slots (drop (i + 1) rows))) now) rest
    ∙ ap (λ (s : List Slot). with_taken (zip (drop (cond new 1 0) left) (new_rows slots (drop (i + 1) rows))) s) seats
    ∙ with_taken-step slots row (drop (i + 1) rows) left after new tests
    ∙ ap (λ (l : List ListingRow). with_taken (zip left (new_rows slots l)) after) (sym here)
    ∙ so_far

-- after the last row
pub take-end : (slots : List Slot) (rows : List ListingRow) (i : ℕ) (left : List ℕ) (after whole : List Slot) → length rows ≤ i
    → with_taken (zip left (new_rows slots (drop i rows))) after ≡ whole → after ≡ whole
take-end slots rows i left after whole past so_far =
    ap (λ (l : List (ℕ × ListingRow)). with_taken l after) (sym (nothing left)) ∙ ap (λ (l : List ListingRow). with_taken (zip left (new_rows slots l)) after) (sym (drop_all i rows past)) ∙ so_far

pub within-rest : (n m : ℕ) (left more : List ℕ) (new : Bool) → m ≡ n → more ≡ drop (cond new 1 0) left → All (λ k. k < n) left → All (λ k. k < m) more
within-rest n m left more new long rest all =
    subst (λ (l : List ℕ). All (λ k. k < m) l) (sym rest) (All-drop (λ k. k < m) (cond new 1 0) left (subst (λ (b : ℕ). All (λ k. k < b) left) (sym long) all))

-- the first place that is left
pub take_one-first : (row : ListingRow) (left : List ℕ) (after : List Slot) (new : Bool) (filled : Filled) → 1 ≤ length left → new ≡ true → filled ≡ new_filled row
    → set after (get_or left 0 0) (Some filled) ≡ with_taken (zip left (cond new (row ∷ []) [])) after
take_one-first row [] after new filled some wanted is = let no : ⊥ = omega arith in absurd no
take_one-first row (place ∷ left) after new filled some wanted is =
    ap (λ (f : Filled). set after place (Some f)) is
    ∙ ap (λ (l : List (ℕ × ListingRow)). with_taken l (set after place (Some (new_filled row)))) (sym (nothing left))
    ∙ ap (λ (b : Bool). with_taken (zip (place ∷ left) (cond b (row ∷ []) [])) after) (sym wanted)

-- a row that isn't new takes none
pub take_one-old : (row : ListingRow) (left : List ℕ) (after : List Slot) (new : Bool) → new ≡ false → after ≡ with_taken (zip left (cond new (row ∷ []) [])) after
take_one-old row left after new old =
    ap (λ (l : List (ℕ × ListingRow)). with_taken l after) (sym (nothing left)) ∙ ap (λ (b : Bool). with_taken (zip left (cond b (row ∷ []) [])) after) (sym old)
