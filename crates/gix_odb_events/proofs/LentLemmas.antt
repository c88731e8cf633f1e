-- What is lent of a list, place by place: how many items the elements so far give, and the items that are left.
use Rattle.std.proofs.Common.{◌≡◌, ℕ, zero, suc, ◌+◌, ◌-◌, ◌<◌, ◌==◌, ◌&&◌, Bool, true, false, cond, List, [], ◌∷◌, length, get_or, take, drop, Option, Some, None, is_some, refl, sym, ap, ◌∙◌, arith, eqb-true}
use Rattle.std.specs.List.{cons_option, enumerate_from, filter_map, slice_get}
use Rattle.std.specs.Option.{option_len}
use Rattle.std.proofs.lemmas.Option.{same_Some}
use Rattle.gix_odb_events.specs.Lent.{lent_index}
use Rattle.gix_odb_events.specs.Shown.{shown_slot}
use Rattle.gix_odb_events.specs.Slots.{Slot, slot_at}
use Rattle.gix_odb_events.specs.declared.lent.LentIndex.{LentIndex}
use Rattle.gix_odb_events.proofs.ShownLemmas.{shown_by_filled}

module _ {X Y : Type 0} (h : X → Option Y) where
  -- ---- how many items

  length-cons_option : (o : Option Y) (ys : List Y) → length (cons_option o ys) ≡ length ys + option_len o
  length-cons_option None ys = omega arith
  length-cons_option (Some y) ys = omega arith

  one-more : (xs : List X) (i : ℕ) (x : X) → slice_get xs i ≡ Some x → length (filter_map h (take (suc i) xs)) ≡ length (filter_map h (take i xs)) + option_len (h x)
  one-more [] i x at = cc
  one-more (y ∷ xs) zero x at = length-cons_option (h y) [] ∙ ap (λ (z : X). 0 + option_len (h z)) (same_Some y x at)
  one-more (y ∷ xs) (suc i) x at =
      omega (
        arith,
        length-cons_option (h y) (filter_map h (take (suc i) xs)),
        length-cons_option (h y) (filter_map h (take i xs)),
        one-more xs i x at,
      )

  count-more : (xs : List X) (i : ℕ) (x : X) → slice_get xs i ≡ Some x → length (filter_map h (take (i + 1) xs)) ≡ length (filter_map h (take i xs)) + option_len (h x)
  count-more xs i x at = let one : i + 1 ≡ suc i = omega arith in rw one (one-more xs i x at)

  len-some : (o : Option Y) (b : Bool) → b ≡ is_some o → b ≡ true → option_len o ≡ 1
  len-some None b is some = absurd (let no : true ≡ false = sym some ∙ is in cc)
  len-some (Some y) b is some = refl

  len-none : (o : Option Y) (b : Bool) → b ≡ is_some o → b ≡ false → option_len o ≡ 0
  len-none None b is none = refl
  len-none (Some y) b is none = absurd (let no : false ≡ true = sym none ∙ is in cc)

  -- one more element gives an item, or none
  pub count-yes : (xs : List X) (i : ℕ) (x : X) (b : Bool) → slice_get xs i ≡ Some x → b ≡ is_some (h x) → b ≡ true → length (filter_map h (take (i + 1) xs)) ≡ length (filter_map h (take i xs)) + 1
  count-yes xs i x b at is some = omega (arith, count-more xs i x at, len-some (h x) b is some)

  pub count-no : (xs : List X) (i : ℕ) (x : X) (b : Bool) → slice_get xs i ≡ Some x → b ≡ is_some (h x) → b ≡ false → length (filter_map h (take (i + 1) xs)) ≡ length (filter_map h (take i xs))
  count-no xs i x b at is none = omega (arith, count-more xs i x at, len-none (h x) b is none)

  -- ---- the items that are left

  drop-item : (xs : List X) (i : ℕ) (x : X) → slice_get xs i ≡ Some x → drop i xs ≡ x ∷ drop (suc i) xs
  drop-item [] i x at = cc
  drop-item (y ∷ xs) zero x at = ap (λ (z : X). z ∷ xs) (same_Some y x at)
  drop-item (y ∷ xs) (suc i) x at = drop-item xs i x at

  module _ (xs : List X) (i : ℕ) (x : X) (at : slice_get xs i ≡ Some x) where
    left-is : filter_map h (drop i xs) ≡ cons_option (h x) (filter_map h (drop (i + 1) xs))
    left-is = let one : i + 1 ≡ suc i = omega arith in rw one (ap (filter_map h) (drop-item xs i x at))

    -- the item is the one that is wanted
    pub left-here : (n : ℕ) (there last : Bool) → there ≡ is_some (h x) → last ≡ (there && (n == 0)) → last ≡ true → h x ≡ slice_get (filter_map h (drop i xs)) n
    left-here n there last is wanted hit = by (h x) n (ap (λ (b : Bool). b && (n == 0)) (sym is) ∙ sym wanted ∙ hit) ∙ ap (λ (ys : List Y). slice_get ys n) (sym left-is)
      where
        by : (o : Option Y) (n : ℕ) → (is_some o && (n == 0)) ≡ true → o ≡ slice_get (cons_option o (filter_map h (drop (i + 1) xs))) n
        by None n hit = absurd cc
        by (Some y) zero hit = refl
        by (Some y) (suc n) hit = absurd (let none : suc n ≡ 0 = eqb-true _ _ hit in omega arith)

    -- it isn't: so many are left then
    pub left-more : (n m : ℕ) (there last : Bool) → there ≡ is_some (h x) → last ≡ (there && (n == 0)) → last ≡ false → m ≡ n - cond there 1 0
        → slice_get (filter_map h (drop (i + 1) xs)) m ≡ slice_get (filter_map h (drop i xs)) n
    left-more n m there last is wanted miss left =
        ap (slice_get (filter_map h (drop (i + 1) xs))) (left ∙ ap (λ (b : Bool). n - cond b 1 0) is)
        ∙ by (h x) n (ap (λ (b : Bool). b && (n == 0)) (sym is) ∙ sym wanted ∙ miss)
        ∙ ap (λ (ys : List Y). slice_get ys n) (sym left-is)
      where
        by : (o : Option Y) (n : ℕ) → (is_some o && (n == 0)) ≡ false → slice_get (filter_map h (drop (i + 1) xs)) (n - cond (is_some o) 1 0) ≡ slice_get (cons_option o (filter_map h (drop (i + 1) xs))) n
        by None n miss = ap (slice_get (filter_map h (drop (i + 1) xs))) (let same : n - 0 ≡ n = omega arith in same)
        by (Some y) zero miss = absurd cc
        by (Some y) (suc n) miss = ap (slice_get (filter_map h (drop (i + 1) xs))) (let same : suc n - 1 ≡ n = omega arith in same)

-- ---- slots with their places

slot_with_place : (n : ℕ) (slots : List Slot) (i m : ℕ) → m ≡ n + i → i < length slots → slice_get (enumerate_from n slots) i ≡ Some (m, slot_at slots i)
slot_with_place n [] i m is within = absurd (omega arith)
slot_with_place n (slot ∷ slots) zero m is within = ap (λ (k : ℕ). Some (k, slot)) (let same : n ≡ m = omega arith in same)
slot_with_place n (slot ∷ slots) (suc i) m is within = slot_with_place (n + 1) slots i m (omega arith) (omega arith)

pub slot-at_place : (slots : List Slot) (i : ℕ) → i < length slots → slice_get (enumerate_from 0 slots) i ≡ Some (i, slot_at slots i)
slot-at_place slots i within = slot_with_place 0 slots i i (omega arith) within

pub length-enumerate : (n : ℕ) (slots : List Slot) → length (enumerate_from n slots) ≡ length slots
length-enumerate n [] = refl
length-enumerate n (slot ∷ slots) = ap (λ (k : ℕ). suc k) (length-enumerate (n + 1) slots)

-- ---- one slot

-- an index that a slot lends has the slot's number, which is in the same bounds
pub number_below : (place limit : ℕ) (slot : Slot) (index : LentIndex) → Some (lent_index index) ≡ shown_slot place slot → place < limit → index.slot < limit
number_below place limit slot index is within =
    let same : index.slot ≡ place = (shown_by_filled place slot (lent_index index) (sym is)).3 in
    omega (arith, same, within)
