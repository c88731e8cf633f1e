-- filter_map of a function that gives something for each element, and of one that gives different things for different elements.
use Rattle.std.proofs.Common.{◌≡◌, ℕ, zero, suc, ◌<◌, Bool, true, false, List, [], ◌∷◌, length, get_or, Option, Some, None, is_some, filter_map, ◌||◌, ⊎_elim, refl, ap, ◌∙◌, arith}
use Rattle.std.specs.List.{AllByRecursion, IsDistinct, cons_option, list_any}
use Rattle.std.proofs.lemmas.Bool.{or_cases, or_left, or_right}

module _ {X Y : Type 0} (h : X → Option Y) where
  -- nothing is left out
  pub length-filter_map : (xs : List X) → AllByRecursion (λ x. is_some (h x) ≡ true) xs → length (filter_map h xs) ≡ length xs
  length-filter_map [] all = refl
  length-filter_map (x ∷ xs) all = by (h x) all.0 (length-filter_map xs all.1)
    where
      by : (o : Option Y) → is_some o ≡ true → length (filter_map h xs) ≡ length xs → length (cons_option o (filter_map h xs)) ≡ suc (length xs)
      by None is rest = absurd cc
      by (Some y) is rest = ap suc rest

  -- and each element gives the item at its place
  pub get_or-filter_map : (xs : List X) → AllByRecursion (λ x. is_some (h x) ≡ true) xs → (k : ℕ) (d : X) (e : Y) → k < length xs → h (get_or xs k d) ≡ Some (get_or (filter_map h xs) k e)
  get_or-filter_map [] all k d e within = let no : ⊥ = omega arith in absurd no
  get_or-filter_map (x ∷ xs) all zero d e within = by (h x) all.0
    where
      by : (o : Option Y) → is_some o ≡ true → o ≡ Some (get_or (cons_option o (filter_map h xs)) zero e)
      by None is = absurd cc
      by (Some y) is = refl
  get_or-filter_map (x ∷ xs) all (suc k) d e within = get_or-filter_map xs all.1 k d e (omega arith) ∙ by (h x) all.0
    where
      by : (o : Option Y) → is_some o ≡ true → Some (get_or (filter_map h xs) k e) ≡ Some (get_or (cons_option o (filter_map h xs)) (suc k) e)
      by None is = absurd cc
      by (Some y) is = refl

  -- elements that differ give items that differ
  pub IsDistinct-filter_map : (differ : X → X → Bool) (e : Y → Y → Bool) → ((x z : X) (y w : Y) → differ x z ≡ false → h x ≡ Some y → h z ≡ Some w → e y w ≡ false)
      → (xs : List X) → IsDistinct differ xs → IsDistinct e (filter_map h xs)
  unfolding IsDistinct
  IsDistinct-filter_map differ e tells [] d = tt
  IsDistinct-filter_map differ e tells (x ∷ xs) d = by (h x) refl (IsDistinct-filter_map differ e tells xs d.1)
    where
      each : (y : Y) → h x ≡ Some y → (zs : List X) → AllByRecursion (λ z. differ x z ≡ false) zs → AllByRecursion (λ w. e y w ≡ false) (filter_map h zs)
      each y is [] all = tt
      each y is (z ∷ zs) all = at (h z) refl (each y is zs all.1)
        where
          at : (o : Option Y) → h z ≡ o → AllByRecursion (λ w. e y w ≡ false) (filter_map h zs) → AllByRecursion (λ w. e y w ≡ false) (cons_option o (filter_map h zs))
          at None gives rest = rest
          at (Some w) gives rest = (tells x z y w all.0 is gives, rest)

      by : (o : Option Y) → h x ≡ o → IsDistinct e (filter_map h xs) → IsDistinct e (cons_option o (filter_map h xs))
      by None is rest = rest
      by (Some y) is rest = (each y is xs d.0, rest)

  -- each item was given by an element
  pub any-filter_map : (e : Y → Y → Bool) (y : Y) (p : X → Bool) → ((x : X) (w : Y) → h x ≡ Some w → e y w ≡ true → p x ≡ true) → (xs : List X)
      → list_any (e y) (filter_map h xs) ≡ true → list_any p xs ≡ true
  any-filter_map e y p tells [] any = any
  any-filter_map e y p tells (x ∷ xs) any = by (h x) refl any (any-filter_map e y p tells xs)
    where
      by : (o : Option Y) → h x ≡ o → list_any (e y) (cons_option o (filter_map h xs)) ≡ true → (list_any (e y) (filter_map h xs) ≡ true → list_any p xs ≡ true) → (p x || list_any p xs) ≡ true
      by None gives any rest = or_right (p x) (list_any p xs) (rest any)
      by (Some w) gives any rest =
          ⊎_elim (λ here. or_left (p x) (list_any p xs) (tells x w gives here)) (λ later. or_right (p x) (list_any p xs) (rest later)) (or_cases (e y w) (list_any (e y) (filter_map h xs)) any)
