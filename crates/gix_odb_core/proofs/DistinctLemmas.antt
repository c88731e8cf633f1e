-- Lists without two equal elements: joined, filtered, paired, and ranges of numbers.
use Rattle.std.proofs.Common.{◌≡◌, ℕ, zero, suc, ◌+◌, ◌-◌, ◌<◌, ◌≤◌, Bool, true, false, cond, List, [], ◌∷◌, ◌++◌, map, zip, nat_eq, refl, sym, ◌∙◌, arith, ne_eqb}
use Rattle.std.specs.List.{AllByRecursion, IsDistinct, filter, range_with_len}
use Rattle.gix_odb_core.specs.Publish.{ring_from}

-- ---- a property of each element

module _ {X : Type 0} where
  pub each_true : (xs : List X) → AllByRecursion (λ _. Unit {0}) xs
  each_true [] = tt
  each_true (x ∷ xs) = (tt, each_true xs)

  pub each_weaker : (P Q : X → Type 0) → ((x : X) → P x → Q x) → (xs : List X) → AllByRecursion P xs → AllByRecursion Q xs
  each_weaker P Q f [] h = tt
  each_weaker P Q f (x ∷ xs) h = (f x h.0, each_weaker P Q f xs h.1)

  pub each_append : (P : X → Type 0) (xs ys : List X) → AllByRecursion P xs → AllByRecursion P ys → AllByRecursion P (xs ++ ys)
  each_append P [] ys h k = k
  each_append P (x ∷ xs) ys h k = (h.0, each_append P xs ys h.1 k)

  pub each_filter : (P : X → Type 0) (p : X → Bool) (xs : List X) → AllByRecursion P xs → AllByRecursion P (filter p xs)
  each_filter P p [] h = tt
  each_filter P p (x ∷ xs) h = by (p x) (each_filter P p xs h.1)
    where
      by : (b : Bool) → AllByRecursion P (filter p xs) → AllByRecursion P (cond b (x ∷ filter p xs) (filter p xs))
      by true r = (h.0, r)
      by false r = r

  pub each_passes : (p : X → Bool) (xs : List X) → AllByRecursion (λ x. p x ≡ true) (filter p xs)
  each_passes p [] = tt
  each_passes p (x ∷ xs) = by (p x) refl (each_passes p xs)
    where
      by : (b : Bool) → p x ≡ b → AllByRecursion (λ y. p y ≡ true) (filter p xs) → AllByRecursion (λ y. p y ≡ true) (cond b (x ∷ filter p xs) (filter p xs))
      by true is r = (is, r)
      by false is r = r

  -- a property of each element that passes, for the whole list
  pub each_that_passes : (P : X → Type 0) (p : X → Bool) (xs : List X) → AllByRecursion P (filter p xs) → AllByRecursion (λ x. p x ≡ true → P x) xs
  each_that_passes P p [] h = tt
  each_that_passes P p (x ∷ xs) h = by (p x) refl (each_that_passes P p xs) h
    where
      by : (b : Bool) → p x ≡ b → (AllByRecursion P (filter p xs) → AllByRecursion (λ y. p y ≡ true → P y) xs) → AllByRecursion P (cond b (x ∷ filter p xs) (filter p xs))
          → AllByRecursion (λ y. p y ≡ true → P y) (x ∷ xs)
      by true is rest r = ((λ _. r.0), rest r.1)
      by false is rest r = ((λ yes. let no : true ≡ false = sym yes ∙ is in absurd cc), rest r)

module _ {A B : Type 0} where
  pub each_zip : (P : A → Type 0) (Q : B → Type 0) (xs : List A) (ys : List B) → AllByRecursion P xs → AllByRecursion Q ys → AllByRecursion (λ (pair : A × B). P pair.0 × Q pair.1) (zip xs ys)
  each_zip P Q [] ys h k = tt
  each_zip P Q (x ∷ xs) [] h k = tt
  each_zip P Q (x ∷ xs) (y ∷ ys) h k = ((h.0, k.0), each_zip P Q xs ys h.1 k.1)

-- ---- distinct lists

module _ {X : Type 0} (e : X → X → Bool) where
  pub IsDistinct-filter : (p : X → Bool) (xs : List X) → IsDistinct e xs → IsDistinct e (filter p xs)
  unfolding IsDistinct
  IsDistinct-filter p [] d = tt
  IsDistinct-filter p (x ∷ xs) d =
      elim (p x) as (λ b. IsDistinct e (cond b (x ∷ filter p xs) (filter p xs))) [
        | true ↦ (each_filter (λ y. e x y ≡ false) p xs d.0, IsDistinct-filter p xs d.1)
        | false ↦ IsDistinct-filter p xs d.1
      ]

  -- P holds of the first ones and Q of the others, and elements with P aren't equal to elements with Q
  pub IsDistinct-append : (P Q : X → Type 0) → ((x y : X) → P x → Q y → e x y ≡ false) → (xs ys : List X) → AllByRecursion P xs → AllByRecursion Q ys → IsDistinct e xs
      → IsDistinct e ys → IsDistinct e (xs ++ ys)
  unfolding IsDistinct
  IsDistinct-append P Q differ [] ys ps qs d f = f
  IsDistinct-append P Q differ (x ∷ xs) ys ps qs d f = (
    each_append (λ y. e x y ≡ false) xs ys d.0 (each_weaker Q (λ y. e x y ≡ false) (λ y q. differ x y ps.0 q) ys qs),
    IsDistinct-append P Q differ xs ys ps.1 qs d.1 f,
  )

module _ {A B : Type 0} where
  pub IsDistinct-map : (e : B → B → Bool) (f : A → B) (xs : List A) → IsDistinct e (map f xs) → IsDistinct (λ x y. e (f x) (f y)) xs
  unfolding IsDistinct
  IsDistinct-map e f [] d = tt
  IsDistinct-map e f (x ∷ xs) d = (each xs d.0, IsDistinct-map e f xs d.1)
    where
      each : (ys : List A) → AllByRecursion (λ y. e (f x) y ≡ false) (map f ys) → AllByRecursion (λ y. e (f x) (f y) ≡ false) ys
      each [] h = tt
      each (y ∷ ys) h = (h.0, each ys h.1)

  pub IsDistinct-firsts : (e : A → A → Bool) (xs : List A) (ys : List B) → IsDistinct e xs → IsDistinct (λ (p q : A × B). e p.0 q.0) (zip xs ys)
  unfolding IsDistinct
  IsDistinct-firsts e [] ys d = tt
  IsDistinct-firsts e (x ∷ xs) [] d = tt
  IsDistinct-firsts e (x ∷ xs) (y ∷ ys) d = (
    each_weaker (λ (p : A × B). (e x p.0 ≡ false) × Unit {0}) (λ p. e x p.0 ≡ false) (λ p h. h.0) (zip xs ys) (each_zip (λ z. e x z ≡ false) (λ _. Unit {0}) xs ys d.0 (each_true ys)),
    IsDistinct-firsts e xs ys d.1,
  )

  pub IsDistinct-seconds : (e : B → B → Bool) (xs : List A) (ys : List B) → IsDistinct e ys → IsDistinct (λ (p q : A × B). e p.1 q.1) (zip xs ys)
  unfolding IsDistinct
  IsDistinct-seconds e [] ys d = tt
  IsDistinct-seconds e (x ∷ xs) [] d = tt
  IsDistinct-seconds e (x ∷ xs) (y ∷ ys) d = (
    each_weaker (λ (p : A × B). Unit {0} × (e y p.1 ≡ false)) (λ p. e y p.1 ≡ false) (λ p h. h.1) (zip xs ys) (each_zip (λ _. Unit {0}) (λ z. e y z ≡ false) xs ys (each_true xs) d.0),
    IsDistinct-seconds e xs ys d.1,
  )

-- ---- ranges of numbers, and wrapped around

pub each_in_range : (a n : ℕ) → AllByRecursion (λ k. (a ≤ k) × (k < a + n)) (range_with_len a n)
each_in_range a zero = tt
each_in_range a (suc n) = (
  (omega arith, omega arith),
  each_weaker (λ k. (a + 1 ≤ k) × (k < a + 1 + n)) (λ k. (a ≤ k) × (k < a + suc n)) (λ k h. (omega arith, omega arith))
      (range_with_len (a + 1) n) (each_in_range (a + 1) n),
)

IsDistinct-range : (a n : ℕ) → IsDistinct nat_eq (range_with_len a n)
unfolding IsDistinct
IsDistinct-range a zero = tt
IsDistinct-range a (suc n) = (
  each_weaker (λ k. (a + 1 ≤ k) × (k < a + 1 + n)) (λ k. nat_eq a k ≡ false) (λ k h. ne_eqb a k (λ e. omega arith)) (range_with_len (a + 1) n) (each_in_range (a + 1) n),
  IsDistinct-range (a + 1) n,
)

pub IsDistinct-ring : (start count : ℕ) → IsDistinct nat_eq (ring_from start count)
IsDistinct-ring start count =
    IsDistinct-append nat_eq (λ k. (start ≤ k) × (k < start + (count - start))) (λ k. (0 ≤ k) × (k < 0 + (count - (count - start)))) (λ x y p q. ne_eqb x y (λ e. omega arith))
    (range_with_len start (count - start)) (range_with_len 0 (count - (count - start)))
    (each_in_range start (count - start)) (each_in_range 0 (count - (count - start)))
    (IsDistinct-range start (count - start)) (IsDistinct-range 0 (count - (count - start)))

pub each_in_ring : (start count : ℕ) → AllByRecursion (λ k. k < count) (ring_from start count)
each_in_ring start count =
    each_append (λ k. k < count) (range_with_len start (count - start)) (range_with_len 0 (count - (count - start)))
    (each_weaker (λ k. (start ≤ k) × (k < start + (count - start))) (λ k. k < count) (λ k h. omega arith) (range_with_len start (count - start)) (each_in_range start (count - start)))
    (each_weaker (λ k. (0 ≤ k) × (k < 0 + (count - (count - start)))) (λ k. k < count) (λ k h. omega arith) (range_with_len 0 (count - (count - start))) (each_in_range 0 (count - (count - start))))
