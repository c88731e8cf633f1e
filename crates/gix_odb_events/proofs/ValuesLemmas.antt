-- Places of which the first have values: the value at a place, another value there, and one value more.
use Rattle.std.proofs.Common.{◌≡◌, ◌∙◌, ap, arith, refl, sym, ℕ, zero, suc, ◌+◌, ◌-◌, ◌<◌, ◌≤◌, Option, Some, None, List, [], ◌∷◌, ◌++◌, append-nil, length, map, replicate, set}
use Rattle.std.proofs.lemmas.List.{length-replicate}
use Rattle.std.specs.List.{slice_get}
use Rattle.std.specs.Option.{some_prefix}
use Rattle.std.specs.Prelude.{unwrap_or}
use Rattle.gix_odb_events.specs.Values.{HasPlaceLeft, HasValues, with_spare}

-- ---- places with values and spare ones

pub some_prefix-with_spare : {X : Type 0} (xs : List X) (k : ℕ) → some_prefix (with_spare xs k) ≡ xs
some_prefix-with_spare [] zero = refl
some_prefix-with_spare [] (suc k) = refl
some_prefix-with_spare (x ∷ xs) k = ap (λ values. x ∷ values) (some_prefix-with_spare xs k)

length-with_spare : {X : Type 0} (xs : List X) (k : ℕ) → length (with_spare xs k) ≡ length xs + k
length-with_spare {X = X} [] k = omega (arith, length-replicate {A = Option X} k None)
length-with_spare (x ∷ xs) k = omega (arith, length-with_spare xs k)

get-spare : {X : Type 0} (k i : ℕ) → unwrap_or (slice_get (replicate {A = Option X} k None) i) None ≡ None
get-spare zero i = refl
get-spare (suc k) zero = refl
get-spare (suc k) (suc i) = get-spare k i

get-with_spare : {X : Type 0} (xs : List X) (k i : ℕ) → unwrap_or (slice_get (with_spare xs k) i) None ≡ slice_get xs i
get-with_spare [] k i = get-spare k i
get-with_spare (x ∷ xs) k zero = refl
get-with_spare (x ∷ xs) k (suc i) = get-with_spare xs k i

set-with_spare : {X : Type 0} (xs : List X) (k i : ℕ) (x : X) → i < length xs → set (with_spare xs k) i (Some x) ≡ with_spare (set xs i x) k
set-with_spare [] k i x below = absurd (omega arith)
set-with_spare (y ∷ xs) k zero x below = refl
set-with_spare (y ∷ xs) k (suc i) x below = ap (λ places. Some y ∷ places) (set-with_spare xs k i x (omega arith))

next-with_spare : {X : Type 0} (xs : List X) (k n : ℕ) (x : X) → n ≡ length xs → set (with_spare xs (suc k)) n (Some x) ≡ with_spare (xs ++ x ∷ []) k
next-with_spare [] k zero x at = refl
next-with_spare [] k (suc n) x at = absurd (omega arith)
next-with_spare (y ∷ xs) k zero x at = absurd (omega arith)
next-with_spare (y ∷ xs) k (suc n) x at = ap (λ places. Some y ∷ places) (next-with_spare xs k n x (omega arith))

-- all places have values
pub without_spare : {X : Type 0} {places : List (Option X)} (xs : List X) → places ≡ map Some xs → places ≡ with_spare xs 0
without_spare xs e = e ∙ sym (append-nil (map Some xs))

-- ---- places that have values

module _ {X : Type 0} (len : ℕ) (places : List (Option X)) where
  -- places with values and spare ones have these values
  pub values-from_spare : (xs : List X) (k : ℕ) → places ≡ with_spare xs k → some_prefix places ≡ xs
  values-from_spare xs k e = ap some_prefix e ∙ some_prefix-with_spare xs k

  pub HasValues-from_spare : (xs : List X) (k : ℕ) → places ≡ with_spare xs k → length xs ≡ len → HasValues len places
  HasValues-from_spare xs k e count =
      let same : some_prefix places ≡ xs = values-from_spare xs k e in
      let left : k ≡ length places - len = omega (arith, ap length e, length-with_spare xs k, count) in
      record {
        count = ap length same ∙ count;
        spare = e ∙ ap (with_spare xs) left ∙ ap (λ values. with_spare values (length places - len)) (sym same);
      }

  module _ (has : HasValues len places) where
    pub get-values : (i : ℕ) → unwrap_or (slice_get places i) None ≡ slice_get (some_prefix places) i
    get-values i =
        ap (λ all. unwrap_or (slice_get all i) None) has.spare ∙ get-with_spare (some_prefix places) (length places - len) i

    -- another value at a place
    pub set-values : (i : ℕ) (x : X) (after : List (Option X)) → i < len → after ≡ set places i (Some x) → after ≡ with_spare (set (some_prefix places) i x) (length places - len)
    set-values i x after below e =
        e
        ∙ ap (λ all. set all i (Some x)) has.spare
        ∙ set-with_spare (some_prefix places) (length places - len) i x (omega (arith, has.count))

    -- a place is left, or one is made
    pub HasPlaceLeft-from_below : (more : List (Option X)) → more ≡ places → len < length places → HasPlaceLeft (some_prefix places) more
    HasPlaceLeft-from_below more e below =
        let one : length places - len ≡ length places - len - 1 + 1 = omega arith in
        (length places - len - 1, e ∙ has.spare ∙ ap (with_spare (some_prefix places)) one)

    pub HasPlaceLeft-from_empty : (more : List (Option X)) (count : ℕ) → length places ≤ len → 0 < count → more ≡ places ++ replicate count None → HasPlaceLeft (some_prefix places) more
    HasPlaceLeft-from_empty more count full some e =
        let none : length places - len ≡ 0 = omega arith in
        let one : count ≡ count - 1 + 1 = omega arith in
        let all : places ≡ map Some (some_prefix places) = has.spare ∙ ap (with_spare (some_prefix places)) none ∙ append-nil (map Some (some_prefix places)) in
        (count - 1, e ∙ ap (λ front. front ++ replicate count None) all ∙ ap (with_spare (some_prefix places)) one)

-- one value more, in the first place that is left
pub next-values : {X : Type 0} (xs : List X) (more after : List (Option X)) (len : ℕ) (x : X) (left : HasPlaceLeft xs more) → length xs ≡ len → after ≡ set more len (Some x) → after ≡ with_spare (xs ++ x ∷ []) left.0
next-values xs more after len x left count e =
    let one : left.0 + 1 ≡ suc left.0 = omega arith in
    e
    ∙ ap (λ all. set all len (Some x)) (left.1 ∙ ap (with_spare xs) one)
    ∙ next-with_spare xs left.0 len x (sym count)
