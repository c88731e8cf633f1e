-- Elements of lists: the first or a later one, and the rest after a place.
use Rattle.std.proofs.Common.{◌≡◌, ◌⊎◌, ℕ, zero, suc, ◌+◌, List, [], ◌∷◌, drop, slice_get, Contains, Some, None}
use Rattle.std.proofs.Common.{refl, subst, arith}
use Rattle.std.proofs.lemmas.Option.{slice_get_within, get_or_from_slice_get}
use Rattle.gix_odb_search.proofs.ReachLemmas.{first_or_later, none_in}

pub first_in : {A : Type 0} (x : A) (xs : List A) → Contains (x ∷ xs) x
first_in x xs = (0, omega arith, refl)

pub later_in : {A : Type 0} (x : A) (xs : List A) (y : A) → Contains xs y → Contains (x ∷ xs) y
later_in x xs y (k, within, is) = (suc k, omega (arith, within), is)

pub found_at : {A : Type 0} (xs : List A) (n : ℕ) (x : A) → slice_get xs n ≡ Some x → Contains xs x
found_at xs n x e = (n, slice_get_within xs n x e, get_or_from_slice_get xs n x x e)

-- ---- the rest after a place

pub drop_none : {A : Type 0} (xs : List A) → drop 0 xs ≡ xs
drop_none [] = refl
drop_none (x ∷ xs) = refl

pub drop_here : {A : Type 0} (xs : List A) (n : ℕ) (x : A) → slice_get xs n ≡ Some x → drop n xs ≡ x ∷ drop (n + 1) xs
drop_here [] n x e = absurd (cc e)
drop_here (y ∷ ys) zero x e = let same : y ≡ x = cc e in rw same refl
drop_here (y ∷ ys) (suc n) x e = let more : suc n + 1 ≡ suc (n + 1) = omega arith in rw more (drop_here ys n x e)

pub none_ahead : {A : Type 0} (xs : List A) (n : ℕ) → slice_get xs n ≡ None → drop n xs ≡ []
none_ahead [] zero e = refl
none_ahead [] (suc n) e = refl
none_ahead (y ∷ ys) zero e = absurd (cc e)
none_ahead (y ∷ ys) (suc n) e = none_ahead ys n e

-- what is left from a place on is there, or after it
pub here_or_behind : {A : Type 0} (xs : List A) (n : ℕ) (x y : A) → slice_get xs n ≡ Some x → Contains (drop n xs) y → (x ≡ y) ⊎ Contains (drop (n + 1) xs) y
here_or_behind {A = A} xs n x y e ahead = first_or_later x (drop (n + 1) xs) y (subst (λ (rest : List A). Contains rest y) (drop_here xs n x e) ahead)

pub nothing_ahead : {A : Type 0} (xs : List A) (n : ℕ) (y : A) → slice_get xs n ≡ None → ¬ (Contains (drop n xs) y)
nothing_ahead {A = A} xs n y e ahead = none_in y (subst (λ (rest : List A). Contains rest y) (none_ahead xs n e) ahead)
