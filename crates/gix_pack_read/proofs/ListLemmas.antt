-- Lists row by row: pairs of two lists, the rest from a row on, and properties of each row.
use Rattle.std.proofs.Common.{◌≡◌, ℕ, zero, suc, ◌+◌, Bool, true, List, [], ◌∷◌, drop, slice_get, Some, sym, ap, ◌∙◌, arith}
use Rattle.std.specs.List.{list_all, zip}
use Rattle.std.proofs.lemmas.Bool.{and_parts}
use Rattle.std.proofs.lemmas.Option.{same_Some}

pub zip_get : {X Y : Type 0} (xs : List X) (ys : List Y) (i : ℕ) (x : X) (y : Y) → slice_get xs i ≡ Some x → slice_get ys i ≡ Some y → slice_get (zip xs ys) i ≡ Some (x, y)
zip_get [] ys i x y h k = cc h
zip_get (a ∷ xs) [] i x y h k = cc k
zip_get (a ∷ xs) (b ∷ ys) zero x y h k = cc (h, k)
zip_get (a ∷ xs) (b ∷ ys) (suc i) x y h k = zip_get xs ys i x y h k

pub drop_at : {X : Type 0} (xs : List X) (i : ℕ) (x : X) → slice_get xs i ≡ Some x → drop i xs ≡ x ∷ drop (i + 1) xs
drop_at [] i x h = cc h
drop_at {X} (a ∷ xs) zero x h = ap (λ (y : X). y ∷ xs) (same_Some a x h)
drop_at (a ∷ xs) (suc i) x h = let next : suc i + 1 ≡ suc (i + 1) = omega arith in rw next (drop_at xs i x h)

-- a property of each row holds of one
pub of_row : {X : Type 0} (test : X → Bool) (rows : List X) (n : ℕ) (row : X) → list_all test rows ≡ true → slice_get rows n ≡ Some row → test row ≡ true
of_row test [] n row all h = cc h
of_row test (x ∷ rows) zero row all h = ap test (sym (same_Some x row h)) ∙ (and_parts (test x) (list_all test rows) all).0
of_row test (x ∷ rows) (suc n) row all h = of_row test rows n row (and_parts (test x) (list_all test rows) all).1 h
