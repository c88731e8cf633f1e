-- What a loop over a list has taken.
use Rattle.std.proofs.Common.{◌≡◌, ℕ, ◌+◌, List, [], ◌∷◌, ◌++◌, length, ap, append-nil, arith, refl, sym, ◌∙◌}
use Rattle.std.specs.Iterator.{Yields}
use Rattle.std.specs.Option.{MatchOption}

-- It has taken the elements from the front.
taken : {S A : Type 0} (rest : S → List A) (len : S → ℕ) (s : S) (xs : List A) (t : S)
    → Yields (λ from item to. MatchOption item ((len from ≡ 0) × (len to ≡ 0)) (λ x. (rest from ≡ x ∷ rest to) × (len to + 1 ≡ len from))) s xs t → rest s ≡ xs ++ rest t
taken rest len s [] t is = ap rest is
taken rest len s (x ∷ xs) t along = along.1.0 ∙ ap (λ more. x ∷ more) (taken rest len along.0 xs t along.2)

none_left : {A : Type 0} (xs : List A) → length xs ≡ 0 → xs ≡ []
none_left [] is = refl
none_left (x ∷ xs) is = absurd (omega arith)

-- At the end it has taken them all.
pub all_taken : {S A : Type 0} (rest : S → List A) (len : S → ℕ) (s : S) (xs : List A) (t : S)
    → Yields (λ from item to. MatchOption item ((len from ≡ 0) × (len to ≡ 0)) (λ x. (rest from ≡ x ∷ rest to) × (len to + 1 ≡ len from))) s xs t
    → length (rest t) ≡ 0 → xs ≡ rest s
all_taken rest len s xs t along none = sym (append-nil xs) ∙ ap (λ more. xs ++ more) (sym (none_left (rest t) none)) ∙ sym (taken rest len s xs t along)
