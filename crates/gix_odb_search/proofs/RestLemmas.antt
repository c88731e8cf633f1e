-- What is left of a list after some of its items.
use Rattle.std.proofs.Common.{◌≡◌, ℕ, zero, suc, List, [], ◌∷◌, Some, drop, slice_get, refl, sym, ap}
use Rattle.std.proofs.lemmas.Option.{none-some, same_Some}
use Rattle.gix_odb_events.specs.Shown.{first_of}

pub first_left : {X : Type 0} (items : List X) (n : ℕ) → slice_get items n ≡ first_of (drop n items)
first_left [] zero = refl
first_left [] (suc n) = refl
first_left (item ∷ items) zero = refl
first_left (item ∷ items) (suc n) = first_left items n

-- the first item, and the rest
pub first_rest : {X : Type 0} (items : List X) (first : X) → Some first ≡ first_of items → first ∷ drop 1 items ≡ items
first_rest [] first is = absurd (none-some first (sym is))
first_rest (item ∷ items) first is = ap (λ head. head ∷ items) (same_Some first item is)
