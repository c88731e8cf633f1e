-- Lemmas on the lines and the status of items with one more item.
use Rattle.std.proofs.Common.{◌≡◌, ℕ, Bool, ◌||◌, List, [], ◌∷◌, ◌++◌, Option, Some, refl, sym, ap, subst, ◌∙◌, append-nil}
use Rattle.std.proofs.lemmas.Grind.{flat_map-append}
use Rattle.std.proofs.lemmas.List.Folds.{list_any-append}
use Rattle.std.proofs.Math.Bool.{or-false}
use Rattle.std.specs.Iterator.{Yields}
use Rattle.std.specs.List.{flat_map, list_any}
use Rattle.walkdir.specs.Walk.{Item}

pub flat_more : (f : Item → List ℕ) (items : List Item) (item : Item) → flat_map f (items ++ item ∷ []) ≡ flat_map f items ++ f item
flat_more f items item = flat_map-append f items (item ∷ []) ∙ ap (λ t. flat_map f items ++ t) (append-nil (f item))

pub any_more : (p : Item → Bool) (items : List Item) (item : Item) → list_any p (items ++ item ∷ []) ≡ (list_any p items || p item)
any_more p items item = list_any-append p items (item ∷ []) ∙ ap (λ b. list_any p items || b) (or-false (p item))

pub yields_more : {S A : Type 0} (steps : S → Option A → S → Type 0) (s : S) (items : List A) (t : S) (item : A) (u : S) → Yields steps s items t → steps t (Some item) u
    → Yields steps s (items ++ item ∷ []) u
yields_more steps s [] t item u is step = (u, subst (λ x. steps x (Some item) u) (sym is) step, refl)
yields_more steps s (first ∷ items) t item u along step = (along.0, along.1, yields_more steps along.0 items t item u along.2 step)
