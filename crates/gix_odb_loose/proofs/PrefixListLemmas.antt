-- What lists contain, and lists of what a function gives of their items.
use Rattle.std.proofs.Common.{◌≡◌, ◌⊎◌, inl, inr, zero, suc, List, [], ◌∷◌, Contains, Option, Some, None, refl, sym, ap, ◌∙◌, subst, arith}
use Rattle.std.specs.List.{cons_option, filter_map}

pub first_or_later : {A : Type 0} (x : A) (xs : List A) (y : A) → Contains (x ∷ xs) y → (x ≡ y) ⊎ Contains xs y
first_or_later x xs y (zero, within, is) = inl is
first_or_later x xs y (suc k, within, is) = inr (k, omega (arith, within), is)

pub none_in : {A : Type 0} (y : A) → ¬ (Contains [] y)
none_in y (k, within, is) = omega (arith, within)

pub has_first : {A : Type 0} (x : A) (xs : List A) → Contains (x ∷ xs) x
has_first x xs = (zero, omega arith, refl)

pub has_later : {A : Type 0} (x : A) (xs : List A) (y : A) → Contains xs y → Contains (x ∷ xs) y
has_later x xs y (k, within, is) = (suc k, omega (arith, within), is)

-- what a map that leaves out gives is of an item
pub record IsOf {A B : Type 0} (f : A → Option B) (xs : List A) (y : B) : Type 0 where
  pub item : A
  pub among : Contains xs item
  pub gives : f item ≡ Some y

of_later : {A B : Type 0} (f : A → Option B) (x : A) (xs : List A) (y : B) → IsOf f xs y → IsOf f (x ∷ xs) y
of_later f x xs y is = record { item = is.item; among = has_later x xs is.item is.among; gives = is.gives }

of_option : {A B : Type 0} (f : A → Option B) (x : A) (xs : List A) (y : B) (o : Option B) → f x ≡ o → (Contains (filter_map f xs) y → IsOf f xs y) → Contains (cons_option o (filter_map f xs)) y → IsOf f (x ∷ xs) y
of_option f x xs y None is more has = of_later f x xs y (more has)
of_option f x xs y (Some z) is more has =
    elim (first_or_later z (filter_map f xs) y has) [
      | inl same ↦ record { item = x; among = has_first x xs; gives = is ∙ ap Some same }
      | inr others ↦ of_later f x xs y (more others)
    ]

pub of_filter_map : {A B : Type 0} (f : A → Option B) (xs : List A) (y : B) → Contains (filter_map f xs) y → IsOf f xs y
of_filter_map f [] y among = absurd (none_in y among)
of_filter_map f (x ∷ xs) y among = of_option f x xs y (f x) refl (λ more. of_filter_map f xs y more) among

pub put_later : {B : Type 0} (o : Option B) (ys : List B) (y : B) → Contains ys y → Contains (cons_option o ys) y
put_later None ys y has = has
put_later (Some z) ys y has = has_later z ys y has

pub in_filter_map : {A B : Type 0} (f : A → Option B) (xs : List A) (x : A) (y : B) → Contains xs x → f x ≡ Some y → Contains (filter_map f xs) y
in_filter_map f [] x y among gives = absurd (none_in x among)
in_filter_map f (z ∷ xs) x y among gives =
    elim (first_or_later z xs x among) [
      | inl same ↦ subst (λ o. Contains (cons_option o (filter_map f xs)) y) (sym (ap f same ∙ gives)) (has_first y (filter_map f xs))
      | inr more ↦ put_later (f z) (filter_map f xs) y (in_filter_map f xs x y more gives)
    ]
