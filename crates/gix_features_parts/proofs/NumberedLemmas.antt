-- Lemmas on items by their numbers, among those that wait and in lists of pairs.
use Rattle.std.proofs.Common.{◌≡◌, ◌≢◌, ℕ, zero, suc, ◌+◌, ◌==◌, ◌<◌, ◌⊎◌, inl, inr, true, false, cond, List, [], ◌∷◌, ◌++◌, length, drop}
use Rattle.std.proofs.Common.{Option, Some, None, IsSome, slice_get, refl, sym, ap, subst, ◌∙◌, arith}
use Rattle.std.specs.Option.{option_or}
use Rattle.std.proofs.lemmas.Bool.Decides.{eqb_tells}
use Rattle.gix_features_parts.specs.InOrder.{Waiting, Changes, item_numbered, EachOnce}

-- ---- options and lists

pub none_or_some : {A : Type 0} (o : Option A) → (o ≡ None) ⊎ IsSome o
none_or_some None = inl refl
none_or_some (Some x) = inr refl

pub not_some : {A : Type 0} {o : Option A} → o ≡ None → IsSome o → ⊥
not_some none some = cc (none, some)

pub none_if_not : {A : Type 0} (o : Option A) → (IsSome o → ⊥) → o ≡ None
none_if_not None not = refl
none_if_not (Some x) not = absurd (not refl)

pub not_both : {A : Type 0} {a : A} {o : Option A} → o ≡ None → o ≡ Some a → ⊥
not_both n s = cc (n, s)

pub or_none : {A : Type 0} (o : Option A) → option_or o None ≡ o
or_none None = refl
or_none (Some x) = refl

pub or_some : {A : Type 0} (o p : Option A) → IsSome o → option_or o p ≡ o
or_some {A = A} None p some = absurd (not_some {A = A} {o = None} refl some)
or_some (Some x) p some = refl

pub within_some : {A : Type 0} (xs : List A) (k : ℕ) → k < length xs → IsSome (slice_get xs k)
within_some [] k within = absurd (omega (arith, within))
within_some (x ∷ xs) zero within = refl
within_some (x ∷ xs) (suc k) within = within_some xs k (omega (arith, within))

pub front_get : {A : Type 0} (xs : List A) (y : A) (k : ℕ) → k < length xs → slice_get (xs ++ y ∷ []) k ≡ slice_get xs k
front_get [] y k within = absurd (omega (arith, within))
front_get (x ∷ xs) y zero within = refl
front_get (x ∷ xs) y (suc k) within = front_get xs y k (omega (arith, within))

pub last_get : {A : Type 0} (xs : List A) (y : A) → slice_get (xs ++ y ∷ []) (length xs) ≡ Some y
last_get [] y = refl
last_get (x ∷ xs) y = last_get xs y

pub one_longer : {A : Type 0} (xs : List A) (y : A) → length (xs ++ y ∷ []) ≡ length xs + 1
one_longer [] y = refl
one_longer (x ∷ xs) y = let more = one_longer xs y in omega (arith, more)

pub drop_past : {T : Type 0} (items : List T) (n : ℕ) → slice_get items n ≡ None → drop n items ≡ []
drop_past [] zero e = refl
drop_past [] (suc n) e = refl
drop_past (x ∷ xs) zero e = absurd (not_both e refl)
drop_past (x ∷ xs) (suc n) e = drop_past xs n e

-- ---- numbers

pub same_number : (n k : ℕ) → n ≡ k → (n == k) ≡ true
same_number n k is = elim (eqb_tells n k) [ inl e ↦ e.0 | inr e ↦ absurd (e.1 is) ]

pub other_number : (n k : ℕ) → n ≢ k → (n == k) ≡ false
other_number n k apart = elim (eqb_tells n k) [ inl e ↦ absurd (apart e.1) | inr e ↦ e.0 ]

pub item_here : {T : Type 0} (k n : ℕ) (x : T) (pairs : List (ℕ × T)) → n ≡ k → item_numbered k ((n, x) ∷ pairs) ≡ Some x
item_here k n x pairs is = rw (same_number n k is) refl

pub item_there : {T : Type 0} (k n : ℕ) (x : T) (pairs : List (ℕ × T)) → n ≢ k → item_numbered k ((n, x) ∷ pairs) ≡ item_numbered k pairs
item_there k n x pairs apart = rw (other_number n k apart) refl

pub changed_here : {T : Type 0} (before after : Waiting T) (n k : ℕ) (item : Option T) → Changes before n item after → n ≡ k → after k ≡ item
changed_here before after n k item changes is = changes k ∙ ap (λ b. cond b item (before k)) (same_number n k is)

pub changed_there : {T : Type 0} (before after : Waiting T) (n k : ℕ) (item : Option T) → Changes before n item after → n ≢ k → after k ≡ before k
changed_there before after n k item changes apart = changes k ∙ ap (λ b. cond b item (before k)) (other_number n k apart)

-- the first item with a number is among the first ones, or else among the others
pub numbered_append : {T : Type 0} (k : ℕ) (front back : List (ℕ × T))
    → item_numbered k (front ++ back) ≡ option_or (item_numbered k front) (item_numbered k back)
numbered_append k [] back = refl
numbered_append k (pair ∷ front) back =
    elim (eqb_tells pair.0 k) [
      | inl e ↦
          let whole = item_here k pair.0 pair.1 (front ++ back) e.1 in
          whole ∙ ap (λ o. option_or o (item_numbered k back)) (sym (item_here k pair.0 pair.1 front e.1))
      | inr e ↦
          item_there k pair.0 pair.1 (front ++ back) e.1 ∙ numbered_append k front back
          ∙ ap (λ o. option_or o (item_numbered k back)) (sym (item_there k pair.0 pair.1 front e.1))
    ]

pub numbered_rest : {T : Type 0} (k : ℕ) (pair : ℕ × T) (pairs : List (ℕ × T)) → item_numbered k (pair ∷ pairs) ≡ None → item_numbered k pairs ≡ None
numbered_rest k pair pairs none =
    elim (eqb_tells pair.0 k) [
      | inl e ↦ absurd (not_both none (item_here k pair.0 pair.1 pairs e.1))
      | inr e ↦ sym (item_there k pair.0 pair.1 pairs e.1) ∙ none
    ]

-- no number comes twice among two lists that share none
pub once_append : {T : Type 0} (front back : List (ℕ × T)) → EachOnce front → EachOnce back
    → ((k : ℕ) → IsSome (item_numbered k back) → item_numbered k front ≡ None) → EachOnce (front ++ back)
once_append [] back once more apart = more
once_append (pair ∷ front) back once more apart =
    let absent : item_numbered pair.0 back ≡ None
    = none_if_not (item_numbered pair.0 back) (λ some. not_both (apart pair.0 some) (item_here pair.0 pair.0 pair.1 front refl)) in
    let first = numbered_append pair.0 front back ∙ ap (λ o. option_or o (item_numbered pair.0 back)) once.0 ∙ absent in
    (first, once_append front back once.1 more (λ k some. numbered_rest k pair front (apart k some)))

-- a pair after others has another number
pub once_front : {T : Type 0} (front : List (ℕ × T)) (pair : ℕ × T) (back : List (ℕ × T)) → EachOnce (front ++ pair ∷ back)
    → item_numbered pair.0 front ≡ None
once_front [] pair back once = refl
once_front (first ∷ front) pair back once =
    elim (eqb_tells first.0 pair.0) [
      | inl e ↦
          let here = item_here pair.0 pair.0 pair.1 back refl in
          let found = numbered_append pair.0 front (pair ∷ back)
          ∙ ap (λ o. option_or o (item_numbered pair.0 (pair ∷ back))) (once_front front pair back once.1) ∙ here in
          let none = subst (λ n. item_numbered n (front ++ pair ∷ back) ≡ None) e.1 once.0 in absurd (not_both none found)
      | inr e ↦ item_there pair.0 first.0 first.1 front e.1 ∙ once_front front pair back once.1
    ]
