-- A stable sort by an order gives one list.
use Rattle.std.proofs.Common.{◌≡◌, suc, ◌+◌, Bool, true, false, not, cond, ◌&&◌, List, [], ◌∷◌, get_or, refl, sym, ap, subst, ◌∙◌, arith}
use Rattle.std.specs.Cmp.{IsStrictWeakOrder, IsTotalOrder}
use Rattle.std.specs.List.{Contains, filter}
use Rattle.std.specs.List.Sorted.{IsSorted, IsSortedBy, IsStable, ties}
use Rattle.std.specs.Ordering.{is_lt}
use Rattle.std.specs.declared.cmp.Ordering.{Ordering}
use Rattle.std.proofs.lemmas.List.Elements.{All-contains, All-contains_itself, All-filter, Contains-get_or}
use Rattle.std.proofs.lemmas.List.Sorted.{ranks_by, sorted_far}

both : (a b : Bool) → a ≡ false → b ≡ false → not a && not b ≡ true
both true b p q = absurd cc
both false true p q = absurd cc
both false false p q = refl

never : (b : Bool) → (b ≡ true → b ≡ false) → b ≡ false
never true turns = turns refl
never false turns = refl

module _ {X : Type 0} (lt : X → X → Bool) (weak : IsStrictWeakOrder lt) where
  ties_itself : (x : X) → ties lt x x ≡ true
  ties_itself x =
      let not_below : lt x x ≡ false = never (lt x x) (weak.one_way x x) in
      both (lt x x) (lt x x) not_below not_below

  kept_first : (x : X) (xs : List X) → filter (ties lt x) (x ∷ xs) ≡ x ∷ filter (ties lt x) xs
  kept_first x xs = ap (λ b. cond b (x ∷ filter (ties lt x) xs) (filter (ties lt x) xs)) (ties_itself x)

  filter_has : (p : X → Bool) (xs : List X) (x : X) → Contains (filter p xs) x → Contains xs x
  filter_has p xs x has = All-contains (Contains xs) (filter p xs) x (All-filter p (Contains xs) xs (All-contains_itself xs)) has

  -- what ties with the first of one list is in the other
  has_first : (x : X) (xs others : List X) → filter (ties lt x) (x ∷ xs) ≡ filter (ties lt x) others → Contains others x
  has_first x xs others same =
      filter_has (ties lt x) others x (subst (λ l. Contains l x) (sym (kept_first x xs)
      ∙ same) (Contains-get_or (x ∷ filter (ties lt x) xs) 0 x (omega arith)))

  first_least : (x : X) (xs : List X) (y : X) → IsSortedBy lt (x ∷ xs) → Contains (x ∷ xs) y → lt y x ≡ false
  first_least x xs y rises has = subst (λ w. lt w x ≡ false) has.2 (sorted_far lt weak (x ∷ xs) rises 0 has.0 y (omega arith) has.1)

  rest_sorted : (x : X) (xs : List X) → IsSortedBy lt (x ∷ xs) → IsSortedBy lt xs
  rest_sorted x xs rises k d low within =
      let next : suc k + 1 ≡ suc (k + 1) = omega arith in
      subst (λ n. lt (get_or (x ∷ xs) n d) (get_or xs k d) ≡ false) next (rises (suc k) d (omega arith) (omega arith))

  rest_kept : (b : Bool) (x y : X) (xs ys : List X) → x ≡ y → cond b (x ∷ xs) xs ≡ cond b (y ∷ ys) ys → xs ≡ ys
  rest_kept true x y xs ys is same = cc
  rest_kept false x y xs ys is same = same

  sorted_once : (xs ys : List X) → IsSortedBy lt xs → IsSortedBy lt ys → ((x : X) → filter (ties lt x) xs ≡ filter (ties lt x) ys) → xs ≡ ys
  sorted_once [] [] rises also same = refl
  sorted_once [] (y ∷ ys) rises also same = let differ : [] ≡ y ∷ filter (ties lt y) ys = same y ∙ kept_first y ys in absurd cc
  sorted_once (x ∷ xs) [] rises also same = let differ : x ∷ filter (ties lt x) xs ≡ [] = sym (kept_first x xs) ∙ same x in absurd cc
  sorted_once (x ∷ xs) (y ∷ ys) rises also same =
      let below : lt x y ≡ false = first_least y ys x also (has_first x xs (y ∷ ys) (same x)) in
      let above : lt y x ≡ false = first_least x xs y rises (has_first y ys (x ∷ xs) (sym (same y))) in
      let tie : ties lt x y ≡ true = both (lt x y) (lt y x) below above in
      let heads : x ∷ filter (ties lt x) xs ≡ y ∷ filter (ties lt x) ys =
      sym (kept_first x xs) ∙ same x ∙ ap (λ b. cond b (y ∷ filter (ties lt x) ys) (filter (ties lt x) ys)) tie in
      let first : x ≡ y = cc in
      let rest : xs ≡ ys = sorted_once xs ys (rest_sorted x xs rises) (rest_sorted y ys also) (λ z.
      rest_kept (ties lt z x) x y (filter (ties lt z) xs) (filter (ties lt z) ys) first
      (same z ∙ ap (λ w. cond (ties lt z w) (y ∷ filter (ties lt z) ys) (filter (ties lt z) ys)) (sym first))) in
      cc

-- two stable sorts of one list are the same list
pub stable_once : {X : Type 0} (order : X → X → Ordering) → IsTotalOrder order → (old xs ys : List X) → IsSorted order xs → IsStable order old xs
    → IsSorted order ys → IsStable order old ys → xs ≡ ys
stable_once order total old xs ys rises stable also stably =
    sorted_once (λ x y. is_lt (order x y)) (ranks_by total (λ x. x)) xs ys rises also (λ x. stable x ∙ sym (stably x))
