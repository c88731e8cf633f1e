-- Lemmas on items of a list that come with their places, the last one first.
use Rattle.std.proofs.Common.{◌≡◌, ◌≢◌, ℕ, zero, suc, List, [], ◌∷◌, ◌++◌, length, Some, None, inl, inr, slice_get, refl, sym, ap, ◌∙◌, arith}
use Rattle.std.proofs.lemmas.Bool.Decides.{eqb_tells}
use Rattle.gix_features_parts.specs.InOrder.{item_numbered, EachOnce}
use Rattle.gix_features_parts.specs.InOrderRuns.{ArriveOnce}

module _ {T : Type 0} where
  -- ---- lists with a last item

  pub no_last : (xs : List T) (x : T) → xs ++ x ∷ [] ≡ [] → ⊥
  no_last [] x e = cc e
  no_last (y ∷ ys) x e = cc e

  pub same_ends : (xs ys : List T) (x y : T) → xs ++ x ∷ [] ≡ ys ++ y ∷ [] → (xs ≡ ys) × (x ≡ y)
  same_ends [] [] x y e = (refl, cc e)
  same_ends [] (b ∷ ys) x y e = let rest : ys ++ y ∷ [] ≡ [] = cc e in absurd (no_last ys y rest)
  same_ends (a ∷ xs) [] x y e = let rest : xs ++ x ∷ [] ≡ [] = cc e in absurd (no_last xs x rest)
  same_ends (a ∷ xs) (b ∷ ys) x y e =
      let heads : a ≡ b = cc e in
      let tails : xs ++ x ∷ [] ≡ ys ++ y ∷ [] = cc e in
      let more = same_ends xs ys x y tails in
      (ap (λ h. h ∷ xs) heads ∙ ap (λ l. b ∷ l) more.0, more.1)

  pub longer : (xs : List T) (x : T) → length (xs ++ x ∷ []) ≡ suc (length xs)
  longer [] x = refl
  longer (y ∷ ys) x = ap suc (longer ys x)

  at_last : (xs : List T) (x : T) → slice_get (xs ++ x ∷ []) (length xs) ≡ Some x
  at_last [] x = refl
  at_last (y ∷ ys) x = at_last ys x

  elsewhere : (xs : List T) (x : T) (k : ℕ) → length xs ≢ k → slice_get (xs ++ x ∷ []) k ≡ slice_get xs k
  elsewhere [] x zero apart = absurd (apart refl)
  elsewhere [] x (suc k) apart = refl
  elsewhere (y ∷ ys) x zero apart = refl
  elsewhere (y ∷ ys) x (suc k) apart = elsewhere ys x k (λ e. apart (ap suc e))

  past : (xs : List T) (k : ℕ) → length xs ≡ k → slice_get xs k ≡ None
  past [] k e = refl
  past (x ∷ xs) zero e = absurd (omega (arith, e))
  past (x ∷ xs) (suc k) e = past xs k (omega (arith, e))

  -- ---- a list that is reversed

  abbrev pub turn : List T → List T
  turn [] = []
  turn (x ∷ xs) = turn xs ++ x ∷ []

  turn-last : (xs : List T) (x : T) → turn (xs ++ x ∷ []) ≡ x ∷ turn xs
  turn-last [] x = refl
  turn-last (y ∷ ys) x = ap (λ l. l ++ y ∷ []) (turn-last ys x)

  pub turn-turn : (xs : List T) → turn (turn xs) ≡ xs
  turn-turn [] = refl
  turn-turn (x ∷ xs) = turn-last (turn xs) x ∙ ap (λ l. x ∷ l) (turn-turn xs)

  pub length-turn : (xs : List T) → length (turn xs) ≡ length xs
  length-turn [] = refl
  length-turn (x ∷ xs) = longer (turn xs) x ∙ ap suc (length-turn xs)

  -- the items of a list that is reversed, by their places
  abbrev pub downward : List T → List (ℕ × T)
  downward [] = []
  downward (x ∷ xs) = (length xs, x) ∷ downward xs

  found : (xs : List T) (k : ℕ) → item_numbered k (downward xs) ≡ slice_get (turn xs) k
  found [] k = refl
  found (x ∷ xs) k =
      elim (eqb_tells (length xs) k) [
        | inl e ↦
            let here : item_numbered k (downward (x ∷ xs)) ≡ Some x = rw e.0 refl in
            here ∙ sym (at_last (turn xs) x) ∙ ap (λ n. slice_get (turn xs ++ x ∷ []) n) (length-turn xs ∙ e.1)
        | inr e ↦
            let there : item_numbered k (downward (x ∷ xs)) ≡ item_numbered k (downward xs) = rw e.0 refl in
            there ∙ found xs k ∙ sym (elsewhere (turn xs) x k (λ same. e.1 (sym (length-turn xs) ∙ same)))
      ]

  each_once : (xs : List T) → EachOnce (downward xs)
  each_once [] = tt
  each_once (x ∷ xs) = (found xs (length xs) ∙ past (turn xs) (length xs) (length-turn xs), each_once xs)

  -- items that come last first come each once
  pub arrive_once : (items : List T) → ArriveOnce items (downward (turn items))
  arrive_once items = record {
    found = λ k. found (turn items) k ∙ ap (λ l. slice_get l k) (turn-turn items);
    once = each_once (turn items);
  }
