-- The last exchange of a handle in events each turn of which had one: the event that had it is its last turn.
use Rattle.std.proofs.Common.{◌≡◌, ℕ, zero, suc, ◌+◌, ◌<◌, ◌≤◌, Bool, true, false, cond, List, [], ◌∷◌, ◌++◌, length, Option, Some, None, refl, sym, ap, ◌∙◌, subst, arith}
use Rattle.std.specs.Prelude.{slice_get, count_by, if◌then◌else◌}
use Rattle.std.specs.List.{cons_option, filter_map}
use Rattle.std.proofs.lemmas.List.Sums.{sum_by-cons}
use Rattle.gix_odb.specs.LookExchanges.{Exchange}
use Rattle.gix_odb_history.specs.Event.{Event}
use Rattle.gix_odb_world.specs.Told.{exchange_in, exchange_of}
use Rattle.gix_odb_history.specs.Turned.{is_turn_of}

not_empty : (earlier : List Exchange) (x : Exchange) → ¬ ([] ≡ earlier ++ x ∷ [])
not_empty [] x is = cc is
not_empty (y ∷ earlier) x is = cc is

zero_of : (b : Bool) (n : ℕ) → cond b 1 0 + n ≡ 0 → (b ≡ false) × (n ≡ 0)
zero_of true n is = absurd (omega (arith, is))
zero_of false n is = (refl, omega (arith, is))

few_by : (b : Bool) (o : Option Exchange) (rest : List Exchange) (n : ℕ) → length rest ≤ n → length (cons_option (if b then o else None) rest) ≤ cond b 1 0 + n
few_by true None rest n few = omega (arith, few)
few_by true (Some x) rest n few = omega (arith, few)
few_by false o rest n few = omega (arith, few)

module _ (handle : ℕ) where
  abbrev pub told : List Event → List Exchange
  told xs = filter_map (exchange_in handle) xs

  abbrev pub turned : List Event → ℕ
  turned xs = count_by (is_turn_of handle) xs

  turned-cons : (x : Event) (xs : List Event) → turned (x ∷ xs) ≡ cond (is_turn_of handle x) 1 0 + turned xs
  turned-cons x xs = sum_by-cons (λ (y : Event). cond (is_turn_of handle y) 1 0) x xs

  -- each turn has at most one exchange
  told_few : (xs : List Event) → length (told xs) ≤ turned xs
  told_few [] = omega arith
  told_few (x ∷ xs) =
      subst (λ (n : ℕ). length (told (x ∷ xs)) ≤ n) (sym (turned-cons x xs))
      (few_by (is_turn_of handle x) (exchange_of x.asked) (told xs) (turned xs) (told_few xs))

  none_turned : (xs : List Event) → turned xs ≡ 0 → (k : ℕ) (o : Event) → slice_get xs k ≡ Some o → is_turn_of handle o ≡ false
  none_turned [] none k o there = absurd (cc there)
  none_turned (x ∷ xs) none zero o there =
      let same : x ≡ o = cc there in
      ap (is_turn_of handle) (sym same) ∙ (zero_of (is_turn_of handle x) (turned xs) (sym (turned-cons x xs) ∙ none)).0
  none_turned (x ∷ xs) none (suc k) o there =
      none_turned xs (zero_of (is_turn_of handle x) (turned xs) (sym (turned-cons x xs) ∙ none)).1 k o there

  -- an event had this exchange, and no later one is a turn
  pub record LastTold (xs : List Event) (x : Exchange) : Type 0 where
    pub place : ℕ
    pub event : Event
    pub there : slice_get xs place ≡ Some event
    pub turn : is_turn_of handle event ≡ true
    pub told_it : exchange_of event.asked ≡ Some x
    pub after : (k : ℕ) (o : Event) → place < k → slice_get xs k ≡ Some o → is_turn_of handle o ≡ false

  after_first : (y : Event) (ys : List Event) → turned ys ≡ 0 → (k : ℕ) (o : Event) → 0 < k → slice_get (y ∷ ys) k ≡ Some o → is_turn_of handle o ≡ false
  after_first y ys none zero o before there = absurd (omega (arith, before))
  after_first y ys none (suc k) o before there = none_turned ys none k o there

  after_later : (y : Event) (ys : List Event) (x : Exchange) (last : LastTold ys x) (k : ℕ) (o : Event) → suc last.place < k → slice_get (y ∷ ys) k ≡ Some o
      → is_turn_of handle o ≡ false
  after_later y ys x last zero o before there = absurd (omega (arith, before))
  after_later y ys x last (suc k) o before there = last.after k o (omega (arith, before)) there

  later : (y : Event) (ys : List Event) (x : Exchange) → LastTold ys x → LastTold (y ∷ ys) x
  later y ys x last = record {
    place = suc last.place;
    event = last.event;
    there = last.there;
    turn = last.turn;
    told_it = last.told_it;
    after = after_later y ys x last;
  }

  -- it holds of a list where it holds of its first event and of the rest
  abbrev Ends : List Event → Type 0
  Ends ys = (earlier : List Exchange) (x : Exchange) → turned ys ≡ length (told ys) → told ys ≡ earlier ++ x ∷ [] → LastTold ys x

  by_head : (y : Event) (ys : List Event) → Ends ys → (b : Bool) → is_turn_of handle y ≡ b → (o : Option Exchange) → exchange_of y.asked ≡ o
      → (earlier : List Exchange) (x : Exchange) → cond b 1 0 + turned ys ≡ length (cons_option (if b then o else None) (told ys))
      → cons_option (if b then o else None) (told ys) ≡ earlier ++ x ∷ [] → LastTold (y ∷ ys) x
  by_head y ys rest false turn o asked earlier x count is = later y ys x (rest earlier x (omega (arith, count)) is)
  by_head y ys rest true turn None asked earlier x count is = let few = told_few ys in absurd (omega (arith, count, few))
  by_head y ys rest true turn (Some z) asked [] x count is =
      let same : z ≡ x = cc is in
      let none : told ys ≡ [] = cc is in
      let short : length (told ys) ≡ 0 = ap length none in
      let empty : turned ys ≡ 0 = omega (arith, count, short) in
      record {
        place = 0;
        event = y;
        there = refl;
        turn = turn;
        told_it = asked ∙ ap (λ (w : Exchange). Some w) same;
        after = after_first y ys empty;
      }
  by_head y ys rest true turn (Some z) asked (w ∷ earlier) x count is =
      let behind : told ys ≡ earlier ++ x ∷ [] = cc is in
      later y ys x (rest earlier x (omega (arith, count)) behind)

  pub last_told : (ys : List Event) → Ends ys
  last_told [] earlier x count is = absurd (not_empty earlier x is)
  last_told (y ∷ ys) earlier x count is =
      by_head y ys (last_told ys) (is_turn_of handle y) refl (exchange_of y.asked) refl earlier x (sym (turned-cons y ys) ∙ count) is
