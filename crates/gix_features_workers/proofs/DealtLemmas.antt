-- Lemmas on shares of items, dealt and merged in turn.
use Rattle.std.proofs.Common.{◌≡◌, ◌≢◌, ℕ, suc, ◌-◌, ◌<◌, ◌≤◌, ◌==◌, ◌⊎◌, inl, inr, ⊎_elim, List, [], ◌∷◌, ◌++◌, length, get_or, set, refl, sym, ap, ◌∙◌, arith, if◌then◌else◌, append_assoc, Option, Some, None}
use Rattle.std.proofs.lemmas.Bool.{cases_lt}
use Rattle.std.proofs.lemmas.Bool.Decides.{nat_tests}
use Rattle.std.proofs.lemmas.List.{get_or-set_same, get_or-set_other, length-set, nil_from_length, append-nil}
use Rattle.std.specs.declared.vec.IntoIter.{IntoIter}
use Rattle.std.specs.Vec.Iter.{into_iter_deque, into_iter_items, into_iter_steps}
use Rattle.gix_features_workers.specs.declared.deal.Job.{Job}
use Rattle.gix_features_workers.specs.Workers.{share}
use Rattle.gix_features_workers.specs.Dealt.{turn_after, turns_before, HaveNone, AreDealing, AreDealt, AreShares}

pub eq_or_ne : (m n : ℕ) → (m ≡ n) ⊎ (m ≢ n)
eq_or_ne m n = ⊎_elim (λ (h : m < n). inr (λ e. absurd (omega arith)))
    (λ (h : n ≤ m). ⊎_elim (λ (k : n < m). inr (λ e. absurd (omega arith))) (λ (k : m ≤ n). inl (omega arith)) (cases_lt n m)) (cases_lt m n)

-- ---- turns

turns-mine : (n turn : ℕ) → turn < n → turns_before n turn turn ≡ 0
turns-mine n turn h = grind (arith, nat_tests)

turns-again : (n turn : ℕ) → turn < n → turns_before n (turn_after n turn) turn ≡ n - 1
turns-again n turn h = grind (arith, nat_tests)

turns-other : (n turn k : ℕ) → turn < n → k < n → k ≢ turn → turns_before n turn k ≡ suc (turns_before n (turn_after n turn) k)
turns-other n turn k h b other = grind (arith, nat_tests)

pub turns-first : (n k : ℕ) → turns_before n 0 k ≡ k
turns-first n k = grind (arith, nat_tests)

pub turn_after-lt : (n turn : ℕ) → turn < n → turn_after n turn < n
turn_after-lt n turn h = grind (arith, nat_tests)

module _ {T : Type 0} (n turn : ℕ) (x : T) (xs : List T) where
  -- the worker whose turn it is has the next item, and the others wait one turn less
  pub share-mine : turn < n → share n (turns_before n turn turn) (x ∷ xs) ≡ x ∷ share n (turns_before n (turn_after n turn) turn) xs
  share-mine h = ap (λ k. share n k (x ∷ xs)) (turns-mine n turn h) ∙ ap (λ k. x ∷ share n k xs) (sym (turns-again n turn h))

  pub share-other : (k : ℕ) → turn < n → k < n → k ≢ turn → share n (turns_before n turn k) (x ∷ xs) ≡ share n (turns_before n (turn_after n turn) k) xs
  share-other k h b other = ap (λ i. share n i (x ∷ xs)) (turns-other n turn k h b other)

-- ---- items that are dealt

module _ {T : Type 0} (n : ℕ) where
  pub AreDealing-none : (jobs : List (Job T)) → 0 < n → HaveNone n jobs → AreDealing n 0 [] jobs
  AreDealing-none jobs some none = record {
    in_turn = some;
    workers = none.workers;
    each = λ k d b.
        let mine = none.each k d b in
        (mine.0, λ rest. ap (λ i. share n i rest) (sym (turns-first n k)) ∙ ap (λ (l : List T). l ++ share n (turns_before n 0 k) rest) (sym mine.1));
  }

  pub AreDealing-more : (turn : ℕ) (given : List T) (x : T) (jobs : List (Job T)) (before after : Job T) → AreDealing n turn given jobs
      → before ≡ get_or jobs turn before → after.worker ≡ before.worker → after.items.items ≡ before.items.items ++ x ∷ []
      → AreDealing n (turn_after n turn) (given ++ x ∷ []) (set jobs turn after)
  AreDealing-more turn given x jobs before after dealing is same more =
      let old = dealing.each turn before dealing.in_turn in
      let within : turn < length jobs = omega (arith, dealing.in_turn, dealing.workers) in
      record {
        in_turn = turn_after-lt n turn dealing.in_turn;
        workers = length-set jobs turn after ∙ dealing.workers;
        each = λ k d b. ⊎_elim (λ (e : k ≡ turn).
            let at : get_or (set jobs turn after) k d ≡ after = ap (λ i. get_or (set jobs turn after) i d) e ∙ get_or-set_same jobs turn after d within in (
              ap (λ (j : Job T). j.worker) at ∙ same ∙ ap (λ (j : Job T). j.worker) is ∙ old.0 ∙ sym e,
              λ rest.
                  ap (share n k) (append_assoc given (x ∷ []) rest) ∙ ap (λ i. share n i (given ++ x ∷ rest)) e ∙ old.1 (x ∷ rest)
                  ∙ ap (λ (j : Job T). j.items.items ++ share n (turns_before n turn turn) (x ∷ rest)) (sym is)
                  ∙ ap (λ (l : List T). before.items.items ++ l) (share-mine n turn x rest dealing.in_turn)
                  ∙ sym (append_assoc before.items.items (x ∷ []) (share n (turns_before n (turn_after n turn) turn) rest))
                  ∙ ap (λ (l : List T). l ++ share n (turns_before n (turn_after n turn) turn) rest) (sym more)
                  ∙ ap (λ (j : Job T). j.items.items ++ share n (turns_before n (turn_after n turn) turn) rest) (sym at)
                  ∙ ap (λ i. (get_or (set jobs turn after) k d).items.items ++ share n (turns_before n (turn_after n turn) i) rest) (sym e),
            ))
            (λ (other : k ≢ turn).
            let at : get_or (set jobs turn after) k d ≡ get_or jobs k d = get_or-set_other jobs turn k after d other in
            let mine = dealing.each k d b in (
              ap (λ (j : Job T). j.worker) at ∙ mine.0,
              λ rest.
                  ap (share n k) (append_assoc given (x ∷ []) rest) ∙ mine.1 (x ∷ rest)
                  ∙ ap (λ (l : List T). (get_or jobs k d).items.items ++ l) (share-other n turn x rest k dealing.in_turn b other)
                  ∙ ap (λ (j : Job T). j.items.items ++ share n (turns_before n (turn_after n turn) k) rest) (sym at),
            )) (eq_or_ne k turn);
      }

  pub AreDealt-all : (turn : ℕ) (items : List T) (jobs : List (Job T)) → AreDealing n turn items jobs → AreDealt n items jobs
  AreDealt-all turn items jobs dealing = record {
    workers = dealing.workers;
    each = λ k d b.
        let mine = dealing.each k d b in
        (mine.0, sym (append-nil _) ∙ sym (mine.1 []) ∙ ap (share n k) (append-nil items));
  }

-- ---- outputs that are merged

-- a stream that gave nothing had nothing left
pub into_iter-end : {O A : Type 0} (s t : IntoIter O A) (r : Option O) → ((x : O) → r ≡ Some x → ⊥) → into_iter_steps s r t → into_iter_items s ≡ []
into_iter-end s t None not steps = nil_from_length (into_iter_items s) (sym (into_iter_deque s).ok.0 ∙ steps.0)
into_iter-end s t (Some x) not steps = absurd (not x refl)

-- and has nothing left afterwards
pub into_iter-left : {O A : Type 0} (s t : IntoIter O A) (r : Option O) → ((x : O) → r ≡ Some x → ⊥) → into_iter_steps s r t → into_iter_items t ≡ []
into_iter-left s t None not steps = nil_from_length (into_iter_items t) (sym (into_iter_deque t).ok.0 ∙ steps.1)
into_iter-left s t (Some x) not steps = absurd (not x refl)

module _ {O A : Type 0} (n turn : ℕ) (streams : List (IntoIter O A)) where
  pub AreShares-more : (left : List O) (o : O) (before after : IntoIter O A) → AreShares n turn left streams → before ≡ get_or streams turn before
      → into_iter_items before ≡ o ∷ into_iter_items after
      → (rest : List O) × (left ≡ o ∷ rest) × AreShares n (turn_after n turn) rest (set streams turn after)
  AreShares-more [] o before after shares is gives =
      let mine : into_iter_items before ≡ [] = ap into_iter_items is ∙ shares.each turn before shares.in_turn in
      absurd (cc (gives, mine))
  AreShares-more (x ∷ rest) o before after shares is gives =
      let mine : into_iter_items before ≡ x ∷ share n (turns_before n (turn_after n turn) turn) rest =
      ap into_iter_items is ∙ shares.each turn before shares.in_turn ∙ share-mine n turn x rest shares.in_turn in
      let same : x ≡ o = cc (gives, mine) in
      let others : into_iter_items after ≡ share n (turns_before n (turn_after n turn) turn) rest = cc (gives, mine) in
      let within : turn < length streams = omega (arith, shares.in_turn, shares.workers) in (
        rest,
        ap (λ y. y ∷ rest) same,
        record {
          in_turn = turn_after-lt n turn shares.in_turn;
          workers = length-set streams turn after ∙ shares.workers;
          each = λ k d b. ⊎_elim (λ (e : k ≡ turn).
              let at : get_or (set streams turn after) k d ≡ after = ap (λ i. get_or (set streams turn after) i d) e ∙ get_or-set_same streams turn after d within in
              ap into_iter_items at ∙ others ∙ ap (λ i. share n (turns_before n (turn_after n turn) i) rest) (sym e))
              (λ (other : k ≢ turn). ap into_iter_items (get_or-set_other streams turn k after d other) ∙ shares.each k d b
              ∙ share-other n turn x rest k shares.in_turn b other) (eq_or_ne k turn);
        },
      )

  pub AreShares-end : (left : List O) (before : IntoIter O A) → AreShares n turn left streams → before ≡ get_or streams turn before
      → into_iter_items before ≡ [] → left ≡ []
  AreShares-end [] before shares is none = refl
  AreShares-end (x ∷ rest) before shares is none =
      let mine : into_iter_items before ≡ x ∷ share n (turns_before n (turn_after n turn) turn) rest =
      ap into_iter_items is ∙ shares.each turn before shares.in_turn ∙ share-mine n turn x rest shares.in_turn in
      absurd (cc (none, mine))

-- ---- lists that are the shares of one

at_first : {O : Type 0} (l : List O) (m : ℕ) → length l ≡ suc m → (o : O) × (os : List O) × (l ≡ o ∷ os) × (length os ≡ m)
at_first [] m e = absurd (omega (arith, e))
at_first (o ∷ os) m e = (o, os, refl, omega (arith, e))

-- lists that are as long as the shares of a list are the shares of one list
pub woven : {T O : Type 0} (n : ℕ) (xs : List T) (turn : ℕ) (f : ℕ → List O) → turn < n
    → ((k : ℕ) → k < n → length (f k) ≡ length (share n (turns_before n turn k) xs))
    → (os : List O) × (length os ≡ length xs) × ((k : ℕ) → k < n → share n (turns_before n turn k) os ≡ f k)
woven n [] turn f h long = ([], refl, λ k b. sym (nil_from_length (f k) (long k b)))
woven {T} {O} n (x ∷ xs) turn f h long =
    let next = turn_after n turn in
    let mine = at_first (f turn) (length (share n (turns_before n next turn) xs)) (long turn h ∙ ap length (share-mine n turn x xs h)) in
    let g : ℕ → List O = λ k. if k == turn then mine.1 else f k in
    let g-mine : (k : ℕ) → k ≡ turn → g k ≡ mine.1 = λ k e. grind (arith, nat_tests) in
    let g-other : (k : ℕ) → k ≢ turn → g k ≡ f k = λ k other. grind (arith, nat_tests) in
    let rest = woven n xs next g (turn_after-lt n turn h) (λ k b. ⊎_elim
    (λ (e : k ≡ turn). ap length (g-mine k e) ∙ mine.3 ∙ ap (λ i. length (share n (turns_before n next i) xs)) (sym e))
    (λ (other : k ≢ turn). ap length (g-other k other) ∙ long k b ∙ ap length (share-other n turn x xs k h b other)) (eq_or_ne k turn)) in (
      mine.0 ∷ rest.0,
      ap suc rest.1,
      λ k b. ⊎_elim
          (λ (e : k ≡ turn).
          ap (λ i. share n (turns_before n turn i) (mine.0 ∷ rest.0)) e ∙ share-mine n turn mine.0 rest.0 h
          ∙ ap (λ (l : List O). mine.0 ∷ l) (rest.2 turn h ∙ g-mine turn refl) ∙ sym mine.2 ∙ ap f (sym e))
          (λ (other : k ≢ turn). share-other n turn mine.0 rest.0 k h b other ∙ rest.2 k b ∙ g-other k other) (eq_or_ne k turn),
    )
