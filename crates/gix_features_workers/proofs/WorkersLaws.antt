-- What follows for callers from what workers make of items.
use Rattle.std.proofs.Common.{◌≡◌, ◌≢◌, ℕ, zero, suc, ◌+◌, ◌-◌, ◌*◌, ◌<◌, ◌≤◌, Bool, true, false, List, [], ◌∷◌, length, map, get_or, refl, sym, ap, ◌∙◌, subst, arith, ◌⊎◌, inl, inr, ⊎_elim, if◌then◌else◌, Result, Ok, Err, Option, Some, None}
use Rattle.std.specs.List.{AllByRecursion}
use Rattle.std.specs.Iterator.{Drains}
use Rattle.std.proofs.lemmas.Bool.{cases_lt}
use Rattle.std.proofs.lemmas.List.{length-map, nil_from_length}
use Rattle.gix_features_workers.specs.Workers.{share, Works, AreWorked}
use Rattle.gix_features_workers.specs.Reduced.{Reduces, IsAnswer, IsChosen}
use Rattle.gix_features_workers.specs.Dealt.{turn_after, turns_before}
use Rattle.gix_features_workers.proofs.DealtLemmas.{eq_or_ne, turns-first, turn_after-lt, share-mine, share-other}

-- the j-th item of worker k's share is item k + j * n
pub share-place : {T : Type 0} (n : ℕ) → 0 < n → (k : ℕ) (items : List T) (j : ℕ) (d : T) → get_or (share n k items) j d ≡ get_or items (k + j * n) d
share-place n some k [] j d = refl
share-place n some zero (x ∷ xs) zero d = ap (λ i. get_or (x ∷ xs) i d) (let e : 0 ≡ 0 + 0 * n = omega arith in e)
share-place n some zero (x ∷ xs) (suc j) d = share-place n some (n - 1) xs j d
    ∙ ap (λ i. get_or (x ∷ xs) i d) (let e : suc ((n - 1) + j * n) ≡ 0 + suc j * n = grind (arith, some) in e)
share-place n some (suc k) (x ∷ xs) j d = share-place n some k xs j d ∙ ap (λ i. get_or (x ∷ xs) i d) (let e : suc (k + j * n) ≡ suc k + j * n = omega arith in e)

-- one worker's share is all of the items
pub share-one : {T : Type 0} (items : List T) → share 1 0 items ≡ items
share-one [] = refl
share-one (x ∷ xs) = ap (λ l. x ∷ l) (share-one xs)

pub share-map : {T O : Type 0} (f : T → O) (n k : ℕ) (items : List T) → share n k (map f items) ≡ map f (share n k items)
share-map f n k [] = refl
share-map f n zero (x ∷ xs) = ap (λ l. f x ∷ l) (share-map f n (n - 1) xs)
share-map f n (suc k) (x ∷ xs) = share-map f n k xs

-- lists with the same shares are the same
pub same_from_shares : {T : Type 0} (n turn : ℕ) (xs ys : List T) → turn < n → length xs ≡ length ys
    → ((k : ℕ) → k < n → share n (turns_before n turn k) xs ≡ share n (turns_before n turn k) ys) → xs ≡ ys
same_from_shares n turn [] ys h long same = sym (nil_from_length ys (sym long))
same_from_shares n turn (x ∷ xs) [] h long same = absurd (omega (arith, long))
same_from_shares {T} n turn (x ∷ xs) (y ∷ ys) h long same =
    let mine : x ∷ share n (turns_before n (turn_after n turn) turn) xs ≡ y ∷ share n (turns_before n (turn_after n turn) turn) ys =
    sym (share-mine n turn x xs h) ∙ same turn h ∙ share-mine n turn y ys h in
    let first : x ≡ y = cc mine in
    let shorter : length xs ≡ length ys = omega (arith, long) in
    let rest = same_from_shares n (turn_after n turn) xs ys (turn_after-lt n turn h) shorter (λ k b. ⊎_elim
    (λ (e : k ≡ turn). subst (λ i. share n (turns_before n (turn_after n turn) i) xs ≡ share n (turns_before n (turn_after n turn) i) ys) (sym e) (cc mine))
    (λ (other : k ≢ turn). sym (share-other n turn x xs k h b other) ∙ same k b ∙ share-other n turn y ys k h b other) (eq_or_ne k turn)) in
    ap (λ a. a ∷ xs) first ∙ ap (λ (l : List T). y ∷ l) rest

-- what holds of each item holds of each item of a share
pub share-All : {T : Type 0} (P : T → Type 0) (n k : ℕ) (items : List T) → AllByRecursion P items → AllByRecursion P (share n k items)
share-All P n k [] all = tt
share-All P n zero (x ∷ xs) all = (all.0, share-All P n (n - 1) xs all.1)
share-All P n (suc k) (x ∷ xs) all = share-All P n k xs all.1

element_of : {X : Type 0} (xs : List X) (k : ℕ) → k < length xs → X
element_of [] k b = absurd (omega (arith, b))
element_of (x ∷ xs) k b = x

-- Of items that may be passed, as numbers within the range of their type, an output follows from its item alone.
module _ {S T O L : Type 0} (begins : ℕ → S → Type 0) (consumes : S → T → O → S → Type 0) (ends : S → L → Type 0) (fits : T → Type 0) (makes : T → O)
    (ignores : (s t : S) (x : T) (o : O) → fits x → consumes s x o t → o ≡ makes x) where
  Works-map : {t : S} (xs : List T) (os : List O) {s : S} → AllByRecursion fits xs → Works consumes s xs os t → os ≡ map makes xs
  Works-map [] [] all Works.Done = refl
  Works-map [] (o ∷ os) all none = elim none [ ]
  Works-map (x ∷ xs) [] all none = elim none [ ]
  Works-map (x ∷ xs) (o ∷ os) all (Works.Next first rest) = ap (λ p. p ∷ os) (ignores _ _ x o all.0 first) ∙ ap (λ (l : List O). makes x ∷ l) (Works-map xs os all.1 rest)

  -- If an output follows from its item alone, the outputs are the same for each number of workers.
  pub same_outputs : (n : ℕ) (items : List T) (outputs : List O) (lasts : List L) → 0 < n → AllByRecursion fits items → AreWorked begins consumes ends n items outputs lasts → outputs ≡ map makes items
  same_outputs n items outputs lasts some all worked = same_from_shares n 0 outputs (map makes items) some (worked.one_each ∙ sym (length-map items makes))
      (λ k b.
      let there = element_of lasts k (omega (arith, worked.workers, b)) in
      let one = worked.each k there b in
      ap (λ i. share n i outputs) (turns-first n k) ∙ Works-map (share n k items) (share n k outputs) (share-All fits n k items all) one.worked ∙ sym (share-map makes n k items)
      ∙ ap (λ i. share n i (map makes items)) (sym (turns-first n k)))

  -- So the answer is the result of a reducer that is fed these outputs.
  pub answer_of_outputs : {A : Type 0} (gives : List T → Type 0) (reduces : List O → A → Type 0) → ((xs : List T) → gives xs → AllByRecursion fits xs) → (n : ℕ) (answer : A) → 0 < n
      → IsAnswer gives (AreWorked begins consumes ends n) reduces answer → (items : List T) × gives items × reduces (map makes items) answer
  answer_of_outputs gives reduces all n answer some is =
      (is.items, is.given, subst (λ (l : List O). reduces l answer) (same_outputs n is.items is.outputs is.lasts some (all is.items is.given) is.worked) is.reduced)

  -- If there is one way to draw the items and one to reduce outputs too, the answer is the same for each number of workers.
  pub same_answers : {A : Type 0} (gives : List T → Type 0) (reduces : List O → A → Type 0) → ((xs : List T) → gives xs → AllByRecursion fits xs)
      → ((xs ys : List T) → gives xs → gives ys → xs ≡ ys) → ((os : List O) (a b : A) → reduces os a → reduces os b → a ≡ b) → (n m : ℕ) (a b : A) → 0 < n → 0 < m
      → IsAnswer gives (AreWorked begins consumes ends n) reduces a → IsAnswer gives (AreWorked begins consumes ends m) reduces b → a ≡ b
  same_answers gives reduces all one_list one_answer n m a b some some' is is' =
      let first = answer_of_outputs gives reduces all n a some is in
      let second = answer_of_outputs gives reduces all m b some' is' in
      one_answer (map makes first.0) a b first.2
      (subst (λ (l : List T). reduces (map makes l) b) (one_list second.0 first.0 second.1 first.1) second.2)

-- ---- one answer of a reducer

given_and_failed : {P E : Type 0} (given : P) (error : E) → ◌≡◌ {A = Result P E} (Ok given) (Err error) → ⊥
given_and_failed given error same = cc same

same_failure : {P A E : Type 0} (e f : E) → ◌≡◌ {A = Result P E} (Err e) (Err f) → ◌≡◌ {A = Result A E} (Err e) (Err f)
same_failure e f same = let is : e ≡ f = cc same in ap Err is

-- A reducer that gives one thing for each value, and has one result at its end, has one answer to outputs.
module _ {R O P A E : Type 0} (feeds : R → O → Result P E → R → Type 0) (comes_to : R → Result A E → Type 0)
    (one_given : (r s t : R) (o : O) (x y : Result P E) → feeds r o x s → feeds r o y t → (x ≡ y) × (s ≡ t))
    (one_end : (r : R) (x y : Result A E) → comes_to r x → comes_to r y → x ≡ y) where
  pub one_answer : (os : List O) {r : R} (a b : Result A E) → Reduces feeds comes_to r os a → Reduces feeds comes_to r os b → a ≡ b
  one_answer [] a b (Reduces.Ends ends) (Reduces.Ends ends') = one_end _ a b ends ends'
  one_answer (o ∷ os) a b (Reduces.Feeds {s = s} {given = x} fed rest) (Reduces.Feeds {s = t} {given = y} fed' rest') =
      let same = one_given _ s t o (Ok x) (Ok y) fed fed' in
      one_answer os a b rest (subst (λ (r : R). Reduces feeds comes_to r os b) (sym same.1) rest')
  one_answer (o ∷ os) a b (Reduces.Feeds {s = s} {given = x} fed rest) (Reduces.Fails {s = t} {error = e} failed) =
      absurd (given_and_failed x e (one_given _ s t o (Ok x) (Err e) fed failed).0)
  one_answer (o ∷ os) a b (Reduces.Fails {s = s} {error = e} failed) (Reduces.Feeds {s = t} {given = y} fed rest) =
      absurd (given_and_failed y e (sym (one_given _ s t o (Err e) (Ok y) failed fed).0))
  one_answer (o ∷ os) a b (Reduces.Fails {s = s} {error = e} failed) (Reduces.Fails {s = t} {error = f} failed') =
      same_failure e f (one_given _ s t o (Err e) (Err f) failed failed').0

-- ---- one way to draw items

-- An iterator that shows what is left gives just that.
pub drained : {I T : Type 0} (steps : I → Option T → I → Type 0) (rest : I → List T) → ((s t : I) → steps s None t → rest s ≡ [])
    → ((s t : I) (x : T) → steps s (Some x) t → rest s ≡ x ∷ rest t) → (xs : List T) (s : I) → Drains steps s xs → xs ≡ rest s
drained steps rest stop go [] s all = sym (ap rest all.1.1 ∙ stop all.1.0 all.0 all.1.2)
drained steps rest stop go (x ∷ xs) s all =
    ap (λ l. x ∷ l) (drained steps rest stop go xs all.1.1.0 (all.0, (all.1.0, all.1.1.2, all.1.2))) ∙ sym (go s all.1.1.0 x all.1.1.1)

-- if the condition doesn't hold there is one worker
few_or_more : (n : ℕ) → (n ≤ 1) ⊎ (1 < n)
few_or_more n = ⊎_elim (λ (h : 1 < n). inr h) (λ (h : n ≤ 1). inl h) (cases_lt 1 n)

alone : (answers : Bool → Type 0) (most chosen : ℕ) → (answers true → ⊥) → (yes : Bool) → answers yes → chosen ≡ (if yes then most else 1) → chosen ≡ 1
alone answers most chosen never true answered is = absurd (never answered)
alone answers most chosen never false answered is = is

pub one_worker : (answers : Bool → Type 0) (most chosen : ℕ) → 0 < most → (answers true → ⊥) → IsChosen answers most chosen → chosen ≡ 1
one_worker answers most chosen some never is = ⊎_elim (λ (few : most ≤ 1). is.one few)
    (λ (more : 1 < most). let asked = is.asked more in alone answers most chosen never asked.0 asked.1 asked.2) (few_or_more most)
