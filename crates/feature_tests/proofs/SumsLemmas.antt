-- Lemmas on sums: there is one way to draw the numbers, and two calls over them have one answer.
use Rattle.std.proofs.Common.{◌≡◌, ℕ, zero, suc, ◌+◌, ◌-◌, ◌<◌, ◌≤◌, List, ◌∷◌, sym, ap, ◌∙◌, subst, arith, Result, Ok, Err, Option}
use Rattle.std.specs.Prelude.{⊤, MatchOption}
use Rattle.std.specs.List.{range_with_len, AllByRecursion}
use Rattle.std.specs.Iterator.{Drains}
use Rattle.std.specs.declared.ops.Range.{Range}
use Rattle.gix_features_workers.specs.declared.calls.ParallelError.{ParallelError}
use Rattle.gix_features_workers.specs.declared.calls.ParallelError.TheVariants as parallel
use Rattle.gix_features_workers.specs.Workers.{AreMade}
use Rattle.gix_features_workers.specs.Reduced.{IfReduced, IsAnswer}
use Rattle.gix_features_workers.proofs.WorkersLaws.{drained, same_answers}

-- how a range of numbers is drawn, and what is left of it
abbrev pub steps_up : Range ℕ → Option ℕ → Range ℕ → Type 0
steps_up s r t = (t.end ≡ s.end) × MatchOption r ((s.end - s.start ≡ 0) × (t.start ≡ s.start)) (λ x. (0 < s.end - s.start) × (x ≡ s.start) × (t.start ≡ s.start + 1))

abbrev left_of : Range ℕ → List ℕ
left_of s = range_with_len s.start (s.end - s.start)

counted : (a n b m x : ℕ) → n ≡ suc m → x ≡ a → b ≡ a + 1 → range_with_len a n ≡ x ∷ range_with_len b m
counted a n b m x long first next = ap (range_with_len a) long ∙ ap (λ (l : List ℕ). a ∷ l) (ap (λ k. range_with_len k m) (sym next)) ∙ ap (λ k. k ∷ range_with_len b m) (sym first)

all_of : (range : Range ℕ) (xs : List ℕ) → Drains steps_up range xs → xs ≡ left_of range
all_of range xs all = drained steps_up left_of (λ s t stops. ap (range_with_len s.start) stops.1.0)
    (λ s t x goes. counted s.start (s.end - s.start) t.start (t.end - t.start) x (omega (arith, goes.0, goes.1.0, goes.1.2)) goes.1.1 goes.1.2) xs range all

-- the numbers of a range are drawn in one way
pub one_list : (range : Range ℕ) (xs ys : List ℕ) → Drains steps_up range xs → Drains steps_up range ys → xs ≡ ys
one_list range xs ys first second = all_of range xs first ∙ sym (all_of range ys second)

-- the numbers of a range are below its end
below : (end a n : ℕ) → a + n ≤ end → AllByRecursion (λ x. x < end) (range_with_len a n)
below end a zero few = tt
below end a (suc n) few = (omega (arith, few), below end (a + 1) n (omega (arith, few)))

pub each_below : (end : ℕ) (xs : List ℕ) → Drains steps_up (record { start = 0; end = end }) xs → AllByRecursion (λ x. x < end) xs
each_below end xs all = subst (AllByRecursion (λ x. x < end)) (sym (all_of (record { start = 0; end = end }) xs all)) (below end 0 (end - 0) (omega arith))

-- two answers, neither of which is out of memory
pub both_reduced : {A E : Type 0} {P Q : Result A E → Type 0} (a b : Result A (ParallelError E)) → IfReduced a P → IfReduced b Q
    → ((x y : Result A E) → P x → Q y → x ≡ y) → IfReduced a (λ x. IfReduced b (λ y. x ≡ y))
both_reduced (Ok x) (Ok y) p q same = same (Ok x) (Ok y) p q
both_reduced (Ok x) (Err (parallel.Reduce e)) p q same = same (Ok x) (Err e) p q
both_reduced (Ok x) (Err parallel.NoMemory) p q same = q
both_reduced (Err (parallel.Reduce e)) (Ok y) p q same = same (Err e) (Ok y) p q
both_reduced (Err (parallel.Reduce e)) (Err (parallel.Reduce f)) p q same = same (Err e) (Err f) p q
both_reduced (Err (parallel.Reduce e)) (Err parallel.NoMemory) p q same = q
both_reduced (Err parallel.NoMemory) b p q same = p

-- Two calls with workers of any two numbers have one answer, unless memory runs out: the law, for what the calls ensure.
pub one_for_both : {S T O A E : Type 0} (begins : ℕ → S → Type 0) (consumes : S → T → O → S → Type 0) (gives : List T → Type 0) (reduces : List O → Result A E → Type 0)
    (n m : ℕ) (a b : Result A (ParallelError E)) → IfReduced a (IsAnswer gives (AreMade begins consumes n) reduces) → IfReduced b (IsAnswer gives (AreMade begins consumes m) reduces)
    → 0 < n → 0 < m → (fits : T → Type 0) → ((xs : List T) → gives xs → AllByRecursion fits xs) → (makes : T → O) → ((s t : S) (x : T) (o : O) → fits x → consumes s x o t → o ≡ makes x)
    → ((xs ys : List T) → gives xs → gives ys → xs ≡ ys) → ((os : List O) (x y : Result A E) → reduces os x → reduces os y → x ≡ y) → IfReduced a (λ x. IfReduced b (λ y. x ≡ y))
one_for_both begins consumes gives reduces n m a b first second some some' fits all makes ignores one_way one_result =
    both_reduced a b first second (λ x y p q. same_answers begins consumes (λ _ _. ⊤) fits makes ignores gives reduces all one_way one_result n m x y some some' p q)
