-- The answer is the same for each number of workers, since an output is its item.
use Rattle.std.proofs.Common.{◌≡◌, ℕ, ◌<◌, sym, ap, ◌∙◌, rules, Result, Ok}
use Rattle.odb_base.specs.declared.no_memory.NoMemory.{NoMemory}
use Rattle.gix_features_workers.proofs.WorkersLaws.{one_answer}
use Rattle.feature_tests.specs.declared.sums.Sum.{Sum}
use Rattle.feature_tests.proofs.SumsLemmas.{one_list, each_below, one_for_both}
use Rattle.feature_tests.proofs.sums.sums.Goals as goal

-- a sum is fed in one way
one_given : (s t : Sum) (sum : ℕ) (x y : Result (Unit {0}) NoMemory) → (x ≡ Ok tt) × (s.total ≡ sum) → (y ≡ Ok tt) × (t.total ≡ sum) → (x ≡ y) × (s ≡ t)
one_given s t sum x y first second = (first.0 ∙ sym second.0, ap (λ (n : ℕ). record { total = n }) (first.1 ∙ sym second.1))

pub returns : goal.returns
returns g c = record {
  same = one_for_both _ _ _ _ _ _ _ _ c.in_parallel-first.ensures.answer c.in_parallel-second.ensures.answer (search rules) (search rules)
      (λ (n : ℕ). n < c.args.end) (each_below c.args.end) (λ (n : ℕ). n) (λ s t x o fits consumed. consumed.met) (one_list _)
      (λ os x y p q. one_answer _ _ (λ r s t o x y fed fed'. one_given s t _ x y fed fed') (λ r x y ends ends'. ends ∙ sym ends') os x y p q);
}
