-- Places that are marked iff they are listed.
use Rattle.std.proofs.Common.{◌≡◌, ℕ, ◌<◌, ◌≤◌, ◌⊎◌, inl, inr, Bool, false, nat_eq, List, length, get_or, All, sym, ◌∙◌, arith}
use Rattle.std.proofs.lemmas.Bool.{cases_lt}
use Rattle.std.proofs.lemmas.Bool.Decides.{nat_tests}
use Rattle.std.proofs.lemmas.List.{get_or_past}
use Rattle.std.proofs.lemmas.List.Elements.{All-weaker}
use Rattle.std.proofs.lemmas.List.Folds.{list_any_none}
use Rattle.gix_odb_events.specs.Places.{IsMarked}
use Rattle.gix_odb_events.specs.Shown.{is_listed}

nat_eq-beyond : (count k place : ℕ) → place < count → count ≤ k → nat_eq k place ≡ false
nat_eq-beyond count k place below beyond = grind (arith, nat_tests)

-- no place beyond all of the list is listed
pub is_listed-beyond : (list : List ℕ) (count k : ℕ) → All (λ place. place < count) list → count ≤ k → is_listed list k ≡ false
is_listed-beyond list count k below beyond =
    list_any_none (nat_eq k) list (All-weaker (λ place. place < count) (λ place. nat_eq k place ≡ false) (λ place small. nat_eq-beyond count k place small beyond) list below)

-- marks up to a number that no place of the list reaches
pub listed_marks : (list : List ℕ) (count : ℕ) (marks : List Bool) → All (λ place. place < count) list → length marks ≡ count
    → ((k : ℕ) → k < count → get_or marks k false ≡ is_listed list k) → IsMarked marks list
listed_marks list count marks below long marked k = by (cases_lt k count)
  where
    by : (k < count) ⊎ (count ≤ k) → get_or marks k false ≡ is_listed list k
    by (inl within) = marked k within
    by (inr beyond) = get_or_past marks k false (omega arith) ∙ sym (is_listed-beyond list count k below beyond)
