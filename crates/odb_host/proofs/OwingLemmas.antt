-- The streams that owe a failure.
use Rattle.std.proofs.Common.{◌≡◌, ℕ, Bool, true, false, not, nat_eq, ne_eqb, eqb-true, eq-eqb, ◌||◌, ◌++◌, List, [], ◌∷◌, refl, sym, ap, ◌∙◌}
use Rattle.std.specs.List.{filter}
use Rattle.std.proofs.lemmas.List.Folds.{list_any-append}
use Rattle.std.proofs.lemmas.Map.Views.{any-filter_same}
use Rattle.odb_host.specs.HostDisk.{owes_failure, OthersOwe}

-- a stream that is forgotten owes none
pub forgets : (owing left : List ℕ) (dir : ℕ) → left ≡ filter (λ n. not (nat_eq n dir)) owing → owes_failure left dir ≡ false
forgets owing left dir kept = ap (λ xs. owes_failure xs dir) kept ∙ any-filter_same (λ n. nat_eq n dir) (λ n. not (nat_eq n dir)) false (λ n is. ap not is) owing

-- and the others owe what they did
pub others_owe : (owing left : List ℕ) (dir : ℕ) → left ≡ filter (λ n. not (nat_eq n dir)) owing → OthersOwe dir owing left
others_owe owing left dir kept = λ number other.
    ap (λ xs. owes_failure xs number) kept
    ∙ any-filter_same (λ n. nat_eq n number) (λ n. not (nat_eq n dir)) true (λ n is. ap not (ne_eqb n dir (λ same. other (sym (eqb-true n number is) ∙ same)))) owing

-- one that owes a failure from now on, and the others owe what they did
pub owes_pushed : (owing : List ℕ) (dir : ℕ) → owes_failure (owing ++ dir ∷ []) dir ≡ true
owes_pushed owing dir =
    list_any-append (λ n. nat_eq n dir) owing (dir ∷ []) ∙ ap (λ b. owes_failure owing dir || (b || false)) (eq-eqb dir dir refl) ∙ or_true (owes_failure owing dir)
  where
    or_true : (b : Bool) → (b || true) ≡ true
    or_true true = refl
    or_true false = refl

pub others_pushed : (old owing : List ℕ) (dir : ℕ) → OthersOwe dir old owing → OthersOwe dir old (owing ++ dir ∷ [])
others_pushed old owing dir others = λ number other.
    list_any-append (λ n. nat_eq n number) owing (dir ∷ [])
    ∙ ap (λ b. owes_failure owing number || (b || false)) (ne_eqb dir number (λ same. other (sym same)))
    ∙ or_false (owes_failure owing number) ∙ others number other
  where
    or_false : (b : Bool) → (b || false) ≡ b
    or_false true = refl
    or_false false = refl
