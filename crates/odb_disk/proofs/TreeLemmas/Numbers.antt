-- Laws of inode numbers: the least that no node has.
use Rattle.std.proofs.Common.{◌≡◌, ◌≢◌, ◌⊎◌, ℕ, zero, suc, ◌+◌, ◌<◌, ◌≤◌, ◌==◌, max, fold, unwrap_or, Bool, true, false}
use Rattle.std.proofs.Common.{not, cond, List, [], ◌∷◌, Some, None, refl, sym, ap, ◌∙◌, inl, inr, eqb-true, arith}
use Rattle.std.specs.List.{list_any, find, range_with_len}
use Rattle.std.proofs.lemmas.Bool.{false≢true, not-true, or_cases, false_from_ne_true, cases_eq, cases_lt}
use Rattle.odb_disk.specs.Tree.{Tree, node_at, inode_numbers}
use Rattle.odb_disk.specs.Tree.Change.{is_taken, least_free, greatest_number}
use Rattle.odb_disk.specs.declared.node.Node.{Node}
use Rattle.odb_disk.proofs.TreeLemmas.{is_taken-node_at}

-- ---- the least free number

pub find_in_range : (test : ℕ → Bool) (len start f : ℕ) → start ≤ f → f < start + len → test f ≡ true → ((n : ℕ) → start ≤ n → n < f → test n ≡ false) → find test (range_with_len start len) ≡ Some f
find_in_range test zero start f low high is before = absurd (omega arith)
find_in_range test (suc len) start f low high is before =
    elim (cases_eq start f) [
      | inl same ↦ ap (λ b. cond b (Some start) (find test (range_with_len (start + 1) len))) (ap test same ∙ is) ∙ ap Some same
      | inr other ↦
          ap (λ b. cond b (Some start) (find test (range_with_len (start + 1) len))) (before start (omega arith) (omega arith))
          ∙ find_in_range test len (start + 1) f (omega arith) (omega arith) is (λ n from_start below. before n (omega arith) below)
    ]

pub none_in_range : (test : ℕ → Bool) (len start : ℕ) → ((n : ℕ) → start ≤ n → n < start + len → test n ≡ false) → find test (range_with_len start len) ≡ None
none_in_range test zero start none = refl
none_in_range test (suc len) start none =
    ap (λ b. cond b (Some start) (find test (range_with_len (start + 1) len))) (none start (omega arith) (omega arith))
    ∙ none_in_range test len (start + 1) (λ n low high. none n (omega arith) (omega arith))

fold_max-from : (a : ℕ) (ns : List ℕ) → a ≤ fold max a ns
fold_max-from a [] = omega arith
fold_max-from a (n ∷ ns) = let h = fold_max-from (max a n) ns in omega arith

pub fold_max-le : (a : ℕ) (ns : List ℕ) (k : ℕ) → list_any (λ n. n == k) ns ≡ true → k ≤ fold max a ns
fold_max-le a [] k any = absurd (false≢true any)
fold_max-le a (n ∷ ns) k any =
    let later : list_any (λ m. m == k) ns ≡ true → k ≤ fold max (max a n) ns = fold_max-le (max a n) ns k in
    elim (or_cases _ _ any) [
      | inl own ↦ let e = eqb-true n k own in let h = fold_max-from (max a n) ns in omega arith
      | inr rest ↦ later rest
    ]

pub least_free_is : (t : Tree) (f : ℕ) → 0 < f → is_taken t f ≡ false → ((n : ℕ) → 0 < n → n < f → is_taken t n ≡ true) → least_free t ≡ f
unfolding least_free
least_free_is t f low unused before =
    let g = greatest_number t in
    let bound : (n : ℕ) → is_taken t n ≡ true → n ≤ g = λ n taken. fold_max-le 0 (inode_numbers t) n taken in
    elim (cases_le f g) [
      | inl inside ↦ ap (λ o. unwrap_or o (g + 1)) (find_in_range (λ n. not (is_taken t n)) g 1 f (omega arith) (omega arith) (ap not unused) (λ n above below. ap not (before n (omega arith) below)))
      | inr past ↦
          let all : (n : ℕ) → 1 ≤ n → n < 1 + g → not (is_taken t n) ≡ false = λ n above below. ap not (before n (omega arith) (omega arith)) in
          ap (λ o. unwrap_or o (g + 1)) (none_in_range (λ n. not (is_taken t n)) g 1 all)
          ∙ elim (cases_eq (g + 1) f) [
            | inl same ↦ same
            | inr other ↦ absurd (let over = bound (g + 1) (before (g + 1) (omega arith) (omega arith)) in omega arith)
          ]
    ]
  where
    cases_le : (a b : ℕ) → (a ≤ b) ⊎ (b < a)
    cases_le a b = elim (cases_lt b a) [ inl lt ↦ inr lt | inr le ↦ inl le ]

found_passes : (test : ℕ → Bool) (ns : List ℕ) (n : ℕ) → find test ns ≡ Some n → test n ≡ true
found_passes test [] n is = cc
found_passes test (m ∷ ns) n is =
    let later : find test ns ≡ Some n → test n ≡ true = found_passes test ns n in
    elim (test m) as (λ b. test m ≡ b → cond b (Some m) (find test ns) ≡ Some n → test n ≡ true) [
      | true ↦ λ passes e. let same : m ≡ n = cc in ap test (sym same) ∙ passes
      | false ↦ λ _ e. later e
    ] refl is

-- no node has the least free number
pub least_free-not_taken : (t : Tree) → is_taken t (least_free t) ≡ false
unfolding least_free
least_free-not_taken t =
    let g = greatest_number t in
    let test = λ (n : ℕ). not (is_taken t n) in
    elim (find test (range_with_len 1 g)) as (λ o. find test (range_with_len 1 g) ≡ o → is_taken t (unwrap_or o (g + 1)) ≡ false) [
      | None ↦ λ _. false_from_ne_true _ (λ taken. let over : g + 1 ≤ g = fold_max-le 0 (inode_numbers t) (g + 1) taken in omega arith)
      | Some n ↦ λ is. not-true _ (found_passes test (range_with_len 1 g) n is)
    ] refl

pub least_free-fresh : (t : Tree) (q : List (List ℕ)) (k : Node) → node_at t q ≡ Some k → k.ino ≢ least_free t
least_free-fresh t q k at same = false≢true (sym (least_free-not_taken t) ∙ ap (is_taken t) (sym same) ∙ is_taken-node_at t q k at)
