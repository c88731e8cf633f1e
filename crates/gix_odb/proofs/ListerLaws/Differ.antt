-- Lists of things of which no two are the same.
use Rattle.std.proofs.Common.{◌≡◌, inl, inr, ℕ, ◌<◌, Bool, true, false, cond, List, [], ◌∷◌, ◌++◌, slice_get, get_or, Contains, Some, map, refl, sym, ap, ◌∙◌, subst}
use Rattle.std.specs.List.{AllByRecursion, IsDistinct, filter}
use Rattle.std.proofs.lemmas.Bool.{false_from_ne_true}
use Rattle.std.proofs.lemmas.List.Elements.{Contains-append_cases, Contains-append_left, Contains-append_right}
use Rattle.std.proofs.lemmas.Map.Keys.{apart_from_distinct}
use Rattle.std.proofs.lemmas.Option.{get_or_from_slice_get, slice_get_within}
use Rattle.odb_base.specs.Path.{Path}
use Rattle.gix_odb_events.specs.PackFiles.{same_path}
use Rattle.gix_odb_events.proofs.SamePathLaws.{same_path-true, same_path-self}
use Rattle.gix_odb_search.proofs.ReachLemmas.{first_or_later}
use Rattle.gix_odb.proofs.ListerLaws.Lists.{has_first, has_later}

abbrev pub Differ : {A : Type 0} → List A → Type 0
Differ [] = Unit {0}
Differ {A = A} (x ∷ xs) = ((y : A) → Contains xs y → ¬ (x ≡ y)) × Differ xs

-- ---- lists that differ as a whole

pub Contains-without : {A : Type 0} (xs : List A) (x : A) (ys : List A) (y : A) → Contains (xs ++ ys) y → Contains (xs ++ x ∷ ys) y
Contains-without xs x ys y among =
    elim (Contains-append_cases xs ys y among) [
      | inl first ↦ Contains-append_left xs (x ∷ ys) y first
      | inr later ↦ Contains-append_right xs (x ∷ ys) y (has_later x ys y later)
    ]

pub Differ-without : {A : Type 0} (xs : List A) (x : A) (ys : List A) → Differ (xs ++ x ∷ ys) → Differ (xs ++ ys)
Differ-without [] x ys differ = differ.1
Differ-without (first ∷ xs) x ys differ = (λ y among. differ.0 y (Contains-without xs x ys y among), Differ-without xs x ys differ.1)

pub Differ-append : {A : Type 0} (xs ys : List A) → Differ xs → Differ ys → ((x y : A) → Contains xs x → Contains ys y → ¬ (x ≡ y)) → Differ (xs ++ ys)
Differ-append [] ys first later apart = later
Differ-append (x ∷ xs) ys first later apart = (
  λ y among. elim (Contains-append_cases xs ys y among) [
    | inl here ↦ first.0 y here
    | inr behind ↦ apart x y (has_first x xs) behind
  ],
  Differ-append xs ys first.1 later (λ a b here behind. apart a b (has_later x xs a here) behind),
)

-- what is kept by a test was there before
kept_first : {A B : Type 0} (f : A → B) (test : A → Bool) (x : A) (xs : List A) → ((y : B) → Contains (map f (filter test xs)) y → Contains (map f xs) y)
    → (b : Bool) (y : B) → Contains (map f (cond b (x ∷ filter test xs) (filter test xs))) y → Contains (map f (x ∷ xs)) y
kept_first f test x xs more true y among =
    elim (first_or_later (f x) (map f (filter test xs)) y among) [
      | inl is ↦ subst (Contains (map f (x ∷ xs))) is (has_first (f x) (map f xs))
      | inr later ↦ has_later (f x) (map f xs) y (more y later)
    ]
kept_first f test x xs more false y among = has_later (f x) (map f xs) y (more y among)

kept_before : {A B : Type 0} (f : A → B) (test : A → Bool) (xs : List A) (y : B) → Contains (map f (filter test xs)) y → Contains (map f xs) y
kept_before f test [] y among = among
kept_before f test (x ∷ xs) y among = kept_first f test x xs (kept_before f test xs) (test x) y among

-- those that pass a test differ, too, if their images do
first_differs : {A B : Type 0} (f : A → B) (test : A → Bool) (x : A) (xs : List A) → ((y : B) → Contains (map f xs) y → ¬ (f x ≡ y))
    → Differ (map f (filter test xs)) → (b : Bool) → Differ (map f (cond b (x ∷ filter test xs) (filter test xs)))
first_differs f test x xs apart more true = (λ y among. apart y (kept_before f test xs y among), more)
first_differs f test x xs apart more false = more

pub Differ-filter : {A B : Type 0} (f : A → B) (test : A → Bool) (xs : List A) → Differ (map f xs) → Differ (map f (filter test xs))
Differ-filter f test [] differ = tt
Differ-filter f test (x ∷ xs) differ = first_differs f test x xs differ.0 (Differ-filter f test xs differ.1) (test x)

-- ---- a last element

no_end : {A : Type 0} (xs : List A) (x : A) → ¬ ([] ≡ xs ++ x ∷ [])
no_end [] x is = cc is
no_end (y ∷ xs) x is = cc is

pub push_same : {A : Type 0} (xs ys : List A) (x y : A) → xs ++ x ∷ [] ≡ ys ++ y ∷ [] → (xs ≡ ys) × (x ≡ y)
push_same [] [] x y is = (refl, cc is)
push_same [] (b ∷ ys) x y is = let none : [] ≡ ys ++ y ∷ [] = cc is in absurd (no_end ys y none)
push_same (a ∷ xs) [] x y is = let none : [] ≡ xs ++ x ∷ [] = sym (cc is) in absurd (no_end xs x none)
push_same (a ∷ xs) (b ∷ ys) x y is =
    let first : a ≡ b = cc is in
    let rest : xs ++ x ∷ [] ≡ ys ++ y ∷ [] = cc is in
    let same = push_same xs ys x y rest in
    let front : xs ≡ ys = same.0 in
    (cc (first, front), same.1)

-- ---- paths

no_same : (path other : Path) → ¬ (path ≡ other) → same_path path other ≡ false
no_same path other differ = false_from_ne_true (same_path path other) (λ is. differ (same_path-true path other is))

all_other : (path : Path) (paths : List Path) → ((other : Path) → Contains paths other → ¬ (path ≡ other))
    → AllByRecursion (λ other. same_path path other ≡ false) paths
all_other path [] differ = tt
all_other path (other ∷ paths) differ =
    (no_same path other (differ other (has_first other paths)), all_other path paths (λ later among. differ later (has_later other paths later among)))

pub IsDistinct-paths : (paths : List Path) → Differ paths → IsDistinct same_path paths
unfolding IsDistinct
IsDistinct-paths [] differ = tt
IsDistinct-paths (path ∷ paths) differ = (all_other path paths differ.0, IsDistinct-paths paths differ.1)

-- at different places of distinct paths there are different ones
pub places_differ : (paths : List Path) → IsDistinct same_path paths → (i j : ℕ) (path other : Path) → i < j → slice_get paths i ≡ Some path
    → slice_get paths j ≡ Some other → ¬ (path ≡ other)
places_differ paths distinct i j path other before first later same =
    let apart : same_path (get_or paths i path) (get_or paths j path) ≡ false =
    apart_from_distinct same_path paths i j path distinct before (slice_get_within paths j other later) in
    let here : get_or paths i path ≡ path = get_or_from_slice_get paths i path path first in
    let there : get_or paths j path ≡ other = get_or_from_slice_get paths j other path later in
    let own : same_path path path ≡ true = same_path-self path in
    let wrong : same_path path path ≡ false =
    ap (λ (p : Path). same_path p path) (sym here) ∙ ap (λ (p : Path). same_path (get_or paths i path) p) (same ∙ sym there) ∙ apart in
    let no : true ≡ false = sym own ∙ wrong in
    cc no
