-- The names of a text one by one, and those that two paths begin with.
use Rattle.std.proofs.Common.{zero, ◌≡◌, ◌≢◌, ◌==◌, ℕ, suc, ◌+◌, ◌<◌, ◌≤◌, true, List, [], ◌∷◌, ◌++◌, length, get_or, take, drop, map, Bor, Some, None, refl, sym, ap, subst, ◌∙◌, arith}
use Rattle.std.specs.List.{slice_split, list_all}
use Rattle.std.proofs.Math.Seq.{take-suc}
use Rattle.std.proofs.lemmas.Bool.{and_parts}
use Rattle.std.proofs.lemmas.List.{get_or-drop, length-drop, length-map, take-append-drop}
use Rattle.std.proofs.lemmas.List.Folds.{list_all-append}
use Rattle.odb_base.specs.Path.{Name, Path, HasSameFirst, IsCommonFront, is_name}
use Rattle.odb_base.specs.JoinedPath.{joined, names_joined}
use Rattle.odb_base.proofs.JoinedPathLemmas.Parts.{same}

-- ---- the names of a text

pub names_behind : (text rest : List ℕ) → text ≡ 0 ∷ rest → slice_split (λ b. b == 0) rest ≡ names_joined text
unfolding names_joined
names_behind text rest is = ap (λ t. drop 1 (slice_split (λ b. b == 0) t)) (sym is)

pub names_none : (path : Path) → ((rest : List ℕ) → joined path ≢ 0 ∷ rest) → path ≡ []
unfolding joined
names_none [] none = refl
names_none (name ∷ path) none = absurd (none _ refl)

-- ---- the names that two paths begin with

-- one of them has nothing at this index
same_first-none : (own its : Path) → length own ≤ 0 → HasSameFirst own its None
same_first-none [] its none = tt
same_first-none (name ∷ own) its none = absurd (omega arith)

same_first-other_none : (own its : Path) → length its ≤ 0 → HasSameFirst own its None
same_first-other_none [] its none = tt
same_first-other_none (name ∷ own) [] none = tt
same_first-other_none (name ∷ own) (twin ∷ its) none = absurd (omega arith)

pub same_at-none : (own its : List (Bor (List ℕ))) (i : ℕ) → length own ≤ i → HasSameFirst (drop i (map (λ t. t.now) own)) (drop i (map (λ t. t.now) its)) None
same_at-none own its i past = same_first-none _ _ (omega (arith, length-drop i (map (λ t. t.now) own), length-map own (λ t. t.now)))

pub same_at-other_none : (own its : List (Bor (List ℕ))) (i : ℕ) → length its ≤ i → HasSameFirst (drop i (map (λ t. t.now) own)) (drop i (map (λ t. t.now) its)) None
same_at-other_none own its i past = same_first-other_none _ _ (omega (arith, length-drop i (map (λ t. t.now) its), length-map its (λ t. t.now)))

-- the names of texts
abbrev texts_of : List (Bor (List ℕ)) → Path
texts_of = map (λ text. text.now)

drop-at : (texts : List (Bor (List ℕ))) (i : ℕ) (d : Bor (List ℕ)) → i < length texts → (rest : Path) × (drop i (texts_of texts) ≡ (get_or texts i d).now ∷ rest)
drop-at [] i d inside = absurd (omega arith)
drop-at (text ∷ texts) zero d inside = (texts_of texts, refl)
drop-at (text ∷ texts) (suc i) d inside = drop-at texts i d (omega arith)

module _ (own its : List (Bor (List ℕ))) (i : ℕ) (x y d e : Bor (List ℕ)) (inside : i < length own) (among : i < length its) (x_is : x ≡ get_or own i d) (y_is : y ≡ get_or its i e) where
  pub same_at-both : x.now ≡ y.now → HasSameFirst (drop i (texts_of own)) (drop i (texts_of its)) (Some x.now)
  same_at-both same =
      let left = drop-at own i d inside in
      let right = drop-at its i e among in
      subst (λ n. HasSameFirst n (drop i (texts_of its)) (Some x.now)) (sym left.1)
      (subst (λ n. HasSameFirst ((get_or own i d).now ∷ left.0) n (Some x.now)) (sym right.1) (ap (λ t. t.now) (sym x_is), ap (λ t. t.now) (sym y_is) ∙ sym same))

  pub same_at-apart : x.now ≢ y.now → HasSameFirst (drop i (texts_of own)) (drop i (texts_of its)) None
  same_at-apart apart =
      let left = drop-at own i d inside in
      let right = drop-at its i e among in
      subst (λ n. HasSameFirst n (drop i (texts_of its)) None) (sym left.1)
      (subst (λ n. HasSameFirst ((get_or own i d).now ∷ left.0) n None) (sym right.1) (λ same. apart (ap (λ t. t.now) x_is ∙ same ∙ ap (λ t. t.now) (sym y_is))))

-- both go on with the name
record HasMore (own its : Path) (name : Name) : Type 0 where
  own_rest : Path
  its_rest : Path
  own_is : own ≡ name ∷ own_rest
  its_is : its ≡ name ∷ its_rest

has_more : (own its : Path) (name : Name) → HasSameFirst own its (Some name) → HasMore own its name
has_more [] [] name both = absurd both
has_more [] (twin ∷ its) name both = absurd both
has_more (first ∷ own) [] name both = absurd both
has_more (first ∷ own) (twin ∷ its) name both = record { own_rest = own; its_rest = its; own_is = ap (λ n. n ∷ own) both.0; its_is = ap (λ n. n ∷ its) both.1 }

take-next : (path rest : Path) (i : ℕ) (name : Name) → drop i path ≡ name ∷ rest → take (i + 1) path ≡ take i path ++ name ∷ []
take-next path rest i name is =
    let long = ap length is in
    let inside : i < length path = omega (arith, length-drop i path, long) in
    let at : get_or path i name ≡ name = ap (λ n. get_or path n name) {x = i} {y = i + 0} (omega arith) ∙ sym (get_or-drop i path 0 name) ∙ ap (λ p. get_or p 0 name) is in
    let next : i + 1 ≡ suc i = omega arith in
    ap (λ n. take n path) next ∙ take-suc path i name inside ∙ ap (λ n. take i path ++ n ∷ []) at

module _ (path other : Path) (i : ℕ) (name : Name) (both : HasSameFirst (drop i path) (drop i other) (Some name)) where
  pub same_inside : i < length path
  same_inside = let more = has_more _ _ name both in omega (arith, length-drop i path, ap length more.own_is)

  pub same_next : take (i + 1) path ≡ take i path ++ name ∷ []
  same_next = let more = has_more _ _ name both in take-next path more.own_rest i name more.own_is

  pub other_next : take (i + 1) other ≡ take i other ++ name ∷ []
  other_next = let more = has_more _ _ name both in take-next other more.its_rest i name more.its_is

pub is_common : (path other : Path) (i : ℕ) → take i path ≡ take i other → HasSameFirst (drop i path) (drop i other) None → IsCommonFront path other (take i path)
is_common path other i same apart = record {
  own = drop i path;
  its = drop i other;
  path_is = sym (take-append-drop i path);
  other_is = sym (take-append-drop i other) ∙ ap (λ f. f ++ drop i other) (sym same);
  apart = apart;
}

pub all_taken : (path : Path) (i : ℕ) → list_all is_name path ≡ true → list_all is_name (take i path) ≡ true
all_taken path i names = (and_parts _ _ (sym (list_all-append is_name (take i path) (drop i path)) ∙ ap (list_all is_name) (take-append-drop i path) ∙ names)).0
