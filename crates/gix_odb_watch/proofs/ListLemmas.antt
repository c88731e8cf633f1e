-- Elements of lists, by cases, and what is added to them.
use Rattle.std.proofs.Common.{◌≡◌, ◌⊎◌, inl, inr, Bool, true, false, cond, List, [], ◌∷◌, ◌++◌, map, Option, Some, None, sym, ap, ◌∙◌, subst, refl}
use Rattle.std.specs.List.{list_any, filter, flat_map, filter_map, cons_option}
use Rattle.std.proofs.lemmas.Bool.{false≢true, or_left, or_right, or_cases}
use Rattle.std.proofs.lemmas.List.Concat.{flat_map-cons}
use Rattle.std.specs.Ordering.{eq_by_cmp}
use Rattle.std.specs.FinSet as set
use Rattle.odb_base.specs.Path.{Path, path_cmp}
use Rattle.odb_base.specs.PathLaws.{path_order}
use Rattle.odb_disk.proofs.TreeLemmas.{own_path, same_path}
use Rattle.gix_odb_watch.specs.Kept.{IsIn}
use Rattle.gix_odb_watch.specs.Revealed.{is_in}
use Rattle.gix_odb_watch.specs.Touched.{Adds, AddsEach}

pub in_left : {X : Type 0} (xs ys : List X) (x : X) → IsIn xs x → IsIn (xs ++ ys) x
in_left [] ys x one = absurd one
in_left (y ∷ xs) ys x (inl same) = inl same
in_left (y ∷ xs) ys x (inr more) = inr (in_left xs ys x more)

pub in_right : {X : Type 0} (xs ys : List X) (x : X) → IsIn ys x → IsIn (xs ++ ys) x
in_right [] ys x one = one
in_right (y ∷ xs) ys x one = inr (in_right xs ys x one)

pub in_either : {X : Type 0} (xs ys : List X) (x : X) → IsIn (xs ++ ys) x → IsIn xs x ⊎ IsIn ys x
in_either [] ys x one = inr one
in_either (y ∷ xs) ys x (inl same) = inl (inl same)
in_either (y ∷ xs) ys x (inr more) = elim (in_either xs ys x more) [ inl left ↦ inl (inr left) | inr right ↦ inr right ]

-- what one element gives is among what all give
pub in_flat_map : {X Y : Type 0} (f : X → List Y) (xs : List X) (x : X) (y : Y) → IsIn xs x → IsIn (f x) y → IsIn (flat_map f xs) y
in_flat_map f [] x y one given = absurd one
in_flat_map f (z ∷ xs) x y (inl same) given = subst (λ l. IsIn l y) (sym (flat_map-cons f z xs)) (in_left (f z) (flat_map f xs) y (subst (λ w. IsIn (f w) y) (sym same) given))
in_flat_map f (z ∷ xs) x y (inr more) given = subst (λ l. IsIn l y) (sym (flat_map-cons f z xs)) (in_right (f z) (flat_map f xs) y (in_flat_map f xs x y more given))

pub of_flat_map : {X Y : Type 0} (f : X → List Y) (xs : List X) (y : Y) → IsIn (flat_map f xs) y → (x : X) × IsIn xs x × IsIn (f x) y
of_flat_map f [] y one = absurd one
of_flat_map f (z ∷ xs) y one = elim (in_either (f z) (flat_map f xs) y (subst (λ l. IsIn l y) (flat_map-cons f z xs) one)) [
  | inl here ↦ (z, inl refl, here)
  | inr more ↦ let o = of_flat_map f xs y more in (o.0, inr o.1, o.2)
]

pub in_map : {X Y : Type 0} (f : X → Y) (xs : List X) (x : X) → IsIn xs x → IsIn (map f xs) (f x)
in_map f [] x one = absurd one
in_map f (z ∷ xs) x (inl same) = inl (ap f same)
in_map f (z ∷ xs) x (inr more) = inr (in_map f xs x more)

pub of_map : {X Y : Type 0} (f : X → Y) (xs : List X) (y : Y) → IsIn (map f xs) y → (x : X) × IsIn xs x × (f x ≡ y)
of_map f [] y one = absurd one
of_map f (z ∷ xs) y (inl same) = (z, inl refl, same)
of_map f (z ∷ xs) y (inr more) = let o = of_map f xs y more in (o.0, inr o.1, o.2)

-- what an element is turned into is among what a list is
pub in_filter_map : {X Y : Type 0} (f : X → Option Y) (xs : List X) (x : X) (y : Y) → IsIn xs x → f x ≡ Some y → IsIn (filter_map f xs) y
in_filter_map f [] x y one gives = absurd one
in_filter_map f (z ∷ xs) x y (inl same) gives = elim (f z) as (λ o. o ≡ Some y → IsIn (cons_option o (filter_map f xs)) y) [
  | None ↦ λ is. absurd (cc)
  | Some w ↦ λ is. let this : w ≡ y = cc in inl this
] (ap f same ∙ gives)
in_filter_map f (z ∷ xs) x y (inr more) gives = elim (f z) as (λ o. IsIn (cons_option o (filter_map f xs)) y) [
  | None ↦ in_filter_map f xs x y more gives
  | Some w ↦ inr (in_filter_map f xs x y more gives)
]

-- what passes a test

module _ {X : Type 0} (test : X → Bool) where
  of_by : (y : X) (xs : List X) (x : X) → (IsIn (filter test xs) x → IsIn xs x) → (b : Bool) → IsIn (cond b (y ∷ filter test xs) (filter test xs)) x → IsIn (y ∷ xs) x
  of_by y xs x again true (inl same) = inl same
  of_by y xs x again true (inr more) = inr (again more)
  of_by y xs x again false more = inr (again more)

  pub of_filter : (xs : List X) (x : X) → IsIn (filter test xs) x → IsIn xs x
  of_filter [] x one = absurd one
  of_filter (y ∷ xs) x one = of_by y xs x (of_filter xs x) (test y) one

  in_by : (y : X) (xs : List X) (x : X) → IsIn (filter test xs) x → (b : Bool) → IsIn (cond b (y ∷ filter test xs) (filter test xs)) x
  in_by y xs x one true = inr one
  in_by y xs x one false = one

  pub in_filter : (xs : List X) (x : X) → IsIn xs x → test x ≡ true → IsIn (filter test xs) x
  in_filter [] x one passes = absurd one
  in_filter (y ∷ xs) x (inl same) passes = subst (λ (b : Bool). IsIn (cond b (y ∷ filter test xs) (filter test xs)) x) (sym (ap test same ∙ passes)) (inl same)
  in_filter (y ∷ xs) x (inr more) passes = in_by y xs x (in_filter xs x more passes) (test y)

-- an element that passes a test
pub one_passes : {X : Type 0} (test : X → Bool) (xs : List X) → list_any test xs ≡ true → (x : X) × IsIn xs x × (test x ≡ true)
one_passes test [] any = absurd (false≢true any)
one_passes test (y ∷ xs) any = elim (or_cases (test y) (list_any test xs) any) [
  | inl here ↦ (y, inl refl, here)
  | inr more ↦ let o = one_passes test xs more in (o.0, inr o.1, o.2)
]

pub passes_one : {X : Type 0} (test : X → Bool) (xs : List X) (x : X) → IsIn xs x → test x ≡ true → list_any test xs ≡ true
passes_one test [] x one passes = absurd one
passes_one test (y ∷ xs) x (inl same) passes = or_left (test y) (list_any test xs) (ap test same ∙ passes)
passes_one test (y ∷ xs) x (inr more) passes = or_right (test y) (list_any test xs) (passes_one test xs x more passes)

-- whether a path is one of these
pub is_in_one : (paths : List Path) (path : Path) → is_in paths path ≡ true → IsIn paths path
is_in_one paths path is = let o = one_passes (eq_by_cmp path_cmp path) paths is in subst (IsIn paths) (sym (same_path path o.0 o.2)) o.1

pub one_is_in : (paths : List Path) (path : Path) → IsIn paths path → is_in paths path ≡ true
one_is_in paths path one = passes_one (eq_by_cmp path_cmp path) paths path one (own_path path)

-- an element of a list with one more is that or was one before
pub in_pushed : {X : Type 0} (xs ys : List X) (y x : X) → ys ≡ xs ++ y ∷ [] → IsIn ys x → IsIn xs x ⊎ (y ≡ x)
in_pushed {X = X} xs ys y x is one = elim (in_either xs (y ∷ []) x (subst (λ (l : List X). IsIn l x) is one)) [
  | inl before ↦ inl before
  | inr last ↦ elim last [ inl same ↦ inr same | inr none ↦ absurd none ]
]

pub old_pushed : {X : Type 0} (xs ys : List X) (y x : X) → ys ≡ xs ++ y ∷ [] → IsIn xs x → IsIn ys x
old_pushed {X = X} xs ys y x is one = subst (λ (l : List X). IsIn l x) (sym is) (in_left xs (y ∷ []) x one)

pub last_pushed : {X : Type 0} (xs ys : List X) (y : X) → ys ≡ xs ++ y ∷ [] → IsIn ys y
last_pushed {X = X} xs ys y is = subst (λ (l : List X). IsIn l y) (sym is) (in_right xs (y ∷ []) y (inl refl))

-- ---- what is added for each of some things

pub each_first : {R X : Type 0} (May Must : R → X → Type 0) (xs : List X) → AddsEach May Must [] xs xs
each_first May Must xs = record { keeps = λ x one. one; only = λ x one. inl one; whole = λ x of. absurd of.1 }

pub each_next : {R X : Type 0} (May Must : R → X → Type 0) (rs : List R) (r : R) (old mid new : List X) → AddsEach May Must rs old mid → Adds (May r) (Must r) mid new
    → AddsEach May Must (rs ++ r ∷ []) old new
each_next {R = R} May Must rs r old mid new so adds = record {
  keeps = λ x one. adds.keeps x (so.keeps x one);
  only = λ x one. elim (adds.only x one) [
    | inl before ↦ elim (so.only x before) [ inl was ↦ inl was | inr of ↦ inr (of.0, in_left rs (r ∷ []) of.0 of.1, of.2) ]
    | inr may ↦ inr (r, in_right rs (r ∷ []) r (inl refl), may)
  ];
  whole = λ x of. elim (in_pushed rs (rs ++ r ∷ []) r of.0 refl of.1) [
    | inl before ↦ adds.keeps x (so.whole x (of.0, before, of.2))
    | inr same ↦ adds.whole x (subst (λ (s : R). Must s x) (sym same) of.2)
  ];
}

-- ---- sets of paths

pub among_keys : (keys : List Path) (path : Path) → IsIn keys path → set.contains (set.from_list {R = path_cmp} keys) path ≡ true
among_keys keys path one = set.contains-from_list path_order keys path ∙ one_is_in keys path one

pub keys_among : (keys : List Path) (path : Path) → set.contains (set.from_list {R = path_cmp} keys) path ≡ true → IsIn keys path
keys_among keys path among = is_in_one keys path (sym (set.contains-from_list path_order keys path) ∙ among)
