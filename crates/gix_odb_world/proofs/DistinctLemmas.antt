-- The conditions of opening: lists whose items are distinct.
use Rattle.std.proofs.Common.{◌≡◌, ◌≢◌, ℕ, zero, suc, ◌+◌, ◌<◌, ◌≤◌, ◌==◌, ◌||◌, nat_le, Bool, true, false, cond, List, [], ◌∷◌, ◌++◌, length, take, get_or, refl, sym, ◌∙◌, ap, subst, arith}
use Rattle.std.specs.Prelude.{Option, Some, None, MatchOption}
use Rattle.std.specs.BTreeMap.{BTreeMap}
use Rattle.std.specs.BTreeMap as tree
use Rattle.std.specs.BTreeSet.{BTreeSet}
use Rattle.std.specs.BTreeSet as sorted
use Rattle.std.specs.List.{AllByRecursion, IsDistinct, list_any}
use Rattle.std.specs.Cmp.{IsEquivalence, IsTotalOrder}
use Rattle.std.specs.Map.{keys_of}
use Rattle.std.specs.Ordering.{eq_by_cmp}
use Rattle.std.specs.Set.{distinct_count, is_member, unique_keys}
use Rattle.std.proofs.lemmas.Bool.{eqb-true}
use Rattle.std.proofs.lemmas.Cmp.{eq_by_cmp_equiv}
use Rattle.std.proofs.lemmas.List.{length-map, take_more}
use Rattle.std.proofs.lemmas.Map.Made.{distinct_count-le}
use Rattle.std.proofs.lemmas.Map.Views.{btree_map_len-from_list, btree_set_len-from_list}
use Rattle.odb_base.specs.Path.{Path, path_cmp}
use Rattle.odb_base.specs.PathLaws.{path_order}
use Rattle.gix_hash.proofs.IdOrderLaws.{id_order}
use Rattle.gix_hash.specs.declared.object_id.ObjectId.{ObjectId}
use Rattle.gix_hash.specs.ObjectId.{id_cmp}
use Rattle.gix_odb_world.specs.Valid.{are_distinct, are_good_folders, most_folders}

pub ids_ordered : IsTotalOrder id_cmp
ids_ordered = id_order

pub ids_equal : IsEquivalence (eq_by_cmp id_cmp)
ids_equal = eq_by_cmp_equiv ids_ordered

first_fails : {A : Type 0} (p : A → Bool) (x : A) (xs : List A) (b : Bool) → p x ≡ b → (list_any p xs ≡ false → AllByRecursion (λ y. p y ≡ false) xs)
    → list_any p (x ∷ xs) ≡ false → AllByRecursion (λ y. p y ≡ false) (x ∷ xs)
first_fails p x xs true is others none = absurd (cc (subst (λ c. (c || list_any p xs) ≡ false) is none))
first_fails p x xs false is others none = (is, others (subst (λ c. (c || list_any p xs) ≡ false) is none))

none_passes : {A : Type 0} (p : A → Bool) (xs : List A) → list_any p xs ≡ false → AllByRecursion (λ x. p x ≡ false) xs
none_passes p [] e = tt
none_passes p (x ∷ xs) e = first_fails p x xs (p x) refl (none_passes p xs) e

module _ {K : Type 0} {eq : K → K → Bool} (laws : IsEquivalence eq) where
  by_member : (x : K) (xs : List K) (b : Bool) → is_member eq xs x ≡ b → (length (unique_keys eq xs) ≡ length xs → IsDistinct eq xs)
      → length (cond b (unique_keys eq xs) (x ∷ unique_keys eq xs)) ≡ suc (length xs) → IsDistinct eq (x ∷ xs)
  unfolding IsDistinct
  by_member x xs true is others same = absurd (omega (arith, same, distinct_count-le eq xs))
  by_member x xs false is others same = (none_passes (eq x) xs is, others (omega (arith, same)))

  by_length : (xs : List K) → length (unique_keys eq xs) ≡ length xs → IsDistinct eq xs
  unfolding IsDistinct
  by_length [] e = tt
  by_length (x ∷ xs) e = by_member x xs (is_member eq xs x) refl (by_length xs) e

  -- where each item counts, no two are equal
  pub IsDistinct-by_count : (xs : List K) → (distinct_count eq xs == length xs) ≡ true → IsDistinct eq xs
  IsDistinct-by_count xs e = by_length xs (eqb-true (distinct_count eq xs) (length xs) e)

  -- one more item at the end
  member_push : (xs : List K) (x q : K) → is_member eq (xs ++ x ∷ []) q ≡ (eq x q || is_member eq xs q)
  member_push [] x q = rw (laws.symm q x) refl
  member_push (y ∷ xs) x q = ap (λ b. eq q y || b) (member_push xs x q) ∙ swapped (eq q y) (eq x q) (is_member eq xs q)
    where
      swapped : (a b c : Bool) → (a || (b || c)) ≡ (b || (a || c))
      swapped true true c = refl
      swapped true false c = refl
      swapped false b c = refl

-- ---- the ids that are replaced

eqb-same : (n : ℕ) → (n == n) ≡ true
eqb-same n = grind arith

eqb-apart : (m n : ℕ) → m ≢ n → (m == n) ≡ false
eqb-apart m n other = grind (arith, other)

-- they are distinct where the map of the pairs has as many entries as there are pairs
pub distinct_by_map : (pairs : List (ObjectId × ObjectId)) (map : BTreeMap ObjectId ObjectId) → tree.IsFromIterResult id_cmp pairs map
    → are_distinct id_cmp (keys_of pairs) ≡ (tree.btree_map_len map == length pairs)
distinct_by_map pairs map made = rw (btree_map_len-from_list ids_ordered pairs map made, length-map pairs (λ (p : ObjectId × ObjectId). p.0)) refl

pub distinct_if : (pairs : List (ObjectId × ObjectId)) (map : BTreeMap ObjectId ObjectId) → tree.IsFromIterResult id_cmp pairs map
    → tree.btree_map_len map ≡ length pairs
    → are_distinct id_cmp (keys_of pairs) ≡ true
distinct_if pairs map made same = distinct_by_map pairs map made ∙ (ap (λ n. n == length pairs) same ∙ eqb-same (length pairs))

pub distinct_unless : (pairs : List (ObjectId × ObjectId)) (map : BTreeMap ObjectId ObjectId) → tree.IsFromIterResult id_cmp pairs map
    → tree.btree_map_len map ≢ length pairs
    → are_distinct id_cmp (keys_of pairs) ≡ false
distinct_unless pairs map made differs = distinct_by_map pairs map made ∙ eqb-apart (tree.btree_map_len map) (length pairs) differs

-- ---- the folders

-- a set has the paths of a list
abbrev pub Has : List Path → BTreeSet Path → Type 0
Has paths set = (q : Path) → sorted.contains path_cmp set q ≡ is_member (eq_by_cmp path_cmp) paths q

paths_equal : IsEquivalence (eq_by_cmp path_cmp)
paths_equal = eq_by_cmp_equiv path_order

pub has_one : (set new : BTreeSet Path) (path : Path) → sorted.IsEmpty set → sorted.Updates path_cmp set new path true → Has (path ∷ []) new
has_one set new path empty updates q = updates.0 q ∙ ap (λ b. cond (eq_by_cmp path_cmp path q) true b) (none_in set q empty)
    ∙ by_equal (eq_by_cmp path_cmp path q) (eq_by_cmp path_cmp q path) (paths_equal.symm path q)
  where
    none_in : (set : BTreeSet Path) (q : Path) → sorted.IsEmpty set → sorted.contains path_cmp set q ≡ false
    none_in set q empty = rw empty refl

    by_equal : (b c : Bool) → b ≡ c → cond b true false ≡ (c || false)
    by_equal true true e = refl
    by_equal false false e = refl
    by_equal true false e = absurd (cc e)
    by_equal false true e = absurd (cc e)

pub has_more : (first : Path) (paths : List Path) (set new : BTreeSet Path) (path : Path) (index : ℕ) → index < length paths
    → path ≡ get_or paths index path → Has (first ∷ take index paths) set
    → sorted.Updates path_cmp set new path true → Has (first ∷ take (index + 1) paths) new
has_more first paths set new path index within is has updates q =
    updates.0 q ∙ (ap (λ b. cond (eq_by_cmp path_cmp path q) true b) (has q)
    ∙ (by_equal (eq_by_cmp path_cmp path q) (is_member (eq_by_cmp path_cmp) (first ∷ take index paths) q)
    ∙ (sym (member_push paths_equal (first ∷ take index paths) path q)
    ∙ ap (λ ps. is_member (eq_by_cmp path_cmp) (first ∷ ps) q) (ap (λ p. take index paths ++ p ∷ []) is ∙ sym (take_more paths index path within)))))
  where
    by_equal : (b c : Bool) → cond b true c ≡ (b || c)
    by_equal true c = refl
    by_equal false c = refl

pub take_past : {A : Type 0} (xs : List A) (n : ℕ) → length xs ≤ n → take n xs ≡ xs
take_past [] zero past = refl
take_past [] (suc n) past = refl
take_past (x ∷ xs) zero past = absurd (omega (arith, past))
take_past (x ∷ xs) (suc n) past = ap (λ ys. x ∷ ys) (take_past xs n (omega (arith, past)))

-- the folders are good where they are few and the set has them all and the objects directory
pub good_by_set : (first : Path) (paths : List Path) (set : BTreeSet Path) → length paths ≤ most_folders → Has (first ∷ paths) set
    → sorted.IsOrdered path_cmp set
    → are_good_folders first paths ≡ (sorted.btree_set_len set == length paths + 1)
good_by_set first paths set few has ordered =
    let short : nat_le (length paths) most_folders ≡ true = grind (arith, few) in
    let count : sorted.btree_set_len set ≡ distinct_count (eq_by_cmp path_cmp) (first ∷ paths) = btree_set_len-from_list path_order (first ∷ paths) set (has, ordered) in
    let longer : length (first ∷ paths) ≡ length paths + 1 = omega arith in
    rw (short, count, ← longer) refl

pub bad_by_length : (first : Path) (paths : List Path) → most_folders < length paths → are_good_folders first paths ≡ false
bad_by_length first paths many = let long : nat_le (length paths) most_folders ≡ false = grind (arith, many) in rw long refl

-- ---- what may not be there

pub none_of : {A : Type 0} (option : Option A) (P : Type 0) (Q : A → Type 0) → MatchOption option P Q → option ≡ None → P
none_of None P Q match is = match
none_of (Some x) P Q match is = absurd (cc is)

pub some_of : {A : Type 0} (option : Option A) (P : Type 0) (Q : A → Type 0) (x : A) → MatchOption option P Q → option ≡ Some x → Q x
some_of None P Q x match is = absurd (cc is)
some_of (Some y) P Q x match is = let same : y ≡ x = cc is in subst Q same match
