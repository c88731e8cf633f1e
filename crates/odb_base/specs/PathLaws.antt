-- The laws of paths: their order, the directories that contain them, and their texts.
use Rattle.std.proofs.Common.{◌≡◌, ℕ, zero, suc, ◌+◌, ◌-◌, ◌==◌, ◌<◌, Bool, true, false, cond, List, [], ◌∷◌, ◌++◌, length}
use Rattle.std.proofs.Common.{get_or, take, drop, append-nil, Some, None, refl, sym, ap, ◌∙◌, arith, length-append}
use Rattle.std.specs.List.{starts_with, slice_split, list_any, list_all, flat_map}
use Rattle.std.specs.Cmp.{IsTotalOrder}
use Rattle.std.specs.Cmp.Lexicographic.{bytes_decides, nat_list_cmp_total, lists_total}
use Rattle.std.specs.FinMap.{IsAntisymmetric, nat_cmp-IsAntisymmetric, slice_cmp-IsAntisymmetric}
use Rattle.std.proofs.Math.Seq.{take-suc, take-length}
use Rattle.std.proofs.lemmas.Bool.{false≢true, not-true, and_parts, or_parts, eq-eqb}
use Rattle.std.proofs.lemmas.List.{take_at}
use Rattle.std.proofs.lemmas.Slice.Eq.{starts_is}
use Rattle.std.proofs.lemmas.List.Splits.{slice_split_none, slice_split_at}
use Rattle.std.proofs.lemmas.Option.{none-some, same_Some}
use Rattle.odb_base.specs.Path.{Name, Path, is_name, same_name, text_of, path_of, named, rooted, path_cmp, parent_of}

-- ---- the order of paths

pub path_order : IsTotalOrder path_cmp
path_order = lists_total nat_list_cmp_total

-- two paths at one place in the order are one path
pub one_place : IsAntisymmetric path_cmp
one_place = slice_cmp-IsAntisymmetric (slice_cmp-IsAntisymmetric nat_cmp-IsAntisymmetric)

-- ---- names

-- if no element passes, each one fails
pub All_not-list_any : {X : Type 0} (p : X → Bool) (xs : List X) → list_any p xs ≡ false → (k : ℕ) (d : X) → k < length xs → p (get_or xs k d) ≡ false
All_not-list_any p [] e k d h = absurd (omega arith)
All_not-list_any p (x ∷ xs) e zero d h = (or_parts _ _ e).0
All_not-list_any p (x ∷ xs) e (suc k) d h = All_not-list_any p xs (or_parts _ _ e).1 k d (omega arith)

pub is_name-no_nul : (name : Name) → is_name name ≡ true → list_any (λ b. b == 0) name ≡ false
unfolding is_name
is_name-no_nul name e = (or_parts _ _ (or_parts _ _ (not-true _ e)).0).1

pub is_name-no_slash : (name : Name) → is_name name ≡ true → list_any (λ b. b == 47) name ≡ false
unfolding is_name
is_name-no_slash name e = (or_parts _ _ (not-true _ e)).1

-- ---- the directory that contains a path

pub parent_of-take : (path : Path) → 0 < length path → parent_of path ≡ Some (take (length path - 1) path)
unfolding parent_of
parent_of-take [] h = absurd (omega arith)
parent_of-take (name ∷ names) h =
    let e : length names ≡ length (name ∷ names) - 1 = omega arith in ap (λ n. Some (take n (name ∷ names))) e

pub parent_of-none : (path : Path) → length path < 1 → parent_of path ≡ None
unfolding parent_of
parent_of-none [] h = refl
parent_of-none (name ∷ names) h = absurd (omega arith)

-- a path that is in a directory has one more name
pub parent_of-some : (path front : Path) → parent_of path ≡ Some front → (name : Name) × (path ≡ front ++ name ∷ [])
unfolding parent_of
parent_of-some [] front e = absurd (none-some _ e)
parent_of-some (name ∷ names) front e =
    let n = length names in
    let taken : take n (name ∷ names) ≡ front = same_Some _ _ e in
    let next : n + 1 ≡ suc n = omega arith in
    let last = get_or (name ∷ names) n [] in
    (last, sym (take-length (name ∷ names)) ∙ take-suc (name ∷ names) n [] (omega arith) ∙ ap (λ f. f ++ last ∷ []) taken)

-- only the root is in none
pub parent_of-nothing : (path : Path) → parent_of path ≡ None → path ≡ []
unfolding parent_of
parent_of-nothing [] e = refl
parent_of-nothing (name ∷ names) e = absurd (none-some _ (sym e))

-- a path with one more name is in that path, and has that name
pub parent_of-push : (path : Path) (name : Name) → parent_of (path ++ name ∷ []) ≡ Some path
parent_of-push path name =
    let n = length-append path (name ∷ []) in
    let front : take (length (path ++ name ∷ []) - 1) (path ++ name ∷ []) ≡ path = take_at path (name ∷ []) _ (omega arith) in
    parent_of-take (path ++ name ∷ []) (omega arith) ∙ ap Some front

pub parent_of-root : parent_of [] ≡ None
unfolding parent_of
parent_of-root = refl

-- ---- paths below others

pub lies_below : (path base more : Path) → path ≡ base ++ more → starts_with same_name path base ≡ true
lies_below path base more is = (starts_is bytes_decides path base (starts_with same_name path base) refl).1 more is

pub goes_beyond : (path base : Path) → starts_with same_name path base ≡ true → path ≡ base ++ drop (length base) path
goes_beyond path base = (starts_is bytes_decides path base (starts_with same_name path base) refl).0

-- ---- the text of a path

module _ (b : ℕ) (free : (name : Name) → is_name name ≡ true → list_any (λ c. c == b) name ≡ false) where
  -- names after a byte that none of them has are the parts between these bytes
  pub slice_split-behind : (name : Name) (names : Path) → list_all is_name (name ∷ names) ≡ true → slice_split (λ c. c == b) (name ++ flat_map (λ n. b ∷ n) names) ≡ name ∷ names
  slice_split-behind name [] e =
      let all = All_not-list_any (λ c. c == b) name (free name (and_parts _ _ e).0) in
      ap (slice_split (λ c. c == b)) (append-nil name) ∙ slice_split_none (λ c. c == b) name all
  slice_split-behind name (next ∷ names) e =
      let all = All_not-list_any (λ c. c == b) name (free name (and_parts _ _ e).0) in
      slice_split_at (λ c. c == b) name b (next ++ flat_map (λ n. b ∷ n) names) all (eq-eqb b b refl) ∙ ap (λ ps. name ∷ ps) (slice_split-behind next names (and_parts _ _ e).1)

named-names : (name : Name) (names : Path) → list_all is_name (name ∷ names) ≡ true → named (name ∷ names) ≡ Some (name ∷ names)
unfolding named is_name
named-names [] names e = absurd (false≢true e)
named-names (b ∷ bytes) names e = ap (λ t. cond t (Some ((b ∷ bytes) ∷ names)) None) e

-- a path of names is what its text spells
pub path_of-text_of : (path : Path) → list_all is_name path ≡ true → path_of (text_of path) ≡ Some path
unfolding path_of text_of rooted named
path_of-text_of [] e = refl
path_of-text_of (name ∷ names) e = ap named (slice_split-behind 47 is_name-no_slash name names e) ∙ named-names name names e
