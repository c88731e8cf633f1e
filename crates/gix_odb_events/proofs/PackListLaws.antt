-- Packs at their places: tests of all, and a change of those of one path, which is one pack where the paths rise.
use Rattle.std.proofs.Common.{◌≡◌, ℕ, zero, suc, ◌+◌, ◌-◌, ◌<◌, ◌≤◌, Bool, true, false, cond, ◌||◌, List, [], ◌∷◌, ◌++◌, get_or, length, map, set, take, Option, Some, None, refl, sym, ap, ◌∙◌, arith, IsTrue}
use Rattle.std.specs.List.{list_any, slice_get}
use Rattle.std.specs.Option.{option_map_or, option_to_list}
use Rattle.std.specs.Ordering.{is_eq}
use Rattle.std.specs.declared.cmp.Ordering.{Ordering}
use Rattle.std.specs.declared.cmp.Ordering.TheVariants.{Less, Equal}
use Rattle.std.proofs.lemmas.Bool.{or_parts}
use Rattle.std.proofs.lemmas.Cmp.{tied_itself}
use Rattle.std.proofs.lemmas.Option.{same_Some, slice_get_read}
use Rattle.odb_base.specs.Path.{Path, path_cmp}
use Rattle.odb_base.specs.PathLaws.{path_order}
use Rattle.gix_odb_events.specs.PackFiles.{PackFile, same_path}
use Rattle.gix_odb_events.specs.PackList.{HasFirst, IsRising, IsRisingIf, has_path, has_path_at, packs_in}
use Rattle.gix_odb_events.proofs.SamePathLaws.{same_path-true, same_path-self, same_path_flip}

-- ---- tests, place by place

module _ {X : Type 0} (test : X → Bool) where
  -- one item passes
  pub list_any-here : (xs : List X) (i : ℕ) (passes : Bool) → passes ≡ option_map_or test (slice_get xs i) false → passes ≡ true → list_any test xs ≡ true
  list_any-here [] i passes is pass = absurd (let no : true ≡ false = sym pass ∙ is in cc)
  list_any-here (x ∷ xs) zero passes is pass = ap (λ (b : Bool). b || list_any test xs) (sym is ∙ pass)
  list_any-here (x ∷ xs) (suc i) passes is pass = ap (λ (b : Bool). test x || b) (list_any-here xs i passes is pass) ∙ or_true (test x)
    where
      or_true : (b : Bool) → (b || true) ≡ true
      or_true true = refl
      or_true false = refl

  -- one more item fails
  pub list_any-more : (xs : List X) (i : ℕ) (passes : Bool) → i < length xs → passes ≡ option_map_or test (slice_get xs i) false → passes ≡ false
      → list_any test (take i xs) ≡ false → list_any test (take (i + 1) xs) ≡ false
  list_any-more xs i passes within is fails so_far = let one : i + 1 ≡ suc i = omega arith in ap (λ n. list_any test (take n xs)) one ∙ next xs i within (sym is ∙ fails) so_far
    where
      next : (xs : List X) (i : ℕ) → i < length xs → option_map_or test (slice_get xs i) false ≡ false → list_any test (take i xs) ≡ false → list_any test (take (suc i) xs) ≡ false
      next [] i within fails so_far = absurd (omega arith)
      next (x ∷ xs) zero within fails so_far = ap (λ (b : Bool). b || false) fails
      next (x ∷ xs) (suc i) within fails so_far =
          ap (λ (b : Bool). b || list_any test (take (suc i) xs)) (or_parts _ _ so_far).0 ∙ next xs i (omega arith) fails (or_parts _ _ so_far).1

-- ---- paths that rise

rising-tail : (pack : PackFile) (packs : List PackFile) → IsRising (pack ∷ packs) → IsRising packs
rising-tail pack [] rising = tt
rising-tail pack (next ∷ packs) rising = rising.1

-- the first path is before each of the others
rising-below : (packs : List PackFile) (i : ℕ) (first pack : PackFile) → IsRising (first ∷ packs) → slice_get packs i ≡ Some pack → path_cmp first.path pack.path ≡ Less
rising-below [] i first pack rising at = cc
rising-below (next ∷ packs) zero first pack rising at =
    ap (λ (p : PackFile). path_cmp first.path p.path) (sym (same_Some next pack at)) ∙ rising.0
rising-below (next ∷ packs) (suc i) first pack rising at =
    path_order.trans first.path next.path pack.path rising.0 (rising-below packs i next pack rising.1 at)

-- a path that is before another one is another
before-differs : (one other : Path) → path_cmp one other ≡ Less → same_path one other ≡ false
before-differs one other less = by (same_path one other) refl
  where
    by : (b : Bool) → same_path one other ≡ b → b ≡ false
    by false is = refl
    by true is =
        let tied : path_cmp one one ≡ Equal = tied_itself path_order one in
        let no : Equal ≡ Less = sym tied ∙ ap (path_cmp one) (same_path-true one other is) ∙ less in
        absurd cc

module _ (path : Path) where
  -- where a later pack has the path, the first has another
  first-differs : (packs : List PackFile) (i : ℕ) (first pack : PackFile) → IsRising (first ∷ packs) → slice_get packs i ≡ Some pack → has_path path pack ≡ true → has_path path first ≡ false
  first-differs packs i first pack rising at has =
      ap (same_path first.path) (sym (same_path-true pack.path path has)) ∙ before-differs first.path pack.path (rising-below packs i first pack rising at)

  -- where the first has the path, no later pack has it
  others-differ : (packs : List PackFile) (first : PackFile) → IsRising (first ∷ packs) → has_path path first ≡ true → list_any (has_path path) packs ≡ false
  others-differ [] first rising has = refl
  others-differ (next ∷ packs) first rising has =
      let differs : has_path path next ≡ false = ap (same_path next.path) (sym (same_path-true first.path path has)) ∙ same_path_flip first.path next.path (before-differs first.path next.path rising.0) in
      ap (λ (b : Bool). b || list_any (has_path path) packs) differs ∙ others-differ packs first (skip packs rising) has
    where
      skip : (packs : List PackFile) → IsRising (first ∷ next ∷ packs) → IsRising (first ∷ packs)
      skip [] rising = tt
      skip (third ∷ packs) rising = (path_order.trans first.path next.path third.path rising.0 rising.1.0, rising.1.1)

  -- the pack that has the path is the first that has it
  pub HasFirst-from_rising : (packs : List PackFile) (place : ℕ) → IsRising packs → has_path_at path (slice_get packs place) ≡ true → HasFirst path packs place
  HasFirst-from_rising packs place rising has = record { here = has; before = earlier packs place rising has }
    where
      found : (packs : List PackFile) (i : ℕ) → has_path_at path (slice_get packs i) ≡ true → (pack : PackFile) × (slice_get packs i ≡ Some pack) × (has_path path pack ≡ true)
      found packs i has = by (slice_get packs i) refl
        where
          by : (o : Option PackFile) → slice_get packs i ≡ o → (pack : PackFile) × (slice_get packs i ≡ Some pack) × (has_path path pack ≡ true)
          by None is = absurd (let no : false ≡ true = ap (has_path_at path) (sym is) ∙ has in cc)
          by (Some pack) is = (pack, is, ap (has_path_at path) (sym is) ∙ has)

      earlier : (packs : List PackFile) (i : ℕ) → IsRising packs → has_path_at path (slice_get packs i) ≡ true → list_any (has_path path) (take i packs) ≡ false
      earlier [] i rising has = absurd (let no : false ≡ true = has in cc)
      earlier (first ∷ packs) zero rising has = refl
      earlier (first ∷ packs) (suc i) rising has =
          let there = found packs i has in
          ap (λ (b : Bool). b || list_any (has_path path) (take i packs)) (first-differs packs i first there.0 rising there.1 there.2)
          ∙ earlier packs i (rising-tail first packs rising) has

  -- ---- a test and a change of the packs of one path

  module _ (test : PackFile → Bool) (fails : (pack : PackFile) → has_path path pack ≡ false → test pack ≡ false) where
    pub list_any-without : (packs : List PackFile) → list_any (has_path path) packs ≡ false → list_any test packs ≡ false
    list_any-without [] none = refl
    list_any-without (pack ∷ packs) none =
        ap (λ (b : Bool). b || list_any test packs) (fails pack (or_parts _ _ none).0) ∙ list_any-without packs (or_parts _ _ none).1

    pub list_any-rising : (packs : List PackFile) (i : ℕ) (pack : PackFile) → IsRising packs → slice_get packs i ≡ Some pack → has_path path pack ≡ true → list_any test packs ≡ test pack
    list_any-rising [] i pack rising at has = cc
    list_any-rising (first ∷ packs) zero pack rising at has =
        let same : first ≡ pack = same_Some first pack at in
        ap (λ (b : Bool). test first || b) (list_any-without packs (others-differ packs first rising (ap (has_path path) same ∙ has))) ∙ or_false (test first) ∙ ap test same
      where
        or_false : (b : Bool) → (b || false) ≡ b
        or_false true = refl
        or_false false = refl
    list_any-rising (first ∷ packs) (suc i) pack rising at has =
        ap (λ (b : Bool). b || list_any test packs) (fails first (first-differs packs i first pack rising at has))
        ∙ list_any-rising packs i pack (rising-tail first packs rising) at has

  module _ (change : PackFile → PackFile) (keeps : (pack : PackFile) → has_path path pack ≡ false → change pack ≡ pack) where
    pub map-without : (packs : List PackFile) → list_any (has_path path) packs ≡ false → map change packs ≡ packs
    map-without [] none = refl
    map-without (pack ∷ packs) none =
        ap (λ (p : PackFile). p ∷ map change packs) (keeps pack (or_parts _ _ none).0) ∙ ap (λ (ps : List PackFile). pack ∷ ps) (map-without packs (or_parts _ _ none).1)

    pub map-rising : (packs : List PackFile) (i : ℕ) (pack : PackFile) → IsRising packs → slice_get packs i ≡ Some pack → has_path path pack ≡ true → map change packs ≡ set packs i (change pack)
    map-rising [] i pack rising at has = cc
    map-rising (first ∷ packs) zero pack rising at has =
        let same : first ≡ pack = same_Some first pack at in
        ap (λ (p : PackFile). change p ∷ map change packs) same
        ∙ ap (λ (ps : List PackFile). change pack ∷ ps) (map-without packs (others-differ packs first rising (ap (has_path path) same ∙ has)))
    map-rising (first ∷ packs) (suc i) pack rising at has =
        ap (λ (p : PackFile). p ∷ map change packs) (keeps first (first-differs packs i first pack rising at has))
        ∙ ap (λ (ps : List PackFile). first ∷ ps) (map-rising packs i pack (rising-tail first packs rising) at has)

-- ---- how paths are known to rise

rising-next : (packs : List PackFile) (j : ℕ) (last next : PackFile) → slice_get packs j ≡ Some last → slice_get packs (suc j) ≡ Some next
    → path_cmp last.path next.path ≡ Less → IsRising (take (suc j) packs) → IsRising (take (suc (suc j)) packs)
rising-next [] j last next at here less rising = cc
rising-next (first ∷ []) j last next at here less rising = cc
rising-next (first ∷ second ∷ packs) zero last next at here less rising = (
  ap (λ (p : PackFile). path_cmp p.path second.path) (same_Some first last at) ∙ ap (λ (p : PackFile). path_cmp last.path p.path) (same_Some second next here) ∙ less,
  tt,
)
rising-next (first ∷ second ∷ packs) (suc j) last next at here less rising = (rising.0, rising-next (second ∷ packs) j last next at here less rising.1)

-- one more path, after the last
pub rising-more : (packs : List PackFile) (i : ℕ) (last next : PackFile) → i < length packs → 1 ≤ i → last ≡ get_or packs (i - 1) last → next ≡ get_or packs i next
    → path_cmp last.path next.path ≡ Less → IsRising (take i packs) → IsRising (take (i + 1) packs)
rising-more packs i last next within some at here less rising =
    let j = i - 1 in
    let one : i ≡ suc j = omega arith in
    let two : i + 1 ≡ suc (suc j) = omega arith in
    let there : slice_get packs i ≡ Some next = slice_get_read packs (length packs) i next refl within here in
    let next_there : slice_get packs (suc j) ≡ Some next = ap (slice_get packs) (sym one) ∙ there in
    let risen : IsRising (take (suc j) packs) = rw (← one) rising in
    let more : IsRising (take (suc (suc j)) packs) = rising-next packs j last next (slice_get_read packs (length packs) j last refl (omega arith) at) next_there less risen in
    rw two more

pub rising-one : (packs : List PackFile) → IsRising (take 1 packs)
rising-one [] = tt
rising-one (pack ∷ packs) = tt

-- another pack of the same path in its place
rising-set : (packs : List PackFile) (i : ℕ) (old new : PackFile) → IsRising packs → slice_get packs i ≡ Some old → old.path ≡ new.path → IsRising (set packs i new)
rising-set [] i old new rising at same = tt
rising-set (first ∷ []) zero old new rising at same = tt
rising-set (first ∷ []) (suc i) old new rising at same = tt
rising-set (first ∷ next ∷ packs) zero old new rising at same =
    (ap (λ (p : Path). path_cmp p next.path) (sym (ap (λ (p : PackFile). p.path) (same_Some first old at) ∙ same)) ∙ rising.0, rising.1)
rising-set (first ∷ next ∷ packs) (suc zero) old new rising at same =
    (ap (path_cmp first.path) (sym (ap (λ (p : PackFile). p.path) (same_Some next old at) ∙ same)) ∙ rising.0, rising-set (next ∷ packs) zero old new rising.1 at same)
rising-set (first ∷ next ∷ packs) (suc (suc i)) old new rising at same = (rising.0, rising-set (next ∷ packs) (suc i) old new rising.1 at same)

pub IsRising-set : (packs : List PackFile) (i : ℕ) (new : PackFile) → IsRising packs → has_path_at new.path (slice_get packs i) ≡ true → IsRising (set packs i new)
IsRising-set packs i new rising has = by (slice_get packs i) refl
  where
    by : (o : Option PackFile) → slice_get packs i ≡ o → IsRising (set packs i new)
    by None is = absurd (let no : false ≡ true = ap (has_path_at new.path) (sym is) ∙ has in cc)
    by (Some old) is = rising-set packs i old new rising is (same_path-true old.path new.path (ap (has_path_at new.path) (sym is) ∙ has))

-- what is known of paths that rise if a test holds
pub IsRisingIf-known : (known : Bool) (packs : List PackFile) → (IsTrue known → IsRising packs) → IsRisingIf known packs
IsRisingIf-known false packs rises = tt
IsRisingIf-known true packs rises = rises refl

pub IsRising-known : (known : Bool) (packs : List PackFile) → IsRisingIf known packs → known ≡ true → IsRising packs
IsRising-known false packs rising is = absurd cc
IsRising-known true packs rising is = rising

-- ---- a list, place by place

-- one more item, if there is one
pub take-next : {X : Type 0} (xs : List X) (i : ℕ) → take i xs ++ option_to_list (slice_get xs i) ≡ take (i + 1) xs
take-next xs i = let one : i + 1 ≡ suc i = omega arith in next xs i ∙ ap (λ n. take n xs) (sym one)
  where
    next : {X : Type 0} (xs : List X) (i : ℕ) → take i xs ++ option_to_list (slice_get xs i) ≡ take (suc i) xs
    next [] zero = refl
    next [] (suc i) = refl
    next (x ∷ xs) zero = refl
    next (x ∷ xs) (suc i) = ap (λ ys. x ∷ ys) (next xs i)
