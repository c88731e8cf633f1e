-- The loop that gathers the paths below a directory.
use Rattle.std.proofs.Common.{◌≡◌, ◌≢◌, ◌⊎◌, ℕ, zero, suc, ◌+◌, ◌<◌, ◌≤◌, Bool, true, false, cond, List, [], ◌∷◌, ◌++◌, length}
use Rattle.std.proofs.Common.{get_or, drop, Option, Some, None, IsSome, is_some, refl, sym, ap, ◌∙◌, subst, inl, inr, arith}
use Rattle.std.specs.Ordering.{eq_by_cmp, is_lt, is_gt, ordering_then}
use Rattle.std.specs.declared.cmp.Ordering.{Ordering}
use Rattle.std.specs.declared.cmp.Ordering.TheVariants.{Less, Equal, Greater}
use Rattle.std.specs.Cmp.{tied_itself}
use Rattle.std.specs.Cmp.Lexicographic.{nat_list_cmp_total}
use Rattle.std.specs.Map.{lookup}
use Rattle.std.specs.BTreeMap.{is_at}
use Rattle.std.proofs.lemmas.Bool.{false≢true, or_cases, or_left, or_right, or_parts}
use Rattle.odb_base.specs.Path.{Name, Path, path_cmp, name_cmp}
use Rattle.odb_base.specs.PathLaws.{path_order, one_place, goes_beyond}
use Rattle.odb_disk.specs.Tree.{Tree, node_at}
use Rattle.odb_mem_disk.specs.TreeMoves.{IsNextBelow, NoneBehind, is_among}
use Rattle.odb_disk.specs.declared.node.Node.{Node}
use Rattle.odb_disk.proofs.TreeLemmas.{same_path, own_path, cases_path}
use Rattle.odb_disk.proofs.TreeLemmas.Moved.{begins, begins-own}
use Rattle.odb_disk.proofs.TreeLemmas.MovedTree.{goes_on}
use Rattle.odb_mem_disk.proofs.NamesLemmas.{begins_between}

-- ---- paths in order

pub before_rest : (directory : Path) (name : Name) (names : Path) → path_cmp directory (directory ++ name ∷ names) ≡ Less
before_rest [] name names = refl
before_rest (step ∷ steps) name names = ap (λ o. ordering_then o (path_cmp steps (steps ++ name ∷ names))) (tied_itself nat_list_cmp_total step) ∙ before_rest steps name names

-- a directory is before all that is after what is below it
before_all : (base rest p : Path) → path_cmp (base ++ rest) p ≡ Less → path_cmp base p ≡ Less
before_all [] [] [] less = absurd (cc)
before_all [] (x ∷ xs) [] less = absurd (cc)
before_all [] rest (x ∷ xs) less = refl
before_all (b ∷ bs) rest [] less = absurd (cc)
before_all (b ∷ bs) rest (x ∷ xs) less =
    let deeper : path_cmp (bs ++ rest) xs ≡ Less → path_cmp bs xs ≡ Less = before_all bs rest xs in
    elim (name_cmp b x) as (λ o. ordering_then o (path_cmp (bs ++ rest) xs) ≡ Less → ordering_then o (path_cmp bs xs) ≡ Less) [
      | Less ↦ λ _. refl
      | Equal ↦ λ e. deeper e
      | Greater ↦ λ e. absurd (cc)
    ] less

pub under_before : (base last p : Path) → begins last base ≡ true → path_cmp last p ≡ Less → path_cmp base p ≡ Less
under_before base last p under behind = before_all base (drop (length base) last) p (ap (λ q. path_cmp q p) (sym (goes_beyond last base under)) ∙ behind)

order_cases : (p q : Path) → is_gt (path_cmp p q) ≡ false → (path_cmp p q ≡ Less) ⊎ (p ≡ q)
order_cases p q le =
    elim (path_cmp p q) as (λ o. path_cmp p q ≡ o → is_gt o ≡ false → (path_cmp p q ≡ Less) ⊎ (p ≡ q)) [
      | Less ↦ λ is _. inl is
      | Equal ↦ λ is _. inr (one_place p q is)
      | Greater ↦ λ _ e. absurd (cc)
    ] refl le

pub none_from : (o : Option Node) → (is_some o ≡ true → ⊥) → o ≡ None
none_from None other = refl
none_from (Some n) other = absurd (other refl)

-- if the first node after a path is elsewhere, none is below the directory
pub none_behind : (t : Tree) (base last p : Path) → begins last base ≡ true → path_cmp last p ≡ Less → ((q : Path) → path_cmp last q ≡ Less → IsSome (node_at t q) → is_gt (path_cmp p q) ≡ false)
    → begins p base ≡ false → NoneBehind t base last
none_behind t base last p under behind least other q below later = none_from (node_at t q) (λ some.
    let whole = goes_beyond q base below in
    false≢true (sym other ∙ begins_between base p (drop (length base) q) (under_before base last p under behind) (ap (λ r. is_gt (path_cmp p r)) (sym whole) ∙ least q later some)))

-- ---- which paths are among others

pub among_old : (q p : Path) (ps : List Path) → is_among q ps ≡ true → is_among q (ps ++ p ∷ []) ≡ true
among_old q p [] is = absurd (false≢true is)
among_old q p (r ∷ rs) is =
    let own_test = eq_by_cmp path_cmp q r in
    elim (or_cases own_test (is_among q rs) is) [ inl own ↦ or_left own_test (is_among q (rs ++ p ∷ [])) own | inr rest ↦ or_right own_test (is_among q (rs ++ p ∷ [])) (among_old q p rs rest) ]

pub among_new : (q p : Path) (ps : List Path) → q ≡ p → is_among q (ps ++ p ∷ []) ≡ true
among_new q p [] same = or_left _ _ (ap (eq_by_cmp path_cmp q) (sym same) ∙ own_path q)
among_new q p (r ∷ rs) same = or_right _ _ (among_new q p rs same)

pub among_cases : (q p : Path) (ps : List Path) → is_among q (ps ++ p ∷ []) ≡ true → (is_among q ps ≡ true) ⊎ (q ≡ p)
among_cases q p [] is = elim (or_cases _ _ is) [ inl own ↦ inr (same_path q p own) | inr none ↦ absurd (false≢true none) ]
among_cases q p (r ∷ rs) is =
    let own_test = eq_by_cmp path_cmp q r in
    elim (or_cases own_test (is_among q (rs ++ p ∷ [])) is) [
      | inl own ↦ inl (or_left own_test (is_among q rs) own)
      | inr rest ↦ elim (among_cases q p rs rest) [ inl old ↦ inl (or_right own_test (is_among q rs) old) | inr same ↦ inr same ]
    ]

pub among_first : (q p : Path) (ps : List Path) → is_among q (p ∷ ps) ≡ false → (q ≢ p) × (is_among q ps ≡ false)
among_first q p ps is = let parts = or_parts _ _ is in (λ same. false≢true (sym parts.0 ∙ ap (eq_by_cmp path_cmp q) (sym same) ∙ own_path q), parts.1)

pub among_at : (ds : List Path) (i : ℕ) (d : Path) → i < length ds → d ≡ get_or ds i d → is_among d ds ≡ true
among_at [] i d h is = absurd (omega arith)
among_at (x ∷ xs) zero d h is = or_left _ _ (ap (eq_by_cmp path_cmp d) (sym is) ∙ own_path d)
among_at (x ∷ xs) (suc i) d h is = or_right _ _ (among_at xs i d (omega arith) is)

-- ---- the loop that gathers the paths below a directory

-- those up to a path are gathered, and the others are after it
pub record AreSoFar (t : Tree) (base last : Path) (paths : List Path) : Type 0 where
  pub under : begins last base ≡ true
  pub below : (q : Path) → is_among q paths ≡ true → begins q base ≡ true
  pub stand : (q : Path) → is_among q paths ≡ true → IsSome (node_at t q)
  pub behind : (q : Path) → begins q base ≡ true → IsSome (node_at t q) → (path_cmp last q ≡ Less) ⊎ (is_among q paths ≡ true)

pub so_far_first : (t : Tree) (base : Path) → IsSome (node_at t base) → AreSoFar t base base (base ∷ [])
so_far_first t base some = record {
  under = begins-own base;
  below = λ q is. elim (among_cases q base [] is) [ inl none ↦ absurd (false≢true none) | inr same ↦ ap (λ r. begins r base) same ∙ begins-own base ];
  stand = λ q is. elim (among_cases q base [] is) [ inl none ↦ absurd (false≢true none) | inr same ↦ subst (λ r. IsSome (node_at t r)) (sym same) some ];
  behind = λ q below _. elim (cases_path q base) [
    | inl same ↦ inr (among_new q base [] same)
    | inr apart ↦ let g = goes_on q base below apart in inl (ap (path_cmp base) g.2 ∙ before_rest base g.0 g.1)
  ];
}

pub so_far_next : (t : Tree) (base last p : Path) (paths : List Path) → AreSoFar t base last paths → IsNextBelow t base last p → AreSoFar t base p (paths ++ p ∷ [])
so_far_next t base last p paths so next = record {
  under = next.below;
  below = λ q is. elim (among_cases q p paths is) [ inl old ↦ so.below q old | inr same ↦ ap (λ r. begins r base) same ∙ next.below ];
  stand = λ q is. elim (among_cases q p paths is) [ inl old ↦ so.stand q old | inr same ↦ subst (λ r. IsSome (node_at t r)) (sym same) next.stands ];
  behind = λ q below some. elim (so.behind q below some) [
    | inl later ↦ elim (order_cases p q (next.least q later some)) [ inl less ↦ inl less | inr same ↦ inr (among_new q p paths (sym same)) ]
    | inr old ↦ inr (among_old q p paths old)
  ];
}

-- the number of entries after a path
pub behind_count : List (Path × Node) → Path → ℕ
behind_count [] last = 0
behind_count (e ∷ es) last = cond (is_lt (path_cmp last e.0)) 1 0 + behind_count es last

lt_less : (o : Ordering) → is_lt o ≡ true → o ≡ Less
lt_less Less is = refl
lt_less Equal is = absurd (cc)
lt_less Greater is = absurd (cc)

cond_le : (b c : Bool) → (b ≡ true → c ≡ true) → cond b 1 0 ≤ cond c 1 0
cond_le true true both = omega arith
cond_le true false both = absurd (false≢true (both refl))
cond_le false true both = omega arith
cond_le false false both = omega arith

module _ (last p : Path) (later : path_cmp last p ≡ Less) where
  behind_le : (es : List (Path × Node)) → behind_count es p ≤ behind_count es last
  unfolding behind_count
  behind_le [] = omega arith
  behind_le (e ∷ es) =
      let rest = behind_le es in
      let one = cond_le (is_lt (path_cmp p e.0)) (is_lt (path_cmp last e.0)) (λ lt. ap is_lt (path_order.trans last p e.0 later (lt_less _ lt))) in
      omega arith

  -- fewer are after a later one
  pub fewer_behind : (es : List (Path × Node)) → IsSome (lookup (is_at (path_cmp p)) es) → behind_count es p < behind_count es last
  unfolding behind_count
  fewer_behind [] some = absurd (false≢true some)
  fewer_behind (e ∷ es) some =
      elim (eq_by_cmp path_cmp p e.0) as (λ b. eq_by_cmp path_cmp p e.0 ≡ b → IsSome (cond b (Some e.1) (lookup (is_at (path_cmp p)) es)) → behind_count (e ∷ es) p < behind_count (e ∷ es) last) [
        | true ↦ λ tied _.
            let same = same_path p e.0 tied in
            let rest = behind_le es in
            let own : cond {A = ℕ} (is_lt (path_cmp p e.0)) 1 0 ≡ 0 = ap (λ o. cond {A = ℕ} (is_lt o) 1 0) (ap (path_cmp p) (sym same) ∙ tied_itself path_order p) in
            let counted : cond {A = ℕ} (is_lt (path_cmp last e.0)) 1 0 ≡ 1 = ap (λ o. cond {A = ℕ} (is_lt o) 1 0) (ap (path_cmp last) (sym same) ∙ later) in
            omega arith
        | false ↦ λ _ there.
            let rest = fewer_behind es there in
            let one = cond_le (is_lt (path_cmp p e.0)) (is_lt (path_cmp last e.0)) (λ lt. ap is_lt (path_order.trans last p e.0 later (lt_less _ lt))) in
            omega arith
      ] refl some
