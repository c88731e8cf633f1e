-- The first node after a path, and what is below an entry of a directory.
use Rattle.std.proofs.Common.{◌≡◌, ◌≢◌, ◌&&◌, Bool, true, false, cond, [], ◌∷◌, ◌++◌, length, drop, map, Option, Some}
use Rattle.std.proofs.Common.{None, IsSome, is_some, T, refl, sym, ap, subst, ◌∙◌, append-nil, length-append, arith}
use Rattle.std.specs.Ordering.{is_lt, is_gt, ordering_reverse}
use Rattle.std.specs.declared.cmp.Ordering.{Ordering}
use Rattle.std.specs.declared.cmp.Ordering.TheVariants.{Less, Equal, Greater}
use Rattle.std.specs.Cmp.{tied_itself}
use Rattle.std.specs.FinMap.{find, is_sorted}
use Rattle.std.specs.FinMap.Entries.{below_all, same_entries}
use Rattle.std.specs.List.{AllByRecursion, cons_option, starts_with}
use Rattle.std.specs.List.Sorted.{IsStrictlySortedBy}
use Rattle.std.proofs.lemmas.Bool.{false≢true, false_from_ne_true}
use Rattle.odb_base.specs.Path.{Path, path_cmp, same_name}
use Rattle.odb_base.specs.PathLaws.{path_order, one_place, goes_beyond}
use Rattle.odb_disk.specs.Tree.{tree_of_entries}
use Rattle.odb_disk.specs.Tree.Nodes.{entries_of, entries_of-sorted, node_at-entries_of, node_at-tree_of_entries}
use Rattle.odb_disk.specs.Entries.{entry_in}
use Rattle.odb_disk.specs.declared.node.Node.{Node}
use Rattle.odb_disk.proofs.TreeLemmas.{own_path}
use Rattle.odb_disk.proofs.TreeLemmas.MovedTree.{goes_on}
use Rattle.odb_mem_disk.proofs.NamesLemmas.{begins_between}
use Rattle.odb_mem_disk.proofs.TreeMovesLemmas.{before_rest}
use Rattle.odb_mem_disk.proofs.EntriesLemmas.{Nodes, behind, entries_among, no_entry}

-- ---- tests

both : (a b : Bool) → T a → T b → T (a && b)
both true b p q = q
both false b p q = p

pub first : (a b : Bool) → T (a && b) → T a
first true b p = tt
first false b p = p

second : (a b : Bool) → T (a && b) → T b
second true b p = p
second false b p = absurd p

less : (o : Ordering) → T (is_lt o) → o ≡ Less
less Less p = refl
less Equal p = absurd p
less Greater p = absurd p

of_test : (b : Bool) → T b → b ≡ true
of_test true p = refl
of_test false p = absurd p

lt_less : (o : Ordering) → is_lt o ≡ true → o ≡ Less
lt_less Less is = refl
lt_less Equal is = absurd (cc)
lt_less Greater is = absurd (cc)

gt_reverse : (o : Ordering) → is_gt (ordering_reverse o) ≡ is_lt o
gt_reverse Less = refl
gt_reverse Equal = refl
gt_reverse Greater = refl

not_greater : (o : Ordering) → T (is_lt o) → is_gt o ≡ false
not_greater Less p = refl
not_greater Equal p = absurd p
not_greater Greater p = absurd p

-- ---- nodes in the order of their paths

below_all-from : (path : Path) (es : Nodes) → AllByRecursion (λ q. path_cmp path q ≡ Less) (map (λ e. e.0) es) → T (below_all path_cmp path es)
below_all-from path [] all = tt
below_all-from path (e ∷ es) all = both _ _ (subst (λ o. T (is_lt o)) (sym all.0) tt) (below_all-from path es all.1)

pub is_sorted-from : (es : Nodes) → IsStrictlySortedBy path_cmp (map (λ e. e.0) es) → T (is_sorted path_cmp es)
unfolding IsStrictlySortedBy
is_sorted-from [] sorted = tt
is_sorted-from (e ∷ es) sorted = both _ _ (below_all-from e.0 es sorted.0) (is_sorted-from es sorted.1)

-- nodes in order are those of the tree that they make
pub entries_of-tree : (es : Nodes) → T (is_sorted path_cmp es) → entries_of (tree_of_entries es) ≡ es
entries_of-tree es sorted =
    let t = tree_of_entries es in
    same_entries path_cmp path_order one_place (entries_of t) es (entries_of-sorted t) sorted (λ q. sym (node_at-entries_of t q) ∙ node_at-tree_of_entries es q)

behind-cons : (last : Path) (e : Path × Node) (es : Nodes) (b : Bool) → is_lt (path_cmp last e.0) ≡ b → behind last (e ∷ es) ≡ cond b (e ∷ behind last es) (behind last es)
behind-cons last e es true is = ap (λ b. cond (b && true) (e ∷ behind last es) (behind last es)) is
behind-cons last e es false is = ap (λ b. cond (b && true) (e ∷ behind last es) (behind last es)) is

-- all are after what is before them
all_behind : (last : Path) (es : Nodes) → T (below_all path_cmp last es) → behind last es ≡ es
all_behind last [] below = refl
all_behind last (e ∷ es) below = behind-cons last e es true (of_test _ (first _ _ below)) ∙ ap (λ l. e ∷ l) (all_behind last es (second _ _ below))

below_earlier : (x y : Path) (es : Nodes) → path_cmp x y ≡ Less → T (below_all path_cmp y es) → T (below_all path_cmp x es)
below_earlier x y [] earlier below = tt
below_earlier x y (e ∷ es) earlier below =
    both _ _ (subst (λ o. T (is_lt o)) (sym (path_order.trans x y e.0 earlier (less _ (first _ _ below)))) tt) (below_earlier x y es earlier (second _ _ below))

pub below_all-behind : (p : Path) (es : Nodes) → T (below_all path_cmp p (behind p es))
below_all-behind p [] = tt
below_all-behind p (e ∷ es) =
    elim (is_lt (path_cmp p e.0)) as (λ b. is_lt (path_cmp p e.0) ≡ b → T (below_all path_cmp p (cond (b && true) (e ∷ behind p es) (behind p es)))) [
      | true ↦ λ is. both _ _ (subst T (sym is) tt) (below_all-behind p es)
      | false ↦ λ _. below_all-behind p es
    ] refl

-- ---- what is found among nodes

some_either : (b : Bool) (n : Node) (o : Option Node) → IsSome o → IsSome (cond b (Some n) o)
some_either true n o some = refl
some_either false n o some = some

own_found : (e : Path × Node) (es : Nodes) → find path_cmp e.0 (e ∷ es) ≡ Some e.1
own_found e es = ap (λ b. cond b (Some e.1) (find path_cmp e.0 es)) (own_path e.0)

-- ---- the first node after a path

module _ (q p : Path) (n : Node) (more : Nodes) where
  pub first_later : (es : Nodes) → behind q es ≡ (p, n) ∷ more → path_cmp q p ≡ Less
  first_later [] is = cc
  first_later (e ∷ es) is =
      elim (is_lt (path_cmp q e.0)) as (λ b. is_lt (path_cmp q e.0) ≡ b → path_cmp q p ≡ Less) [
        | true ↦ λ after.
            let joined : e ∷ behind q es ≡ (p, n) ∷ more = sym (behind-cons q e es true after) ∙ is in
            let same : e ≡ (p, n) = cc in
            ap (path_cmp q) (sym (ap (λ x. x.0) same)) ∙ lt_less _ after
        | false ↦ λ before. first_later es (sym (behind-cons q e es false before) ∙ is)
      ] refl

  pub first_found : (es : Nodes) → behind q es ≡ (p, n) ∷ more → IsSome (find path_cmp p es)
  first_found [] is = absurd (cc)
  first_found (e ∷ es) is =
      elim (is_lt (path_cmp q e.0)) as (λ b. is_lt (path_cmp q e.0) ≡ b → IsSome (find path_cmp p (e ∷ es))) [
        | true ↦ λ after.
            let joined : e ∷ behind q es ≡ (p, n) ∷ more = sym (behind-cons q e es true after) ∙ is in
            let same : e ≡ (p, n) = cc in
            subst (λ x. IsSome (find path_cmp x (e ∷ es))) (ap (λ x. x.0) same) (ap is_some (own_found e es))
        | false ↦ λ before. some_either _ _ _ (first_found es (sym (behind-cons q e es false before) ∙ is))
      ] refl

  -- what is after the first node is what is after it in turn
  pub behind_first : (es : Nodes) → T (is_sorted path_cmp es) → behind q es ≡ (p, n) ∷ more → behind p es ≡ more
  behind_first [] sorted is = absurd (cc)
  behind_first (e ∷ es) sorted is =
      elim (is_lt (path_cmp q e.0)) as (λ b. is_lt (path_cmp q e.0) ≡ b → behind p (e ∷ es) ≡ more) [
        | true ↦ λ after.
            let joined : e ∷ behind q es ≡ (p, n) ∷ more = sym (behind-cons q e es true after) ∙ is in
            let same : e ≡ (p, n) = cc in
            let left : behind q es ≡ more = cc in
            let at : e.0 ≡ p = ap (λ x. x.0) same in
            let own : is_lt (path_cmp p e.0) ≡ false = ap is_lt (ap (path_cmp p) at ∙ tied_itself path_order p) in
            let below : T (below_all path_cmp p es) = subst (λ x. T (below_all path_cmp x es)) at (first _ _ sorted) in
            behind-cons p e es false own ∙ all_behind p es below ∙ sym (all_behind q es (below_earlier q p es (first_later (e ∷ es) is) below)) ∙ left
        | false ↦ λ before.
            let so_on : behind q es ≡ (p, n) ∷ more = sym (behind-cons q e es false before) ∙ is in
            let not_behind : is_lt (path_cmp p e.0) ≡ false = false_from_ne_true _ (λ lt.
            false≢true (sym before ∙ ap is_lt (path_order.trans q p e.0 (first_later es so_on) (lt_less _ lt)))) in
            behind-cons p e es false not_behind ∙ behind_first es (second _ _ sorted) so_on
      ] refl

-- ---- what is below an entry of a directory

module _ (directory p last : Path) (below : starts_with same_name p directory ≡ true) (deeper : path_cmp directory p ≡ Less) where
  no_entry_below : (at : Path × Node) → path_cmp p at.0 ≡ Less → starts_with same_name at.0 p ≡ true → entry_in directory at ≡ None
  no_entry_below at later under = no_entry directory at (λ name is.
      let own = goes_on p directory below (apart p directory deeper) in
      let more = goes_on at.0 p under (apart at.0 p later) in
      let l1 : length p ≡ length (directory ++ own.0 ∷ own.1) = ap length own.2 in
      let l2 : length at.0 ≡ length (p ++ more.0 ∷ more.1) = ap length more.2 in
      let l3 : length at.0 ≡ length (directory ++ name ∷ []) = ap length is in
      let k1 = length-append directory (own.0 ∷ own.1) in
      let k2 = length-append p (more.0 ∷ more.1) in
      let k3 = length-append directory (name ∷ []) in
      omega arith)
    where
      apart : (q base : Path) → path_cmp base q ≡ Less → q ≢ base
      apart q base is same = let both_are : Less ≡ Equal = sym is ∙ ap (path_cmp base) same ∙ tied_itself path_order base in cc

  module _ (rest : Path) (whole : last ≡ p ++ rest) (further : path_cmp p last ≡ Less) where
    -- what is there up to the last path below an entry has no entry
    pub passed : (es : Nodes) → entries_among directory (behind p es) ≡ entries_among directory (behind last es)
    passed [] = refl
    passed (e ∷ es) =
        let so_on = passed es in
        elim (is_lt (path_cmp last e.0)) as (λ b. is_lt (path_cmp last e.0) ≡ b → entries_among directory (behind p (e ∷ es)) ≡ entries_among directory (behind last (e ∷ es))) [
          | true ↦ λ after.
              let after_p : is_lt (path_cmp p e.0) ≡ true = ap is_lt (path_order.trans p last e.0 further (lt_less _ after)) in
              ap (entries_among directory) (behind-cons p e es true after_p) ∙ ap (cons_option (entry_in directory e)) so_on ∙ sym (ap (entries_among directory) (behind-cons last e es true after))
          | false ↦ λ up_to.
              let not_over : is_gt (path_cmp e.0 (p ++ rest)) ≡ false =
              ap (λ q. is_gt (path_cmp e.0 q)) (sym whole) ∙ ap is_gt (path_order.antisymm e.0 last) ∙ gt_reverse (path_cmp last e.0) ∙ up_to in
              elim (is_lt (path_cmp p e.0)) as (λ b. is_lt (path_cmp p e.0) ≡ b → entries_among directory (behind p (e ∷ es)) ≡ entries_among directory (behind last (e ∷ es))) [
                | true ↦ λ after.
                    let none = no_entry_below e (lt_less _ after) (begins_between p e.0 rest (lt_less _ after) not_over) in
                    ap (entries_among directory) (behind-cons p e es true after) ∙ ap (λ o. cons_option o (entries_among directory (behind p es))) none ∙ so_on
                    ∙ sym (ap (entries_among directory) (behind-cons last e es false up_to))
                | false ↦ λ before.
                    ap (entries_among directory) (behind-cons p e es false before) ∙ so_on ∙ sym (ap (entries_among directory) (behind-cons last e es false up_to))
              ] refl
        ] refl

  pub skipped : starts_with same_name last p ≡ true → (es : Nodes) → entries_among directory (behind p es) ≡ entries_among directory (behind last es)
  skipped begins es = by_rest (drop (length p) last) (goes_beyond last p begins)
    where
      by_rest : (rest : Path) → last ≡ p ++ rest → entries_among directory (behind p es) ≡ entries_among directory (behind last es)
      by_rest [] whole = ap (λ q. entries_among directory (behind q es)) (sym (whole ∙ append-nil p))
      by_rest (name ∷ names) whole = passed (name ∷ names) whole (ap (path_cmp p) whole ∙ before_rest p name names) es

-- what begins with a later path is later too
pub later_still : (last path to : Path) → path_cmp last path ≡ Less → starts_with same_name to path ≡ true → path_cmp last to ≡ Less
later_still last path to later begins = by_rest (drop (length path) to) (goes_beyond to path begins)
  where
    by_rest : (rest : Path) → to ≡ path ++ rest → path_cmp last to ≡ Less
    by_rest [] whole = ap (path_cmp last) (whole ∙ append-nil path) ∙ later
    by_rest (name ∷ names) whole = path_order.trans last path to later (ap (path_cmp path) whole ∙ before_rest path name names)

-- no entry is after a path that is after the directory and isn't in it
module _ (directory path : Path) (later : path_cmp directory path ≡ Less) (other : starts_with same_name path directory ≡ false) where
  pub no_entry_after : (at : Path × Node) → is_gt (path_cmp path at.0) ≡ false → entry_in directory at ≡ None
  no_entry_after at after = no_entry directory at (λ name is.
      false≢true (sym other ∙ begins_between directory path (name ∷ []) later (ap (λ q. is_gt (path_cmp path q)) (sym is) ∙ after)))

  pub none_after : (es : Nodes) → T (below_all path_cmp path es) → entries_among directory es ≡ []
  none_after [] below = refl
  none_after (e ∷ es) below = ap (λ o. cons_option o (entries_among directory es)) (no_entry_after e (not_greater _ (first _ _ below))) ∙ none_after es (second _ _ below)
