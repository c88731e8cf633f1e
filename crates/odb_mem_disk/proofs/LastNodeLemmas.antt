-- The last node on the way of a path at which nothing is: the common prefix of the path and of what is just before it.
use Rattle.std.proofs.Common.{◌≡◌, ◌≢◌, true, false, ◌&&◌, [], ◌∷◌, ◌++◌, length, drop, Option, Some, None, IsSome, refl, sym, ap, subst, ◌∙◌, append_assoc, append-nil}
use Rattle.std.specs.Ordering.{ordering_then, is_lt}
use Rattle.std.specs.declared.cmp.Ordering.TheVariants.{Less, Equal, Greater}
use Rattle.std.specs.Cmp.{tied_itself}
use Rattle.std.specs.Cmp.Lexicographic.{nat_list_cmp_total, nat_list_eq_equiv}
use Rattle.std.specs.FinMap.{nat_cmp-IsAntisymmetric, slice_cmp-IsAntisymmetric}
use Rattle.std.specs.List.{starts_with}
use Rattle.std.proofs.lemmas.Bool.{false≢true, and_from}
use Rattle.std.proofs.lemmas.List.{append_cancel_left}
use Rattle.odb_base.specs.Path.{Name, Path, HasSameFirst, IsCommonFront, name_cmp, path_cmp, same_name}
use Rattle.odb_base.specs.PathLaws.{goes_beyond}
use Rattle.odb_disk.specs.Tree.{Tree, IsTree, node_at, is_directory}
use Rattle.odb_disk.specs.TreeCalls.{IsLastBefore}
use Rattle.odb_disk.proofs.TreeLemmas.Follow.{IsShort, IsDir-from, way_is_directory}

-- ---- paths in order

-- a path isn't before its own prefix
front_not_behind : (front rest : Path) → path_cmp (front ++ rest) front ≢ Less
front_not_behind [] [] e = cc
front_not_behind [] (name ∷ rest) e = cc
front_not_behind (step ∷ front) rest e =
    front_not_behind front rest (sym (ap (λ o. ordering_then o (path_cmp (front ++ rest) front)) (tied_itself nat_list_cmp_total step)) ∙ e)

-- what goes beyond a path is after it
beyond_behind : (front : Path) (name : Name) (rest : Path) → path_cmp front (front ++ name ∷ rest) ≡ Less
beyond_behind [] name rest = refl
beyond_behind (step ∷ front) name rest = ap (λ o. ordering_then o (path_cmp front (front ++ name ∷ rest))) (tied_itself nat_list_cmp_total step) ∙ beyond_behind front name rest

-- what is between a prefix and a path that goes beyond it begins with the prefix
begins_between : (front q rest : Path) → is_lt (path_cmp q front) ≡ false → path_cmp q (front ++ rest) ≡ Less → starts_with same_name q front ≡ true
begins_between [] q rest behind before = refl
begins_between (step ∷ front) [] rest behind before = absurd (false≢true (sym behind))
begins_between (step ∷ front) (x ∷ q) rest behind before =
    elim (name_cmp x step) as (λ o. name_cmp x step ≡ o → is_lt (ordering_then o (path_cmp q front)) ≡ false
    → ordering_then o (path_cmp q (front ++ rest)) ≡ Less → (same_name step x && starts_with same_name q front) ≡ true) [
      | Less ↦ λ is under _. absurd (false≢true (sym under))
      | Equal ↦ λ is under over.
          let same : step ≡ x = sym (slice_cmp-IsAntisymmetric nat_cmp-IsAntisymmetric x step is) in
          and_from _ _ (ap (same_name step) (sym same) ∙ nat_list_eq_equiv.refl step) (begins_between front q rest under over)
      | Greater ↦ λ is _ over. cc
    ] refl behind before

-- ---- the last node on the way

-- the root is before each other path
root_first : (t : Tree) → IsTree t → (path : Path) → node_at t path ≡ None → path_cmp [] path ≡ Less
root_first t is_tree [] absent = absurd (false≢true (sym (ap is_directory absent) ∙ is_tree.root))
root_first t is_tree (name ∷ path) absent = refl

pub some_not_none : {A : Type 0} (o : Option A) → IsSome o → o ≢ None
some_not_none None h e = false≢true h
some_not_none (Some x) h e = cc

-- something is before a path at which nothing is
pub some_before : (t : Tree) (path : Path) → IsTree t → node_at t path ≡ None → ¬ IsLastBefore t path None
some_before t path is_tree absent none = false≢true (sym (ap is_directory (none [] (root_first t is_tree path absent))) ∙ is_tree.root)

module _ (t : Tree) (path last way : Path) (is_tree : IsTree t) (absent : node_at t path ≡ None) (before : IsLastBefore t path (Some last)) (common : IsCommonFront path last way) where
  -- the common prefix is a node
  stands : (its : Path) → last ≡ way ++ its → IsSome (node_at t way)
  stands [] is = subst (λ q. IsSome (node_at t q)) (is ∙ append-nil way) before.1
  stands (name ∷ its) is =
      elim (node_at t last) as (λ o. node_at t last ≡ o → IsSome o → IsSome (node_at t way)) [
        | None ↦ λ _ h. absurd (false≢true h)
        | Some n ↦ λ at _.
            let d = IsDir-from t way (way_is_directory t is_tree way name its n (ap (node_at t) (sym is) ∙ at)) in
            subst IsSome (sym d.at) refl
      ] refl before.1

  pub way_stands : IsSome (node_at t way)
  way_stands = stands common.its common.other_is

  -- nothing is at the next name: it would be in between
  nothing_next : (name : Name) (names : Path) → path ≡ way ++ name ∷ names → common.own ≡ name ∷ names → IsSome (node_at t (way ++ name ∷ [])) → ⊥
  nothing_next name [] is own_is stands_there = some_not_none _ stands_there (ap (node_at t) (sym is) ∙ absent)
  nothing_next name (next ∷ names) is own_is stands_there =
      let front = way ++ name ∷ [] in
      let whole : path ≡ front ++ next ∷ names = is ∙ sym (append_assoc way (name ∷ []) (next ∷ names)) in
      let earlier : path_cmp front path ≡ Less = ap (path_cmp front) whole ∙ beyond_behind front next names in
      let begins = begins_between front last (next ∷ names) (before.2 front earlier stands_there) (ap (path_cmp last) (sym whole) ∙ before.0) in
      let more = drop (length front) last in
      let beyond : last ≡ way ++ name ∷ more = goes_beyond last front begins ∙ append_assoc way (name ∷ []) more in
      alike (append_cancel_left way common.its (name ∷ more) (sym common.other_is ∙ beyond)) own_is
    where
      alike : common.its ≡ name ∷ drop (length (way ++ name ∷ [])) last → common.own ≡ name ∷ next ∷ names → ⊥
      alike its_is own = subst (λ p. HasSameFirst p (name ∷ drop (length (way ++ name ∷ [])) last) None) own (subst (λ p. HasSameFirst common.own p None) its_is common.apart) refl

  short_at : (own : Path) → common.own ≡ own → IsShort t path way
  short_at [] own_is =
      let same : path ≡ way = common.path_is ∙ ap (λ r. way ++ r) own_is ∙ append-nil way in
      absurd (front_not_behind path common.its (ap (λ q. path_cmp q path) (ap (λ w. w ++ common.its) same ∙ sym common.other_is) ∙ before.0))
  short_at (name ∷ names) own_is =
      let is : path ≡ way ++ name ∷ names = common.path_is ∙ ap (λ r. way ++ r) own_is in
      record { name = name; names = names; whole = is; lacks = none_of (node_at t (way ++ name ∷ [])) (nothing_next name names is own_is) }
    where
      none_of : {A : Type 0} (o : Option A) → (IsSome o → ⊥) → o ≡ None
      none_of None h = refl
      none_of (Some x) h = absurd (h refl)

  pub short_of_common : IsShort t path way
  short_of_common = short_at common.own refl
