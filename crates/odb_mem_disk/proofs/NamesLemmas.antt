-- The first path after a directory's shows whether the directory has names in it.
use Rattle.std.proofs.Common.{◌≡◌, Bool, true, false, not, ◌&&◌, [], ◌∷◌, ◌++◌, length, take, drop, Some, None, refl, sym, ap, ◌∙◌, append-nil, append_assoc}
use Rattle.std.specs.Ordering.{ordering_then, ordering_reverse, is_gt}
use Rattle.std.specs.declared.cmp.Ordering.TheVariants.{Less, Equal, Greater}
use Rattle.std.specs.Cmp.{tied_itself}
use Rattle.std.specs.Cmp.Lexicographic.{nat_list_cmp_total, nat_list_eq_equiv, same_text}
use Rattle.std.specs.FinMap.{nat_cmp-IsAntisymmetric, slice_cmp-IsAntisymmetric}
use Rattle.std.specs.List.{starts_with}
use lib.Pointwise.{pointwise}
use Rattle.std.proofs.lemmas.Bool.{false≢true, and_parts, and_from, false_from_ne_true}
use Rattle.std.proofs.lemmas.List.{take-append-drop}
use Rattle.odb_base.specs.Path.{Name, Path, name_cmp, path_cmp, same_name}
use Rattle.odb_disk.specs.Tree.{Tree, IsTree, node_at, names_in}
use Rattle.odb_disk.specs.Tree.Change.{is_nil}
use Rattle.odb_disk.specs.declared.node.Node.{Node}
use Rattle.odb_base.specs.PathLaws.{path_order}
use Rattle.odb_disk.proofs.TreeLemmas.Follow.{IsDir-from, way_is_directory}
use Rattle.odb_disk.proofs.TreeLemmas.Change.{no_names_below, nil_names}

-- ---- paths in order

-- a directory is before what is directly in it
pub before_names : (directory : Path) (name : Name) → path_cmp directory (directory ++ name ∷ []) ≡ Less
before_names [] name = refl
before_names (step ∷ steps) name = ap (λ o. ordering_then o (path_cmp steps (steps ++ name ∷ []))) (tied_itself nat_list_cmp_total step) ∙ before_names steps name

-- a path between a directory and one below it begins with the directory
pub begins_between : (directory q rest : Path) → path_cmp directory q ≡ Less → is_gt (path_cmp q (directory ++ rest)) ≡ false → starts_with same_name q directory ≡ true
begins_between [] [] rest behind before = refl
begins_between [] (x ∷ xs) rest behind before = refl
begins_between (step ∷ steps) [] rest behind before = cc
begins_between (step ∷ steps) (x ∷ xs) rest behind before =
    let deeper : path_cmp steps xs ≡ Less → is_gt (path_cmp xs (steps ++ rest)) ≡ false → starts_with same_name xs steps ≡ true = begins_between steps xs rest in
    elim (name_cmp step x) as (λ o. name_cmp step x ≡ o → ordering_then o (path_cmp steps xs) ≡ Less → (same_name step x && starts_with same_name xs steps) ≡ true) [
      | Less ↦ λ is _.
          let over : name_cmp x step ≡ Greater = nat_list_cmp_total.antisymm x step ∙ ap ordering_reverse is in
          absurd (false≢true (sym before ∙ ap (λ o. is_gt (ordering_then o (path_cmp xs (steps ++ rest)))) over))
      | Equal ↦ λ is less.
          let same : step ≡ x = slice_cmp-IsAntisymmetric nat_cmp-IsAntisymmetric step x is in
          let tied : name_cmp x step ≡ Equal = ap (λ n. name_cmp x n) same ∙ tied_itself nat_list_cmp_total x in
          and_from _ _ (ap (same_name step) (sym same) ∙ nat_list_eq_equiv.refl step)
          (deeper less (ap (λ o. is_gt (ordering_then o (path_cmp xs (steps ++ rest)))) (sym tied) ∙ before))
      | Greater ↦ λ _ less. cc
    ] refl behind

pub same_paths : (xs ys : Path) → pointwise same_name xs ys ≡ true → xs ≡ ys
same_paths [] [] same = refl
same_paths [] (y ∷ ys) same = absurd (false≢true same)
same_paths (x ∷ xs) [] same = absurd (false≢true same)
same_paths (x ∷ xs) (y ∷ ys) same =
    let parts = and_parts _ _ same in
    ap (λ n. n ∷ xs) (same_text x y (sym parts.0)) ∙ ap (λ ns. y ∷ ns) (same_paths xs ys parts.1)

-- a path that begins with a directory is the directory's, and the rest
begins_parts : (directory q : Path) → starts_with same_name q directory ≡ true → directory ++ drop (length directory) q ≡ q
begins_parts directory q begins = ap (λ front. front ++ drop (length directory) q) (same_paths directory (take (length directory) q) begins) ∙ take-append-drop (length directory) q

-- ---- the names in a directory of a tree

module _ (t : Tree) (is_tree : IsTree t) (directory : Path) where
  -- a node below a directory, and so one directly in it
  not_nil : (names : Path) (n : Node) → path_cmp directory (directory ++ names) ≡ Less → node_at t (directory ++ names) ≡ Some n → is_nil (names_in t directory) ≡ false
  not_nil [] n behind at = absurd (let whole = ap (path_cmp directory) (append-nil directory) ∙ tied_itself path_order directory in let both : Less ≡ Equal = sym behind ∙ whole in cc)
  not_nil (name ∷ []) n behind at = false_from_ne_true _ (λ nil. no_names_below t directory nil name n at)
  not_nil (name ∷ next ∷ names) n behind at =
      let regroup : (directory ++ name ∷ []) ++ next ∷ names ≡ directory ++ name ∷ next ∷ names = append_assoc directory (name ∷ []) (next ∷ names) in
      let d = IsDir-from t (directory ++ name ∷ []) (way_is_directory t is_tree (directory ++ name ∷ []) next names n (ap (node_at t) regroup ∙ at)) in
      false_from_ne_true _ (λ nil. no_names_below t directory nil name d.node d.at)

  pub names_below_first : (q : Path) (n : Node) → path_cmp directory q ≡ Less → node_at t q ≡ Some n → starts_with same_name q directory ≡ true → is_nil (names_in t directory) ≡ false
  names_below_first q n behind at begins =
      let parts = begins_parts directory q begins in
      not_nil (drop (length directory) q) n (ap (path_cmp directory) parts ∙ behind) (ap (node_at t) parts ∙ at)

  pub no_names_at_end : ((q : Path) → path_cmp directory q ≡ Less → node_at t q ≡ None) → is_nil (names_in t directory) ≡ true
  no_names_at_end none = nil_names t directory (λ name n at. let both : None ≡ Some n = sym (none (directory ++ name ∷ []) (before_names directory name)) ∙ at in cc)

  pub no_names_before_first : (q : Path) → path_cmp directory q ≡ Less → ((r : Path) (n : Node) → path_cmp directory r ≡ Less → node_at t r ≡ Some n → is_gt (path_cmp q r) ≡ false)
      → starts_with same_name q directory ≡ false → is_nil (names_in t directory) ≡ true
  no_names_before_first q behind first other = nil_names t directory (λ name n at.
      false≢true (sym other ∙ begins_between directory q (name ∷ []) behind (first (directory ++ name ∷ []) n (before_names directory name) at)))

  pub told_by_first : (q : Path) (n : Node) → path_cmp directory q ≡ Less → node_at t q ≡ Some n
      → ((r : Path) (k : Node) → path_cmp directory r ≡ Less → node_at t r ≡ Some k → is_gt (path_cmp q r) ≡ false) → starts_with same_name q directory ≡ not (is_nil (names_in t directory))
  told_by_first q n behind at first =
      elim (starts_with same_name q directory) as (λ b. starts_with same_name q directory ≡ b → b ≡ not (is_nil (names_in t directory))) [
        | true ↦ λ begins. sym (ap not (names_below_first q n behind at begins))
        | false ↦ λ other. sym (ap not (no_names_before_first q behind first other))
      ] refl

-- ---- whether a path is the root's

pub not_twice : (b : Bool) → not (not b) ≡ b
not_twice true = refl
not_twice false = refl
