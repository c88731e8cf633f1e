-- The numbers of a tree's nodes stay well kept when a part of it moves, or a file grows.
use Rattle.std.proofs.Common.{◌≡◌, ◌≢◌, ℕ, ◌&&◌, ◌||◌, true, false, not, List, ◌++◌, Option, Some, None, IsSome, is_some}
use Rattle.std.proofs.Common.{is_none, Result, Ok, Err, OnOk, OnErr, cond, refl, sym, ap, ◌∙◌, subst, inl, inr}
use Rattle.std.specs.Option.{IfSome}
use Rattle.std.proofs.lemmas.Bool.{false≢true, and_parts, and_from, not-true}
use Rattle.odb_base.specs.Path.{Path}
use Rattle.odb_base.specs.PathLaws.{goes_beyond}
use Rattle.odb_disk.specs.Tree.{Tree, IsTree, node_at, with_node, without, is_directory}
use Rattle.odb_disk.specs.Tree.Change.{is_taken, is_possible_in, lies_in_directory, can_move, is_file_content, with_moved, longer}
use Rattle.odb_disk.specs.TreeNumbers.{is_listed, has_number, AreNumbers}
use Rattle.odb_disk.specs.declared.node.Node.{Node}
use Rattle.odb_disk.specs.declared.change.Change.TheVariants.{Rename}
use Rattle.odb_disk.proofs.TreeLemmas.{is_taken-node_at, node_with_number}
use Rattle.odb_disk.proofs.TreeLemmas.Moved.{begins, begins-append, begins-own, moved_below, moved_other, at_after_move}
use Rattle.odb_disk.proofs.TreeLemmas.MovedTree.{CanMove, CanMove-from, goes_on, nothing_below, file_lies, file_no_directory, IsTree-moved, moved_leaf}
use Rattle.odb_disk.proofs.TreeNumbersLemmas.{same_bool, not_here, elsewhere, AreNumbers-dropped, IsTree-over, AreNumbers-changed}

-- ---- which numbers are taken after a move

module _ (t : Tree) (is_tree : IsTree t) (from to : Path) (free : is_directory (node_at t to) ≡ false) (outside : begins to from ≡ false) where
  was_taken : (n : ℕ) → is_taken (with_moved t from to) n ≡ true → (is_taken t n && not (has_number (node_at t to) n)) ≡ true
  was_taken n taken =
      let w = node_with_number (with_moved t from to) n taken in
      let from_t = λ (q : Path) (at : node_at t q ≡ Some w.node) (apart : q ≢ to).
      and_from _ _ (ap (is_taken t) (sym w.has) ∙ is_taken-node_at t q w.node at) (not_here t is_tree to q w.node n apart at w.has) in
      elim (at_after_move t from to w.path w.node w.at) [
        | inl v ↦ from_t (from ++ v.rest) v.at (λ same. false≢true (sym outside ∙ ap (λ q. begins q from) (sym same) ∙ begins-append from v.rest))
        | inr v ↦ from_t w.path v.at (λ same. false≢true (sym v.outside ∙ ap (λ q. begins q to) same ∙ begins-own to))
      ]

  still_taken : (n : ℕ) → (is_taken t n && not (has_number (node_at t to) n)) ≡ true → is_taken (with_moved t from to) n ≡ true
  still_taken n old =
      let parts = and_parts _ _ old in
      let w = node_with_number t n parts.0 in
      let apart : w.path ≢ to = elsewhere t is_tree to n w parts.1 in
      let there = λ (q : Path) (at : node_at (with_moved t from to) q ≡ Some w.node). ap (is_taken (with_moved t from to)) (sym w.has) ∙ is_taken-node_at (with_moved t from to) q w.node at in
      elim (begins w.path from) as (λ b. begins w.path from ≡ b → is_taken (with_moved t from to) n ≡ true) [
        | true ↦ λ source. let whole = goes_beyond w.path from source in there (to ++ _) (moved_below t from to _ ∙ ap (node_at t) (sym whole) ∙ w.at)
        | false ↦ λ away.
            elim (begins w.path to) as (λ b. begins w.path to ≡ b → is_taken (with_moved t from to) n ≡ true) [
              | true ↦ λ below. let g = goes_on w.path to below apart in absurd (nothing_below t is_tree to free g.0 g.1 w.node (ap (node_at t) (sym g.2) ∙ w.at))
              | false ↦ λ other. there w.path (moved_other t from to w.path other away ∙ w.at)
            ] refl
      ] refl

  pub is_taken-moved : (n : ℕ) → is_taken (with_moved t from to) n ≡ (is_taken t n && not (has_number (node_at t to) n))
  is_taken-moved n = same_bool _ _ (was_taken n) (still_taken n)

-- ---- the ends of a possible move

module _ (t : Tree) (is_tree : IsTree t) (from to : Path) (possible : is_possible_in t (Rename from to) ≡ true) where
  pub rename_lies : lies_in_directory t to ≡ true
  unfolding is_possible_in
  rename_lies = (and_parts _ _ possible).0

  pub rename_can : can_move t from to (node_at t from) ≡ true
  unfolding is_possible_in
  rename_can = (and_parts _ _ possible).1

  pub can_rename : CanMove t from to
  can_rename = CanMove-from t is_tree from to rename_lies rename_can

  pub apart_outside : from ≢ to → begins to from ≡ false
  apart_outside apart = elim can_rename.outside [ inl same ↦ absurd (apart same) | inr outside ↦ outside ]

  module _ (directory : is_directory (node_at t from) ≡ true) where
    directory_can : (o : Option Node) → node_at t from ≡ o → is_directory o ≡ true → can_move t from to o ≡ true → (is_none (node_at t to) && not (begins to from)) ≡ true
    directory_can None at is can = cc
    directory_can (Some n) at is can = ap (λ b. cond b (is_none (node_at t to) && not (begins to from)) (not (is_directory (node_at t to)))) (sym is) ∙ can

    none_there : (o : Option Node) → is_none o ≡ true → o ≡ None
    none_there None is = refl
    none_there (Some n) is = cc

    pub rename_absent : node_at t to ≡ None
    rename_absent = none_there _ (and_parts _ _ (directory_can (node_at t from) refl directory rename_can)).0

    pub rename_outside : begins to from ≡ false
    rename_outside = not-true _ (and_parts _ _ (directory_can (node_at t from) refl directory rename_can)).1

-- ---- the fields after a move

module _ (t u : Tree) (is_tree : IsTree t) (next : ℕ) (free : List ℕ) (numbers : AreNumbers t next free) (from to : Path) (possible : is_possible_in t (Rename from to) ≡ true) where
  module _ (outside : begins to from ≡ false) (made : u ≡ with_moved t from to) where
    pub IsTree-renamed : IsTree u
    IsTree-renamed = subst IsTree (sym made) (IsTree-moved t is_tree from to (rename_lies t is_tree from to possible) (can_rename t is_tree from to possible).free outside)

    pub AreNumbers-renamed : (freed : List ℕ) → ((n : ℕ) → is_listed freed n ≡ (has_number (node_at t to) n || is_listed free n)) → AreNumbers u next freed
    AreNumbers-renamed freed frees =
        subst (λ v. AreNumbers v next freed) (sym made)
        (AreNumbers-dropped t is_tree next free numbers to freed frees (with_moved t from to) (is_taken-moved t is_tree from to (can_rename t is_tree from to possible).free outside))

  -- a file or a link
  pub leaf_made : is_directory (node_at t from) ≡ false → from ≢ to → ((node : Node) → node_at t from ≡ Some node → from ≢ to → u ≡ with_node (without t from) to node) → u ≡ with_moved t from to
  leaf_made leaf apart put =
      let m = can_rename t is_tree from to possible in
      put m.node m.at apart ∙ sym (moved_leaf t is_tree from to m.node m.at leaf m.free apart)

  -- a directory, moved or not
  module _ {E : Type 0} (r : Result (Unit {0}) E) (directory : is_directory (node_at t from) ≡ true) (made : OnOk r (u ≡ with_moved t from to)) (kept : OnErr r (u ≡ t)) where
    by_result : (P : Tree → Type 0) → P t → (u ≡ with_moved t from to → P u) → P u
    by_result P old new = cases r made kept
      where
        cases : (s : Result (Unit {0}) E) → OnOk s (u ≡ with_moved t from to) → OnErr s (u ≡ t) → P u
        cases (Ok x) ok err = new ok
        cases (Err e) ok err = subst P (sym err) old

    pub IsTree-directory : IsTree u
    IsTree-directory = by_result IsTree is_tree (IsTree-renamed (rename_outside t is_tree from to possible directory))

    pub AreNumbers-directory : AreNumbers u next free
    AreNumbers-directory =
        by_result (λ v. AreNumbers v next free) numbers (λ is.
        AreNumbers-renamed (rename_outside t is_tree from to possible directory) is free (λ n. sym (ap (λ o. has_number o n || is_listed free n) (rename_absent t is_tree from to possible directory))))

-- ---- the fields after bytes are appended

-- a file at a path
pub record FileThere (t : Tree) (p : Path) : Type 0 where
  pub node : Node
  pub at : node_at t p ≡ Some node
  pub file : is_file_content node.content ≡ true

pub file_there : (t : Tree) (p : Path) → IsSome (node_at t p) → IfSome (node_at t p) (λ node. is_file_content node.content ≡ true) → FileThere t p
file_there t p some file =
    elim (node_at t p) as (λ o. node_at t p ≡ o → is_some o ≡ true → IfSome o (λ node. is_file_content node.content ≡ true) → FileThere t p) [
      | None ↦ λ _ no _. absurd (false≢true no)
      | Some node ↦ λ at _ is. record { node = node; at = at; file = is }
    ] refl some file

module _ {E : Type 0} (r : Result (Unit {0}) E) (t u : Tree) (is_tree : IsTree t) (next : ℕ) (free : List ℕ) (numbers : AreNumbers t next free) (p : Path) (more : List ℕ) (n : Node)
    (at : node_at t p ≡ Some n) (file : is_file_content n.content ≡ true) where
  grown : ((node : Node) → node_at t p ≡ Some node → u ≡ with_node t p (record node { content = longer node.content more })) → (node : Node) → node_at t p ≡ Some node
      → u ≡ with_node t p (record node { content = longer n.content more })
  grown made node there =
      let both : Some node ≡ Some n = sym there ∙ at in
      let same : node ≡ n = cc in made node there ∙ ap (λ (k : Node). with_node t p (record node { content = longer k.content more })) same

  stands : IsSome (node_at t p)
  stands = ap is_some at

  module _ (made : OnOk r ((node : Node) → node_at t p ≡ Some node → u ≡ with_node t p (record node { content = longer node.content more }))) (kept : OnErr r (u ≡ t)) where
    by_growth : (P : Tree → Type 0) → P t → (((node : Node) → node_at t p ≡ Some node → u ≡ with_node t p (record node { content = longer node.content more })) → P u) → P u
    by_growth P old new = cases r made kept
      where
        cases : (s : Result (Unit {0}) E) → OnOk s ((node : Node) → node_at t p ≡ Some node → u ≡ with_node t p (record node { content = longer node.content more })) → OnErr s (u ≡ t) → P u
        cases (Ok x) ok err = new ok
        cases (Err e) ok err = subst P (sym err) old

    pub IsTree-grown : IsTree u
    IsTree-grown =
        by_growth IsTree is_tree (λ is. IsTree-over t u is_tree next free numbers p (file_lies t is_tree p n at file) (file_no_directory t p n at file) (longer n.content more) stands (grown is))

    pub AreNumbers-grown : AreNumbers u next free
    AreNumbers-grown =
        by_growth (λ v. AreNumbers v next free) numbers (λ is.
        AreNumbers-changed t u is_tree next free numbers p (file_lies t is_tree p n at file) (file_no_directory t p n at file) (longer n.content more) stands (grown is))
