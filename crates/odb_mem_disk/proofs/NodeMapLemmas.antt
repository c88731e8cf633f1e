-- A copy of a map of nodes: each node is copied already, or is still to come.
use Rattle.std.proofs.Common.{◌≡◌, ◌≢◌, List, [], ◌∷◌, Option, Some, None, IsSome, is_some, cond, refl, sym, ap, ◌∙◌, inl, inr}
use Rattle.std.specs.Option.{option_or}
use Rattle.std.specs.Map.{lookup}
use Rattle.std.specs.BTreeMap.{is_at}
use Rattle.odb_base.specs.Path.{Path, path_cmp}
use Rattle.odb_disk.specs.Tree.{Tree, node_at, with_node, without, tree_of_entries}
use Rattle.odb_disk.specs.Tree.Nodes.{same_tree}
use Rattle.odb_disk.specs.declared.node.Node.{Node}
use Rattle.odb_disk.proofs.TreeLemmas.{node_at-entries, node_at-put, node_at-put_other, node_at-taken, node_at-taken_other, cases_path, other_path}

pub none_copied : (all none rest : List (Path × Node)) (q : Path) → none ≡ [] → rest ≡ all
    → node_at (tree_of_entries all) q ≡ option_or (node_at (tree_of_entries none) q) (lookup (is_at (path_cmp q)) rest)
none_copied all none rest q empty whole =
    node_at-entries all q ∙ ap (lookup (is_at (path_cmp q))) (sym whole)
    ∙ ap (λ o. option_or o (lookup (is_at (path_cmp q)) rest)) (sym (ap (λ es. node_at (tree_of_entries es) q) empty ∙ node_at-entries [] q))

module _ (a t u : Tree) (path : Path) (node : Node) (rest more : List (Path × Node)) (at : node_at a path ≡ Some node) (next : rest ≡ (path, node) ∷ more) (put : u ≡ with_node t path node)
    (so_far : (q : Path) → node_at a q ≡ option_or (node_at t q) (lookup (is_at (path_cmp q)) rest)) where
  pub one_copied : (q : Path) → node_at a q ≡ option_or (node_at u q) (lookup (is_at (path_cmp q)) more)
  one_copied q = elim (cases_path q path) [
    | inl same ↦
        ap (node_at a) same ∙ at ∙ ap (λ o. option_or o (lookup (is_at (path_cmp q)) more)) (sym (ap (node_at u) same ∙ ap (λ v. node_at v path) put ∙ node_at-put t path node))
    | inr apart ↦
        so_far q ∙ ap (option_or (node_at t q)) (ap (lookup (is_at (path_cmp q))) next ∙ ap (λ b. cond b (Some node) (lookup (is_at (path_cmp q)) more)) (other_path q path apart))
        ∙ ap (λ o. option_or o (lookup (is_at (path_cmp q)) more)) (sym (ap (λ v. node_at v q) put ∙ node_at-put_other t path node q apart))
  ]

pub all_copied : (a t : Tree) (rest : List (Path × Node)) → rest ≡ [] → ((q : Path) → node_at a q ≡ option_or (node_at t q) (lookup (is_at (path_cmp q)) rest)) → t ≡ a
all_copied a t rest none so_far = same_tree t a (λ q. sym (so_far q ∙ ap (option_or (node_at t q)) (ap (lookup (is_at (path_cmp q))) none) ∙ or_none (node_at t q)))
  where
    or_none : (o : Option Node) → option_or o None ≡ o
    or_none None = refl
    or_none (Some node) = refl

-- ---- a node that is moved

module _ (t u : Tree) (key p : Path) (n : Node) (is : key ≡ p) (put : u ≡ with_node t key n) where
  pub room_stands : IsSome (node_at u p)
  room_stands = ap (λ v. is_some (node_at v p)) put ∙ ap (λ k. is_some (node_at (with_node t k n) p)) is ∙ ap is_some (node_at-put t p n)

  pub room_others : (q : Path) → q ≢ p → node_at u q ≡ node_at t q
  room_others q apart = ap (λ v. node_at v q) put ∙ node_at-put_other t key n q (λ same. apart (same ∙ is))

module _ (t t1 t2 : Tree) (from to : Path) (others : (q : Path) → q ≢ to → node_at t1 q ≡ node_at t q) where
  pub moved_node : (u : Tree) (k : Node) → IsSome (node_at t1 to) → Some k ≡ node_at t1 from → t2 ≡ without t1 from → (IsSome (node_at t2 to) → u ≡ with_node t2 to k) → (node : Node)
      → node_at t from ≡ Some node → from ≢ to → u ≡ with_node (without t from) to node
  moved_node u k stands removed taken put node at apart =
      let both : Some k ≡ Some node = removed ∙ others from apart ∙ at in
      let same : k ≡ node = cc in
      let left : node_at t2 to ≡ node_at t1 to = ap (λ v. node_at v to) taken ∙ node_at-taken_other t1 from to (λ e. apart (sym e)) in
      put (ap is_some left ∙ stands) ∙ ap (with_node t2 to) same
      ∙ same_tree _ _ (λ q. elim (cases_path q to) [
        | inl is ↦ ap (node_at (with_node t2 to node)) is ∙ node_at-put t2 to node ∙ sym (ap (node_at (with_node (without t from) to node)) is ∙ node_at-put (without t from) to node)
        | inr other ↦ node_at-put_other t2 to node q other ∙ ap (λ v. node_at v q) taken ∙ rest q other ∙ sym (node_at-put_other (without t from) to node q other)
      ])
    where
      rest : (q : Path) → q ≢ to → node_at (without t1 from) q ≡ node_at (without t from) q
      rest q other = elim (cases_path q from) [
        | inl is ↦ ap (node_at (without t1 from)) is ∙ node_at-taken t1 from ∙ sym (ap (node_at (without t from)) is ∙ node_at-taken t from)
        | inr off ↦ node_at-taken_other t1 from q off ∙ others q other ∙ sym (node_at-taken_other t from q off)
      ]

  pub nothing_moved : None ≡ node_at t1 from → (node : Node) → node_at t from ≡ Some node → from ≢ to → ⊥
  nothing_moved none node at apart = let both : None ≡ Some node = none ∙ others from apart ∙ at in cc

-- a node put where room was made
pub put_in_room : (t u : Tree) (p : Path) (n : Node) → ((q : Path) → q ≢ p → node_at u q ≡ node_at t q) → with_node u p n ≡ with_node t p n
put_in_room t u p n others = same_tree _ _ (λ q. elim (cases_path q p) [
  | inl is ↦ ap (node_at (with_node u p n)) is ∙ node_at-put u p n ∙ sym (ap (node_at (with_node t p n)) is ∙ node_at-put t p n)
  | inr other ↦ node_at-put_other u p n q other ∙ others q other ∙ sym (node_at-put_other t p n q other)
])

-- a node put where it is changes nothing
pub put_same : (t : Tree) (p : Path) (n : Node) → node_at t p ≡ Some n → with_node t p n ≡ t
put_same t p n at = same_tree _ _ (λ q. elim (cases_path q p) [
  | inl is ↦ ap (node_at (with_node t p n)) is ∙ node_at-put t p n ∙ sym (ap (node_at t) is ∙ at)
  | inr other ↦ node_at-put_other t p n q other
])
