-- Which numbers are taken: at the root alone, and after a change.
use Rattle.std.proofs.Common.{◌≡◌, ◌≢◌, ℕ, ◌≤◌, ◌==◌, ◌&&◌, ◌||◌, Bool, true, false, not, cond, List, [], ◌∷◌, ◌++◌, Option, Some, None, refl, sym, ap, ◌∙◌, inl, inr, eq-eqb, eqb-true, arith}
use Rattle.std.specs.Ordering.{eq_by_cmp, nat_cmp, is_gt}
use Rattle.std.specs.BTreeMap.{insert_entry, is_at}
use Rattle.std.specs.Cmp.{unsigned_tied}
use Rattle.std.proofs.lemmas.Map.Keys.{le_from_not_gt}
use Rattle.std.proofs.lemmas.Bool.{false≢true, not-true, not_from_false, false_from_ne_true, or_left, or_right, or_cases, and_from, and_parts}
use Rattle.odb_base.specs.Path.{Name, Path, path_cmp}
use Rattle.odb_disk.specs.Tree.{Tree, IsTree, node_at, with_node, without, bare_tree, is_directory}
use Rattle.odb_disk.specs.Tree.Nodes.{node_at-tree_of_entries}
use Rattle.odb_disk.specs.Tree.Change.{is_taken}
use Rattle.odb_disk.specs.TreeNumbers.{is_listed, has_number, AreNumbers, IsLeastFree}
use Rattle.odb_disk.specs.declared.node.Node.{Node}
use Rattle.odb_disk.specs.declared.node.Content.TheVariants.{Dir}
use Rattle.odb_disk.proofs.TreeLemmas.{same_path, own_path, is_taken-node_at, HasNumber, node_with_number, node_at-put, node_at-put_other, node_at-taken_other}
use Rattle.odb_disk.proofs.TreeLemmas.Change.{at_after_put, at_after_take}

-- ---- the root alone

abbrev pub bare_root : Node
bare_root = record { dev = 0; ino = 1; content = Dir }

pub root_alone : (empty es : List (Path × Node)) (root : Path) → empty ≡ [] → root ≡ [] → es ≡ insert_entry path_cmp empty root bare_root → es ≡ ([], bare_root) ∷ []
root_alone empty es root e r is = is ∙ ap (λ old. insert_entry path_cmp old root bare_root) e ∙ ap (λ k. (k, bare_root) ∷ []) r

node_at-bare : (q : Path) (n : Node) → node_at bare_tree q ≡ Some n → (q ≡ []) × (n ≡ bare_root)
unfolding bare_tree
node_at-bare q n at =
    elim (eq_by_cmp path_cmp q []) as (λ b. eq_by_cmp path_cmp q [] ≡ b → cond b (Some bare_root) None ≡ Some n → (q ≡ []) × (n ≡ bare_root)) [
      | true ↦ λ tied is. (same_path q [] tied, cc)
      | false ↦ λ _ is. absurd (cc)
    ] refl (sym (node_at-tree_of_entries _ q) ∙ at)

bare-node_at : node_at bare_tree [] ≡ Some bare_root
unfolding bare_tree
bare-node_at = node_at-tree_of_entries _ [] ∙ ap (λ b. cond b (Some bare_root) None) (own_path [])

no_name_behind : (directory : Path) (name : Name) → directory ++ name ∷ [] ≢ []
no_name_behind [] name = λ e. cc
no_name_behind (n ∷ ns) name = λ e. cc

pub IsTree-bare : IsTree bare_tree
IsTree-bare = record {
  root = ap is_directory bare-node_at;
  ways = λ directory name node at. absurd (no_name_behind directory name (node_at-bare _ node at).0);
  apart = λ path other node twin at there same. (node_at-bare path node at).0 ∙ sym (node_at-bare other twin there).0;
}

pub AreNumbers-bare : AreNumbers bare_tree 2 []
AreNumbers-bare = record {
  split = λ n low high. let one : n ≡ 1 = omega arith in ap (is_taken bare_tree) one ∙ is_taken-node_at bare_tree [] bare_root bare-node_at;
  above = λ n taken. let w = node_with_number bare_tree n taken in let root = (node_at-bare w.path w.node w.at).1 in let one : n ≡ 1 = sym w.has ∙ ap (λ m. m.ino) root in (omega arith, omega arith);
  free_above = λ n listed. absurd (false≢true listed);
}

-- ---- the set of free numbers

or-cond : (a b : Bool) → cond a true b ≡ (a || b)
or-cond true b = refl
or-cond false b = refl

-- one more number is free
pub freed_number : (free now : List ℕ) (at : Option Node) (node : Node) → Some node ≡ at → ((n : ℕ) → is_listed now n ≡ cond (is_at (nat_cmp node.ino) n) true (is_listed free n)) → (n : ℕ)
    → is_listed now n ≡ (has_number at n || is_listed free n)
freed_number free now at node is h n =
    h n ∙ or-cond (eq_by_cmp nat_cmp node.ino n) (is_listed free n) ∙ ap (λ b. b || is_listed free n) (unsigned_tied node.ino n) ∙ ap (λ o. has_number o n || is_listed free n) is

pub IsLeastFree-first : (free : List ℕ) (next number : ℕ) → is_listed free number ≡ true → ((q : ℕ) → is_listed free q ≡ true → is_gt (nat_cmp number q) ≡ false) → IsLeastFree free next number
IsLeastFree-first free next number member least = record {
  is_free = inl member;
  least = λ m below. elim (is_listed free m) as (λ b. is_listed free m ≡ b → b ≡ false) [
    | true ↦ λ listed. absurd (let le : number ≤ m = le_from_not_gt number m (least m listed) in omega arith)
    | false ↦ λ _. refl
  ] refl;
}

-- ---- which numbers are taken after a change

pub same_bool : (a b : Bool) → (a ≡ true → b ≡ true) → (b ≡ true → a ≡ true) → a ≡ b
same_bool true b there back = sym (there refl)
same_bool false true there back = back refl
same_bool false false there back = refl

-- a node that has a number, at a path
record NumberAt (o : Option Node) (number : ℕ) : Type 0 where
  pub node : Node
  pub at : o ≡ Some node
  has : node.ino ≡ number

number_at : (o : Option Node) (number : ℕ) → has_number o number ≡ true → NumberAt o number
number_at None number has = absurd (false≢true has)
number_at (Some node) number has = record { node = node; at = refl; has = eqb-true node.ino number has }

has_number-at : (o : Option Node) (node : Node) (number : ℕ) → o ≡ Some node → node.ino ≡ number → has_number o number ≡ true
has_number-at o node number at has = ap (λ p. has_number p number) at ∙ eq-eqb node.ino number has

pub has_number-taken : (t : Tree) (p : Path) (number : ℕ) → has_number (node_at t p) number ≡ true → is_taken t number ≡ true
has_number-taken t p number has = let k = number_at (node_at t p) number has in ap (is_taken t) (sym k.has) ∙ is_taken-node_at t p k.node k.at

module _ (t : Tree) (is_tree : IsTree t) (p : Path) where
  -- a number of a node elsewhere is not that of the node here
  pub not_here : (q : Path) (k : Node) (n : ℕ) → q ≢ p → node_at t q ≡ Some k → k.ino ≡ n → not (has_number (node_at t p) n) ≡ true
  not_here q k n apart at has = not_from_false _ (false_from_ne_true _ (λ here. let h = number_at (node_at t p) n here in apart (is_tree.apart q p k h.node at h.at (has ∙ sym h.has))))

  -- a taken number that is not the one here is elsewhere
  pub elsewhere : (n : ℕ) (w : HasNumber t n) → not (has_number (node_at t p) n) ≡ true → w.path ≢ p
  elsewhere n w other same = false≢true (sym (not-true _ other) ∙ has_number-at (node_at t p) w.node n (ap (node_at t) (sym same) ∙ w.at) w.has)

  pub is_taken-put : (m : Node) (n : ℕ) → is_taken (with_node t p m) n ≡ ((m.ino == n) || (is_taken t n && not (has_number (node_at t p) n)))
  is_taken-put m n = same_bool _ _
      (λ taken. let w = node_with_number (with_node t p m) n taken in elim (at_after_put t p m w.path w.node w.at) [
        | inl v ↦ or_left _ _ (eq-eqb m.ino n (sym (ap (λ k. k.ino) v.1) ∙ w.has))
        | inr v ↦ or_right _ _ (and_from _ _ (ap (is_taken t) (sym w.has) ∙ is_taken-node_at t w.path w.node v.1) (not_here w.path w.node n v.0 v.1 w.has))
      ])
      (λ said. elim (or_cases _ _ said) [
        | inl own ↦ ap (is_taken (with_node t p m)) (sym (eqb-true m.ino n own)) ∙ is_taken-node_at (with_node t p m) p m (node_at-put t p m)
        | inr old ↦
            let parts = and_parts _ _ old in
            let w = node_with_number t n parts.0 in
            ap (is_taken (with_node t p m)) (sym w.has) ∙ is_taken-node_at (with_node t p m) w.path w.node (node_at-put_other t p m w.path (elsewhere n w parts.1) ∙ w.at)
      ])

  pub is_taken-without : (n : ℕ) → is_taken (without t p) n ≡ (is_taken t n && not (has_number (node_at t p) n))
  is_taken-without n = same_bool _ _
      (λ taken.
      let w = node_with_number (without t p) n taken in
      let v = at_after_take t p w.path w.node w.at in
      and_from _ _ (ap (is_taken t) (sym w.has) ∙ is_taken-node_at t w.path w.node v.1) (not_here w.path w.node n v.0 v.1 w.has))
      (λ old.
      let parts = and_parts _ _ old in
      let w = node_with_number t n parts.0 in
      ap (is_taken (without t p)) (sym w.has) ∙ is_taken-node_at (without t p) w.path w.node (node_at-taken_other t p w.path (elsewhere n w parts.1) ∙ w.at))
