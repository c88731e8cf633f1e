-- Laws of trees: what is at a path, which inode numbers are taken, which names a directory has.
pub mod Numbers
pub mod Follow
pub mod Moved
pub mod Change
pub mod Possible
pub mod Put
pub mod MovedTree
pub mod Changed
pub mod Write
pub mod Look
use Rattle.std.proofs.Common.{◌≡◌, ◌≢◌, ◌⊎◌, inl, inr, ℕ, ◌==◌, ◌&&◌, ◌||◌, Bool, true, false, not, cond, eqb, List, [], ◌∷◌}
use Rattle.std.proofs.Common.{◌++◌, map, Option, Some, None, is_some, IsSome, refl, sym, ap, ◌∙◌, subst, T, eq-eqb, eqb-true}
use Rattle.std.specs.FinMap.{find, is_sorted}
use Rattle.std.specs.FinMap.Entries.{below_all}
use Rattle.std.specs.Ordering.{eq_by_cmp, is_eq, is_lt}
use Rattle.std.specs.declared.cmp.Ordering.{Ordering}
use Rattle.std.specs.declared.cmp.Ordering.TheVariants.{Less, Equal, Greater}
use Rattle.std.specs.Cmp.{tied_itself, eq_by_cmp_equiv}
use Rattle.std.specs.List.{list_any}
use Rattle.std.specs.Map.{lookup}
use Rattle.std.specs.BTreeMap.{is_at}
use Rattle.std.proofs.lemmas.Bool.{false≢true}
use Rattle.odb_base.specs.Path.{Name, Path, path_cmp}
use Rattle.odb_disk.specs.Tree.{Tree, State, tree_of, state_of, node_at, with_node, without, tree_of_entries, inode_numbers}
use Rattle.odb_disk.specs.Tree.Nodes.{same_tree, node_at-with_node, node_at-without, entries_of, entries_of-sorted, node_at-tree_of_entries, node_at-entries_of, inode_numbers-entries_of}
use Rattle.odb_disk.specs.Tree.Change.{is_taken}
use Rattle.odb_disk.specs.declared.node.Node.{Node}
use Rattle.odb_base.specs.PathLaws.{path_order, one_place}

-- ---- states

pub tree_of-state_of : (t : Tree) → tree_of (state_of t) ≡ t
unfolding tree_of state_of
tree_of-state_of t = refl

pub state_of-tree_of : (s : State) → state_of (tree_of s) ≡ s
unfolding tree_of state_of
state_of-tree_of s = refl

-- ---- what is at a path

equal_of : (o : Ordering) → is_eq o ≡ true → o ≡ Equal
equal_of Less e = cc
equal_of Equal e = refl
equal_of Greater e = cc

pub same_path : (q p : Path) → eq_by_cmp path_cmp q p ≡ true → q ≡ p
same_path q p e = one_place q p (equal_of _ e)

pub own_path : (p : Path) → eq_by_cmp path_cmp p p ≡ true
own_path p = ap is_eq (tied_itself path_order p)

pub other_path : (q p : Path) → q ≢ p → eq_by_cmp path_cmp q p ≡ false
other_path q p apart =
    elim (eq_by_cmp path_cmp q p) as (λ b. eq_by_cmp path_cmp q p ≡ b → b ≡ false) [ true ↦ λ e. absurd (apart (same_path q p e)) | false ↦ λ _. refl ] refl

pub cases_path : (q p : Path) → (q ≡ p) ⊎ (q ≢ p)
cases_path q p =
    elim (eq_by_cmp path_cmp q p) as (λ b. eq_by_cmp path_cmp q p ≡ b → (q ≡ p) ⊎ (q ≢ p)) [
      | true ↦ λ tied. inl (same_path q p tied)
      | false ↦ λ apart. inr (λ same. false≢true (sym apart ∙ ap (λ r. eq_by_cmp path_cmp r p) same ∙ own_path p))
    ] refl

pub node_at-put : (t : Tree) (p : Path) (n : Node) → node_at (with_node t p n) p ≡ Some n
node_at-put t p n = node_at-with_node t p n p ∙ ap (λ b. cond b (Some n) (node_at t p)) (own_path p)

pub node_at-put_other : (t : Tree) (p : Path) (n : Node) (q : Path) → q ≢ p → node_at (with_node t p n) q ≡ node_at t q
node_at-put_other t p n q apart = node_at-with_node t p n q ∙ ap (λ b. cond b (Some n) (node_at t q)) (other_path q p apart)

pub node_at-taken : (t : Tree) (p : Path) → node_at (without t p) p ≡ None
node_at-taken t p = node_at-without t p p ∙ ap (λ b. cond b None (node_at t p)) (own_path p)

pub node_at-taken_other : (t : Tree) (p q : Path) → q ≢ p → node_at (without t p) q ≡ node_at t q
node_at-taken_other t p q apart = node_at-without t p q ∙ ap (λ b. cond b None (node_at t q)) (other_path q p apart)

-- ---- entries in the order of their paths

find_below : (q : Path) (es : List (Path × Node)) → T (below_all path_cmp q es) → find path_cmp q es ≡ None
find_below q [] h = refl
find_below q (e ∷ es) h =
    elim (path_cmp q e.0) as (λ o. T (is_lt o && below_all path_cmp q es) → cond (is_eq o) (Some e.1) (find path_cmp q es) ≡ None) [
      | Less ↦ λ k. find_below q es k
      | Equal ↦ λ k. absurd k
      | Greater ↦ λ k. absurd k
    ] h

pub second : (a b : Bool) → T (a && b) → T b
second true b p = p
second false b p = absurd p

first : (a b : Bool) → T (a && b) → T a
first true b p = tt
first false b p = p

pub find_own : (e : Path × Node) (es : List (Path × Node)) → find path_cmp e.0 (e ∷ es) ≡ Some e.1
find_own e es = ap (λ b. cond b (Some e.1) (find path_cmp e.0 es)) (own_path e.0)

-- what a later entry has at its path is found
pub find_later : (e : Path × Node) (es : List (Path × Node)) (p : Path) (n : Node) → T (is_sorted path_cmp (e ∷ es)) → find path_cmp p es ≡ Some n → find path_cmp p (e ∷ es) ≡ Some n
find_later e es p n sorted found =
    elim (eq_by_cmp path_cmp p e.0) as (λ b. eq_by_cmp path_cmp p e.0 ≡ b → cond b (Some e.1) (find path_cmp p es) ≡ Some n) [
      | true ↦ λ tied. absurd (let none = find_below p es (subst (λ q. T (below_all path_cmp q es)) (sym (same_path p e.0 tied)) (first _ _ sorted)) in cc)
      | false ↦ λ _. found
    ] refl

-- a node among entries, which passes a test
record Passes (test : Node → Bool) (es : List (Path × Node)) : Type 0 where
  path : Path
  node : Node
  found : find path_cmp path es ≡ Some node
  passes : test node ≡ true

-- a node that passes a test is at some path
passes_from_any : (test : Node → Bool) (es : List (Path × Node)) → T (is_sorted path_cmp es) → list_any test (map (λ e. e.1) es) ≡ true → Passes test es
passes_from_any test [] sorted any = absurd (false≢true any)
passes_from_any test (e ∷ es) sorted any =
    elim (test e.1) as (λ b. test e.1 ≡ b → (b || list_any test (map (λ e. e.1) es)) ≡ true → Passes test (e ∷ es)) [
      | true ↦ λ passes _. record { path = e.0; node = e.1; found = ap (λ b. cond b (Some e.1) (find path_cmp e.0 es)) (own_path e.0); passes = passes }
      | false ↦ λ _ later. let f = passes_from_any test es (second _ _ sorted) later in record { path = f.path; node = f.node; found = find_later e es f.path f.node sorted f.found; passes = f.passes }
    ] refl any

or_true : (b : Bool) → (b || true) ≡ true
or_true true = refl
or_true false = refl

any_from_found : (test : Node → Bool) (es : List (Path × Node)) (p : Path) (n : Node) → find path_cmp p es ≡ Some n → test n ≡ true → list_any test (map (λ e. e.1) es) ≡ true
any_from_found test [] p n found passes = cc
any_from_found test (e ∷ es) p n found passes =
    let later : find path_cmp p es ≡ Some n → list_any test (map (λ e. e.1) es) ≡ true = λ is. any_from_found test es p n is passes in
    elim (eq_by_cmp path_cmp p e.0) as (λ b. cond b (Some e.1) (find path_cmp p es) ≡ Some n → (test e.1 || list_any test (map (λ e. e.1) es)) ≡ true) [
      | true ↦ λ is. let same : e.1 ≡ n = cc in ap (λ b. b || list_any test (map (λ e. e.1) es)) (ap test same ∙ passes)
      | false ↦ λ is. ap (λ b. test e.1 || b) (later is) ∙ or_true (test e.1)
    ] found

-- ---- which inode numbers are taken

numbers_any : (ino : ℕ) (ns : List Node) → list_any (λ taken. taken == ino) (map (λ node. node.ino) ns) ≡ list_any (λ node. node.ino == ino) ns
numbers_any ino [] = refl
numbers_any ino (n ∷ ns) = ap (λ b. (n.ino == ino) || b) (numbers_any ino ns)

is_taken-entries : (t : Tree) (ino : ℕ) → is_taken t ino ≡ list_any (λ node. node.ino == ino) (map (λ e. e.1) (entries_of t))
is_taken-entries t ino = ap (list_any (λ taken. taken == ino)) (inode_numbers-entries_of t) ∙ numbers_any ino _

-- a node that has a number, and its path
pub record HasNumber (t : Tree) (ino : ℕ) : Type 0 where
  pub path : Path
  pub node : Node
  pub at : node_at t path ≡ Some node
  pub has : node.ino ≡ ino

-- a taken number is that of a node
pub node_with_number : (t : Tree) (ino : ℕ) → is_taken t ino ≡ true → HasNumber t ino
node_with_number t ino taken =
    let f = passes_from_any (λ node. node.ino == ino) (entries_of t) (entries_of-sorted t) (sym (is_taken-entries t ino) ∙ taken) in
    record { path = f.path; node = f.node; at = node_at-entries_of t f.path ∙ f.found; has = eqb-true f.node.ino ino f.passes }

pub is_taken-node_at : (t : Tree) (p : Path) (n : Node) → node_at t p ≡ Some n → is_taken t n.ino ≡ true
is_taken-node_at t p n at =
    is_taken-entries t n.ino ∙ any_from_found (λ node. node.ino == n.ino) (entries_of t) p n (sym (node_at-entries_of t p) ∙ at) (eq-eqb n.ino n.ino refl)

-- a number that no node has is not taken
pub not_taken : (t : Tree) (ino : ℕ) → ((p : Path) (n : Node) → node_at t p ≡ Some n → n.ino ≢ ino) → is_taken t ino ≡ false
not_taken t ino none =
    elim (is_taken t ino) as (λ b. is_taken t ino ≡ b → b ≡ false) [
      | true ↦ λ taken. let w = node_with_number t ino taken in absurd (none w.path w.node w.at w.has)
      | false ↦ λ _. refl
    ] refl

-- ---- what entries of a map have at a path

find-lookup : (es : List (Path × Node)) (q : Path) → find path_cmp q es ≡ lookup (is_at (path_cmp q)) es
find-lookup [] q = refl
find-lookup (e ∷ es) q = ap (cond (eq_by_cmp path_cmp q e.0) (Some e.1)) (find-lookup es q)

pub node_at-entries : (es : List (Path × Node)) (q : Path) → node_at (tree_of_entries es) q ≡ lookup (is_at (path_cmp q)) es
node_at-entries es q = node_at-tree_of_entries es q ∙ find-lookup es q

-- entries that differ at one path make trees that differ there
pub tree_put : (es fs : List (Path × Node)) (p : Path) (n : Node) → ((q : Path) → lookup (is_at (path_cmp q)) fs ≡ cond (is_at (path_cmp p) q) (Some n) (lookup (is_at (path_cmp q)) es))
    → tree_of_entries fs ≡ with_node (tree_of_entries es) p n
tree_put es fs p n h = same_tree _ _ (λ q.
    node_at-entries fs q ∙ h q ∙ ap (λ b. cond b (Some n) (lookup (is_at (path_cmp q)) es)) ((eq_by_cmp_equiv path_order).symm p q)
    ∙ sym (node_at-with_node (tree_of_entries es) p n q ∙ ap (cond (eq_by_cmp path_cmp q p) (Some n)) (node_at-entries es q)))

pub tree_take : (es fs : List (Path × Node)) (p : Path) → ((q : Path) → lookup (is_at (path_cmp q)) fs ≡ cond (is_at (path_cmp p) q) None (lookup (is_at (path_cmp q)) es))
    → tree_of_entries fs ≡ without (tree_of_entries es) p
tree_take es fs p h = same_tree _ _ (λ q.
    node_at-entries fs q ∙ h q ∙ ap (λ b. cond b None (lookup (is_at (path_cmp q)) es)) ((eq_by_cmp_equiv path_order).symm p q)
    ∙ sym (node_at-without (tree_of_entries es) p q ∙ ap (cond (eq_by_cmp path_cmp q p) None) (node_at-entries es q)))

pub IsSome-from : {X : Type 0} (x : X) (o : Option X) → Some x ≡ o → IsSome o
IsSome-from x o is = subst IsSome is refl
