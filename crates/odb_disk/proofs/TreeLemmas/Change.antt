-- Laws of changes: what is at each path after one, and that a tree stays a tree.
use Rattle.std.proofs.Common.{◌≡◌, ◌≢◌, ◌⊎◌, ℕ, true, false, List, [], ◌∷◌, ◌++◌, map, Option, Some, None, IsSome, refl, sym, ap, ◌∙◌, T, inl, inr, cond, option_and_then, lit<}
use Rattle.std.specs.FinMap.{find, is_sorted}
use Rattle.std.specs.Ordering.{eq_by_cmp}
use Rattle.std.specs.List.{filter_map, cons_option}
use Rattle.std.specs.Cmp.Lexicographic.{nat_list_eq_equiv, same_text}
use Rattle.std.proofs.lemmas.Bool.{false≢true}
use Rattle.odb_base.specs.Path.{Name, Path, path_cmp, parent_of, same_name}
use Rattle.odb_disk.specs.Tree.{Tree, IsTree, node_at, with_node, without, names_in, name_in, is_directory}
use Rattle.odb_disk.specs.Tree.Nodes.{entries_of, entries_of-sorted, node_at-entries_of, names_in-entries_of}
use Rattle.odb_disk.specs.Tree.Change.{lies_in_directory, is_nil, changed, least_free, put_node, link_node, with_time}
use Rattle.odb_disk.specs.declared.node.Node.{Node}
use Rattle.odb_disk.specs.declared.node.Content.TheVariants.{File, Dir}
use Rattle.odb_disk.specs.declared.change.Change.TheVariants.{PutFile, MakeDir, PutLink, Remove, SetTime}
use Rattle.odb_base.specs.PathLaws.{parent_of-push, parent_of-none}
use Rattle.odb_disk.proofs.TreeLemmas.{cases_path, node_at-put, node_at-put_other, node_at-taken, node_at-taken_other, same_path, find_own, find_later, second}

-- ---- what is at a path after a change

pub at_after_put : (t : Tree) (p : Path) (m : Node) (q : Path) (k : Node) → node_at (with_node t p m) q ≡ Some k → ((q ≡ p) × (k ≡ m)) ⊎ ((q ≢ p) × (node_at t q ≡ Some k))
at_after_put t p m q k at =
    elim (cases_path q p) [
      | inl same ↦ let put : Some k ≡ Some m = sym at ∙ ap (node_at (with_node t p m)) same ∙ node_at-put t p m in inl (same, cc)
      | inr apart ↦ inr (apart, sym (node_at-put_other t p m q apart) ∙ at)
    ]

pub at_after_take : (t : Tree) (p q : Path) (k : Node) → node_at (without t p) q ≡ Some k → (q ≢ p) × (node_at t q ≡ Some k)
at_after_take t p q k at =
    elim (cases_path q p) [
      | inl same ↦ absurd (let none : None ≡ Some k = sym (node_at-taken t p) ∙ ap (node_at (without t p)) (sym same) ∙ at in cc)
      | inr apart ↦ (apart, sym (node_at-taken_other t p q apart) ∙ at)
    ]

-- ---- the directory that a path is in

pub lies_in-push : (t : Tree) (directory : Path) (name : Name) → lies_in_directory t (directory ++ name ∷ []) ≡ is_directory (node_at t directory)
lies_in-push t directory name = ap (λ o. is_directory (option_and_then (node_at t) o)) (parent_of-push directory name)

pub root_lies_nowhere : (t : Tree) (p : Path) → p ≡ [] → lies_in_directory t p ≡ false
root_lies_nowhere t p root = ap (λ o. is_directory (option_and_then (node_at t) o)) (ap parent_of root ∙ parent_of-none [] (lit< tt))

-- a path that isn't the root, as its directory and its last name
pub record LastName (path : Path) : Type 0 where
  pub front : Path
  pub name : Name
  pub is : path ≡ front ++ name ∷ []

pub split_last : (path : Path) → [] ≢ path → LastName path
split_last [] below_root = absurd (below_root refl)
split_last (name ∷ []) below_root = record { front = []; name = name; is = refl }
split_last (name ∷ next ∷ names) below_root =
    let rest = split_last (next ∷ names) (λ e. cc) in
    record { front = name ∷ rest.front; name = rest.name; is = ap (λ ns. name ∷ ns) rest.is }

-- ---- the tree stays a tree

module _ (t : Tree) (is_tree : IsTree t) (p : Path) (m : Node) (lies : lies_in_directory t p ≡ true) (no_directory : is_directory (node_at t p) ≡ false)
    (fresh : (q : Path) (k : Node) → q ≢ p → node_at t q ≡ Some k → k.ino ≢ m.ino) where
  no_root : [] ≢ p
  no_root root = false≢true (sym (root_lies_nowhere t p (sym root)) ∙ lies)

  -- a directory is still there
  keeps_directory : (directory : Path) → is_directory (node_at t directory) ≡ true → is_directory (node_at (with_node t p m) directory) ≡ true
  keeps_directory directory is =
      ap is_directory (node_at-put_other t p m directory (λ same. false≢true (sym no_directory ∙ ap (λ q. is_directory (node_at t q)) (sym same) ∙ is))) ∙ is

  pub IsTree-put : IsTree (with_node t p m)
  IsTree-put = record {
    root = keeps_directory [] is_tree.root;
    ways = λ directory name node at. elim (at_after_put t p m (directory ++ name ∷ []) node at) [
      | inl w ↦ keeps_directory directory (sym (lies_in-push t directory name) ∙ ap (lies_in_directory t) w.0 ∙ lies)
      | inr w ↦ keeps_directory directory (is_tree.ways directory name node w.1)
    ];
    apart = λ path other node twin at there same. elim (at_after_put t p m path node at) [
      | inl w ↦ elim (at_after_put t p m other twin there) [
        | inl v ↦ w.0 ∙ sym v.0
        | inr v ↦ absurd (fresh other twin v.0 v.1 (sym same ∙ ap (λ n. n.ino) w.1))
      ]
      | inr w ↦ elim (at_after_put t p m other twin there) [
        | inl v ↦ absurd (fresh path node w.0 w.1 (same ∙ ap (λ n. n.ino) v.1))
        | inr v ↦ is_tree.apart path other node twin w.1 v.1 same
      ]
    ];
  }

module _ (t : Tree) (is_tree : IsTree t) (p : Path) (no_root : [] ≢ p) (no_names : (name : Name) (n : Node) → node_at t (p ++ name ∷ []) ≢ Some n) where
  stays_directory : (directory : Path) → directory ≢ p → is_directory (node_at t directory) ≡ true → is_directory (node_at (without t p) directory) ≡ true
  stays_directory directory apart is = ap is_directory (node_at-taken_other t p directory apart) ∙ is

  pub IsTree-without : IsTree (without t p)
  IsTree-without = record {
    root = stays_directory [] no_root is_tree.root;
    ways = λ directory name node at.
        let w = at_after_take t p (directory ++ name ∷ []) node at in
        stays_directory directory (λ same. no_names name node (ap (λ d. node_at t (d ++ name ∷ [])) (sym same) ∙ w.1)) (is_tree.ways directory name node w.1);
    apart = λ path other node twin at there same. is_tree.apart path other node twin (at_after_take t p path node at).1 (at_after_take t p other twin there).1 same;
  }

-- ---- the names in a directory

pub name_in-push : (directory : Path) (name : Name) → name_in directory (directory ++ name ∷ []) ≡ Some name
unfolding name_in
name_in-push [] name = refl
name_in-push (step ∷ steps) name = ap (λ b. cond b (name_in steps (steps ++ name ∷ [])) None) (nat_list_eq_equiv.refl step) ∙ name_in-push steps name

pub name_in-path : (directory path : Path) (name : Name) → name_in directory path ≡ Some name → path ≡ directory ++ name ∷ []
unfolding name_in
name_in-path [] [] name is = cc
name_in-path [] (first ∷ []) name is = ap (λ n. n ∷ []) (let e : first ≡ name = cc in e)
name_in-path [] (first ∷ other ∷ names) name is = cc
name_in-path (step ∷ steps) [] name is = cc
name_in-path (step ∷ steps) (first ∷ names) name is =
    let below : name_in steps names ≡ Some name → names ≡ steps ++ name ∷ [] = name_in-path steps names name in
    elim (same_name step first) as (λ b. same_name step first ≡ b → cond b (name_in steps names) None ≡ Some name → first ∷ names ≡ (step ∷ steps) ++ name ∷ []) [
      | true ↦ λ same at. let e : step ≡ first = same_text step first (sym same) in ap (λ f. f ∷ names) (sym e) ∙ ap (λ ns. step ∷ ns) (below at)
      | false ↦ λ _ none. cc
    ] refl is

nil_cons : (o : Option Name) (names : List Name) → is_nil (cons_option o names) ≡ true → (o ≡ None) × (is_nil names ≡ true)
nil_cons None names nil = (refl, nil)
nil_cons (Some name) names nil = absurd (false≢true nil)

no_name_found : (directory : Path) (es : List (Path × Node)) → is_nil (filter_map (name_in directory) (map (λ e. e.0) es)) ≡ true → (p : Path) (n : Node) → find path_cmp p es ≡ Some n
    → name_in directory p ≡ None
no_name_found directory [] nil p n found = cc
no_name_found directory (e ∷ es) nil p n found =
    let parts = nil_cons (name_in directory e.0) (filter_map (name_in directory) (map (λ e. e.0) es)) nil in
    let later : find path_cmp p es ≡ Some n → name_in directory p ≡ None = no_name_found directory es parts.1 p n in
    elim (eq_by_cmp path_cmp p e.0) as (λ b. eq_by_cmp path_cmp p e.0 ≡ b → cond b (Some e.1) (find path_cmp p es) ≡ Some n → name_in directory p ≡ None) [
      | true ↦ λ tied _. ap (name_in directory) (same_path p e.0 tied) ∙ parts.0
      | false ↦ λ _ is. later is
    ] refl found

nil_from_found : (directory : Path) (es : List (Path × Node)) → T (is_sorted path_cmp es) → ((p : Path) (n : Node) → find path_cmp p es ≡ Some n → name_in directory p ≡ None)
    → is_nil (filter_map (name_in directory) (map (λ e. e.0) es)) ≡ true
nil_from_found directory [] sorted none = refl
nil_from_found directory (e ∷ es) sorted none =
    ap (λ o. is_nil (cons_option o (filter_map (name_in directory) (map (λ e. e.0) es)))) (none e.0 e.1 (find_own e es))
    ∙ nil_from_found directory es (second _ _ sorted) (λ p n found. none p n (find_later e es p n sorted found))

-- a directory with no names in it
pub no_names_below : (t : Tree) (directory : Path) → is_nil (names_in t directory) ≡ true → (name : Name) (n : Node) → node_at t (directory ++ name ∷ []) ≢ Some n
no_names_below t directory nil name n at =
    let none = no_name_found directory (entries_of t) (ap is_nil (sym (names_in-entries_of t directory)) ∙ nil) (directory ++ name ∷ []) n (sym (node_at-entries_of t _) ∙ at) in
    let both : Some name ≡ None = sym (name_in-push directory name) ∙ none in cc

pub nil_names : (t : Tree) (directory : Path) → ((name : Name) (n : Node) → node_at t (directory ++ name ∷ []) ≢ Some n) → is_nil (names_in t directory) ≡ true
nil_names t directory none =
    ap is_nil (names_in-entries_of t directory)
    ∙ nil_from_found directory (entries_of t) (entries_of-sorted t) (λ p n found.
    elim (name_in directory p) as (λ o. name_in directory p ≡ o → o ≡ None) [
      | None ↦ λ _. refl
      | Some name ↦ λ is. absurd (none name n (ap (node_at t) (sym (name_in-path directory p name is)) ∙ node_at-entries_of t p ∙ found))
    ] refl)

-- ---- what a change does

-- a node that is somewhere
pub record Standing (o : Option Node) : Type 0 where
  pub node : Node
  pub at : o ≡ Some node

pub node_of : (o : Option Node) → IsSome o → Standing o
node_of None some = absurd (false≢true some)
node_of (Some node) some = record { node = node; at = refl }

module _ (t : Tree) (p : Path) where
  pub made-make_dir : (dev : ℕ) → changed t (MakeDir p dev) ≡ with_node t p (record { dev = dev; ino = least_free t; content = Dir })
  unfolding changed
  made-make_dir dev = refl

  pub made-put_file : (time : ℕ) (bytes : List ℕ) → changed t (PutFile p time bytes) ≡ with_node t p (put_node t p (File bytes time) (node_at t p))
  unfolding changed
  made-put_file time bytes = refl

  pub made-put_link : (target : Path) → changed t (PutLink p target) ≡ with_node t p (link_node t p target (node_at t p))
  unfolding changed
  made-put_link target = refl

  pub made-set_time : (time : ℕ) → changed t (SetTime p time) ≡ with_time t p time (node_at t p)
  unfolding changed
  made-set_time time = refl

  pub made-remove : changed t (Remove p) ≡ without t p
  unfolding changed
  made-remove = refl

-- a node other than the root is in a directory
pub lies_in-node : (t : Tree) → IsTree t → (p : Path) (n : Node) → [] ≢ p → node_at t p ≡ Some n → lies_in_directory t p ≡ true
lies_in-node t is_tree p n below_root at =
    let s = split_last p below_root in
    ap (lies_in_directory t) s.is ∙ lies_in-push t s.front s.name ∙ is_tree.ways s.front s.name n (ap (node_at t) (sym s.is) ∙ at)
