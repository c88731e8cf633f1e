-- A tree stays a tree when what can be moved is moved.
use Rattle.std.proofs.Common.{◌≡◌, ◌≢◌, ◌⊎◌, true, false, not, ◌&&◌, [], ◌∷◌, ◌++◌, length, drop, Option, Some, None, is_none}
use Rattle.std.proofs.Common.{refl, sym, ap, ◌∙◌, inl, inr, cond, subst, append-nil, append_assoc, length-append, arith}
use Rattle.std.proofs.lemmas.Bool.{false≢true, false_from_ne_true, and_parts, not-true}
use Rattle.std.proofs.lemmas.List.{append_cancel_left}
use Rattle.std.proofs.lemmas.Option.{same_Some}
use Rattle.odb_base.specs.Path.{Name, Path, parent_of}
use Rattle.odb_base.specs.PathLaws.{goes_beyond, parent_of-push}
use Rattle.odb_disk.specs.Tree.{Tree, IsTree, node_at, with_node, without, is_directory, is_directory_content}
use Rattle.odb_disk.specs.Tree.Nodes.{same_tree}
use Rattle.odb_disk.specs.Tree.Change.{lies_in_directory, can_move, is_file_content, with_moved}
use Rattle.odb_disk.specs.declared.node.Node.{Node}
use Rattle.odb_disk.specs.declared.node.Content.{Content}
use Rattle.odb_disk.specs.declared.node.Content.TheVariants.{File, Dir, Link}
use Rattle.odb_disk.proofs.TreeLemmas.{cases_path, node_at-put, node_at-put_other, node_at-taken, node_at-taken_other}
use Rattle.odb_disk.proofs.TreeLemmas.Follow.{way_is_directory}
use Rattle.odb_disk.proofs.TreeLemmas.Change.{root_lies_nowhere, lies_in-push, lies_in-node, split_last}
use Rattle.odb_disk.proofs.TreeLemmas.Moved.{begins, begins-append, begins-own, begins-more, root_begins, moved_below, moved_target}
use Rattle.odb_disk.proofs.TreeLemmas.Moved.{moved_away, moved_other, WasBelow, WasThere, at_after_move, moved_onto_itself}

-- ---- paths

pub same_front : (d e : Path) (x y : Name) → d ++ x ∷ [] ≡ e ++ y ∷ [] → (d ≡ e) × (d ++ x ∷ [] ≡ d ++ y ∷ [])
same_front d e x y is =
    let front : d ≡ e = same_Some d e (sym (parent_of-push d x) ∙ ap parent_of is ∙ parent_of-push e y) in
    (front, is ∙ ap (λ p. p ++ y ∷ []) (sym front))

-- a directory isn't below what is in it
pub shorter_front : (d : Path) (x : Name) → begins d (d ++ x ∷ []) ≡ false
shorter_front d x = false_from_ne_true _ (λ is.
    let whole = goes_beyond d (d ++ x ∷ []) is in
    let long = ap length whole in
    let l1 = length-append (d ++ x ∷ []) (drop (length (d ++ x ∷ [])) d) in
    let l2 = length-append d (x ∷ []) in
    absurd (omega arith))

-- what is below a path and isn't it
pub goes_on : (q base : Path) → begins q base ≡ true → q ≢ base → (name : Name) × (names : Path) × (q ≡ base ++ name ∷ names)
goes_on q base is apart = split (drop (length base) q) (goes_beyond q base is)
  where
    split : (rest : Path) → q ≡ base ++ rest → (name : Name) × (names : Path) × (q ≡ base ++ name ∷ names)
    split [] whole = absurd (apart (whole ∙ append-nil base))
    split (name ∷ names) whole = (name, names, whole)

-- ---- nodes that are no directory

pub no_directory_file : (content : Content) → is_file_content content ≡ true → is_directory_content content ≡ false
no_directory_file (File bytes time) file = refl
no_directory_file Dir file = cc
no_directory_file (Link target) file = cc

pub file_no_directory : (t : Tree) (p : Path) (n : Node) → node_at t p ≡ Some n → is_file_content n.content ≡ true → is_directory (node_at t p) ≡ false
file_no_directory t p n at file = ap is_directory at ∙ no_directory_file n.content file

pub file_lies : (t : Tree) → IsTree t → (p : Path) (n : Node) → node_at t p ≡ Some n → is_file_content n.content ≡ true → lies_in_directory t p ≡ true
file_lies t is_tree p n at file =
    lies_in-node t is_tree p n (λ root. false≢true (sym (ap (λ q. is_directory (node_at t q)) root ∙ file_no_directory t p n at file) ∙ is_tree.root)) at

-- nothing is below a path that is no directory
pub nothing_below : (t : Tree) → IsTree t → (p : Path) → is_directory (node_at t p) ≡ false → (name : Name) (names : Path) (n : Node) → node_at t (p ++ name ∷ names) ≢ Some n
nothing_below t is_tree p other name names n at = false≢true (sym other ∙ way_is_directory t is_tree p name names n at)

pub none_below : (t : Tree) → IsTree t → (p : Path) → is_directory (node_at t p) ≡ false → (name : Name) (names : Path) → node_at t (p ++ name ∷ names) ≡ None
none_below t is_tree p other name names =
    elim (node_at t (p ++ name ∷ names)) as (λ o. node_at t (p ++ name ∷ names) ≡ o → o ≡ None) [ None ↦ λ _. refl | Some n ↦ λ at. absurd (nothing_below t is_tree p other name names n at) ] refl

-- ---- the tree after a move to a path outside the source

module _ (t : Tree) (is_tree : IsTree t) (from to : Path) (lies : lies_in_directory t to ≡ true) (free : is_directory (node_at t to) ≡ false) (outside : begins to from ≡ false) where
  abbrev after : Tree
  after = with_moved t from to

  target_below_root : [] ≢ to
  target_below_root root = false≢true (sym (root_lies_nowhere t to (sym root)) ∙ lies)

  source_below_root : [] ≢ from
  source_below_root root = false≢true (sym outside ∙ ap (begins to) (sym root) ∙ begins-append [] to)

  -- if a path is above neither end, it has what it had
  front_stays : (d : Path) (x : Name) → begins (d ++ x ∷ []) to ≡ false → begins (d ++ x ∷ []) from ≡ false → node_at after d ≡ node_at t d
  front_stays d x other apart =
      moved_other t from to d
      (false_from_ne_true _ (λ is. false≢true (sym other ∙ begins-more d to (x ∷ []) is)))
      (false_from_ne_true _ (λ is. false≢true (sym apart ∙ begins-more d from (x ∷ []) is)))

  -- the directory of the target stays as it was
  target_front : (d : Path) (x : Name) → d ++ x ∷ [] ≡ to → is_directory (node_at after d) ≡ true
  target_front d x is =
      let there : is_directory (node_at t d) ≡ true = sym (lies_in-push t d x) ∙ ap (lies_in_directory t) is ∙ lies in
      ap is_directory (moved_other t from to d
      (ap (begins d) (sym is) ∙ shorter_front d x)
      (false_from_ne_true _ (λ source. false≢true (sym outside ∙ ap (λ q. begins q from) (sym is) ∙ begins-more d from (x ∷ []) source)))) ∙ there

  below_target : (d : Path) (x : Name) (n : Node) (rest : Path) → d ++ x ∷ [] ≡ to ++ rest → node_at t (from ++ rest) ≡ Some n → is_directory (node_at after d) ≡ true
  below_target d x n rest is at =
      elim (cases_path [] rest) [
        | inl nil ↦ target_front d x (is ∙ ap (λ r. to ++ r) (sym nil) ∙ append-nil to)
        | inr more ↦
            let s = split_last rest more in
            let regroup : to ++ rest ≡ (to ++ s.front) ++ s.name ∷ [] = ap (λ r. to ++ r) s.is ∙ sym (append_assoc to s.front (s.name ∷ [])) in
            let front = (same_front d (to ++ s.front) x s.name (is ∙ regroup)).0 in
            let source : from ++ rest ≡ (from ++ s.front) ++ s.name ∷ [] = ap (λ r. from ++ r) s.is ∙ sym (append_assoc from s.front (s.name ∷ [])) in
            ap (λ p. is_directory (node_at after p)) front ∙ ap is_directory (moved_below t from to s.front) ∙ is_tree.ways (from ++ s.front) s.name n (ap (node_at t) (sym source) ∙ at)
      ]

  -- two nodes of one number were at one place
  same_origin : (p q : Path) (m n : Node) → m.ino ≡ n.ino → WasBelow t from to p m ⊎ WasThere t from to p m → WasBelow t from to q n ⊎ WasThere t from to q n → p ≡ q
  same_origin p q m n same (inl v) (inl w) =
      v.is ∙ ap (λ r. to ++ r) (append_cancel_left from v.rest w.rest (is_tree.apart (from ++ v.rest) (from ++ w.rest) m n v.at w.at same)) ∙ sym w.is
  same_origin p q m n same (inl v) (inr w) =
      absurd (false≢true (sym w.apart ∙ ap (λ r. begins r from) (sym (is_tree.apart (from ++ v.rest) q m n v.at w.at same)) ∙ begins-append from v.rest))
  same_origin p q m n same (inr v) (inl w) =
      absurd (false≢true (sym v.apart ∙ ap (λ r. begins r from) (is_tree.apart p (from ++ w.rest) m n v.at w.at same) ∙ begins-append from w.rest))
  same_origin p q m n same (inr v) (inr w) = is_tree.apart p q m n v.at w.at same

  pub IsTree-moved : IsTree after
  IsTree-moved = record {
    root = ap is_directory (moved_other t from to [] (root_begins to target_below_root) (root_begins from source_below_root)) ∙ is_tree.root;
    ways = λ directory name node at. elim (at_after_move t from to (directory ++ name ∷ []) node at) [
      | inl w ↦ below_target directory name node w.rest w.is w.at
      | inr w ↦ ap is_directory (front_stays directory name w.outside w.apart) ∙ is_tree.ways directory name node w.at
    ];
    apart = λ path other node twin at there same. same_origin path other node twin same (at_after_move t from to path node at) (at_after_move t from to other twin there);
  }

-- ---- what can be moved

-- a path below a file or a link is in no directory
pub leaf_outside : (t : Tree) → IsTree t → (from to : Path) → is_directory (node_at t from) ≡ false → lies_in_directory t to ≡ true → from ≢ to → begins to from ≡ false
leaf_outside t is_tree from to leaf lies apart = false_from_ne_true _ (λ is.
    let g = goes_on to from is (λ same. apart (sym same)) in
    let s = split_last (g.0 ∷ g.1) (λ e. cc) in
    let whole : to ≡ (from ++ s.front) ++ s.name ∷ [] = g.2 ∙ ap (λ r. from ++ r) s.is ∙ sym (append_assoc from s.front (s.name ∷ [])) in
    let front : is_directory (node_at t (from ++ s.front)) ≡ true = sym (lies_in-push t (from ++ s.front) s.name) ∙ ap (lies_in_directory t) (sym whole) ∙ lies in
    deeper s.front front)
  where
    deeper : (rest : Path) → is_directory (node_at t (from ++ rest)) ≡ true → ⊥
    deeper [] is = false≢true (sym leaf ∙ ap (λ p. is_directory (node_at t p)) (sym (append-nil from)) ∙ is)
    deeper (name ∷ names) is = false≢true (sym (ap is_directory (none_below t is_tree from leaf name names)) ∙ is)

-- what a move asks of its two ends
pub record CanMove (t : Tree) (from to : Path) : Type 0 where
  pub node : Node
  pub at : node_at t from ≡ Some node
  pub free : is_directory (node_at t to) ≡ false
  pub outside : (from ≡ to) ⊎ (begins to from ≡ false)

no_directory_none : (o : Option Node) → is_none o ≡ true → is_directory o ≡ false
no_directory_none None is = refl
no_directory_none (Some n) is = cc

pub CanMove-from : (t : Tree) → IsTree t → (from to : Path) → lies_in_directory t to ≡ true → can_move t from to (node_at t from) ≡ true → CanMove t from to
CanMove-from t is_tree from to lies can =
    elim (node_at t from) as (λ o. node_at t from ≡ o → can_move t from to o ≡ true → CanMove t from to) [
      | None ↦ λ _ e. cc
      | Some n ↦ λ at.
          elim (is_directory_content n.content) as (λ b. is_directory_content n.content ≡ b
          → cond b (is_none (node_at t to) && not (begins to from)) (not (is_directory (node_at t to))) ≡ true → CanMove t from to) [
            | true ↦ λ _ e. let parts = and_parts _ _ e in record { node = n; at = at; free = no_directory_none _ parts.0; outside = inr (not-true _ parts.1) }
            | false ↦ λ leaf e.
                record {
                  node = n;
                  at = at;
                  free = not-true _ e;
                  outside = elim (cases_path from to) [ inl same ↦ inl same | inr apart ↦ inr (leaf_outside t is_tree from to (ap is_directory at ∙ leaf) lies apart) ];
                }
          ] refl
    ] refl can

pub IsTree-can_move : (t : Tree) → IsTree t → (from to : Path) → lies_in_directory t to ≡ true → can_move t from to (node_at t from) ≡ true → IsTree (with_moved t from to)
IsTree-can_move t is_tree from to lies can =
    let m = CanMove-from t is_tree from to lies can in
    elim m.outside [
      | inl same ↦ subst (λ q. IsTree (with_moved t from q)) same (subst IsTree (sym (moved_onto_itself t from)) is_tree)
      | inr outside ↦ IsTree-moved t is_tree from to lies m.free outside
    ]

-- ---- a move of a file or a link is one node's

module _ (t : Tree) (is_tree : IsTree t) (from to : Path) (n : Node) (at : node_at t from ≡ Some n) (leaf : is_directory (node_at t from) ≡ false) (free : is_directory (node_at t to) ≡ false)
    (apart : from ≢ to) where
  abbrev one : Tree
  one = with_node (without t from) to n

  leaf_at : (q : Path) → node_at (with_moved t from to) q ≡ node_at one q
  leaf_at q = elim (cases_path q to) [
    | inl same ↦ ap (node_at (with_moved t from to)) same ∙ moved_target t from to ∙ at ∙ sym (ap (node_at one) same ∙ node_at-put (without t from) to n)
    | inr other ↦
        leaf_left other
        ∙ sym (node_at-put_other (without t from) to n q other)
  ]
    where
      -- away from the target
      leaf_left : q ≢ to → node_at (with_moved t from to) q ≡ node_at (without t from) q
      leaf_left other =
          elim (begins q to) as (λ b. begins q to ≡ b → node_at (with_moved t from to) q ≡ node_at (without t from) q) [
            | true ↦ λ below.
                let g = goes_on q to below other in
                let gone : node_at t q ≡ None = ap (node_at t) g.2 ∙ none_below t is_tree to free g.0 g.1 in
                ap (node_at (with_moved t from to)) g.2 ∙ moved_below t from to (g.0 ∷ g.1) ∙ none_below t is_tree from leaf g.0 g.1
                ∙ sym (node_at-taken_other t from q (λ same. let both : None ≡ Some n = sym gone ∙ ap (node_at t) same ∙ at in cc) ∙ gone)
            | false ↦ λ outside.
                elim (cases_path q from) [
                  | inl same ↦ moved_away t from to q outside (ap (λ p. begins p from) same ∙ begins-own from) ∙ sym (ap (node_at (without t from)) same ∙ node_at-taken t from)
                  | inr off ↦ leaf_other outside off ∙ sym (node_at-taken_other t from q off)
                ]
          ] refl
        where
          leaf_other : begins q to ≡ false → q ≢ from → node_at (with_moved t from to) q ≡ node_at t q
          leaf_other outside off =
              elim (begins q from) as (λ b. begins q from ≡ b → node_at (with_moved t from to) q ≡ node_at t q) [
                | true ↦ λ below.
                    let g = goes_on q from below off in
                    moved_away t from to q outside below ∙ sym (ap (node_at t) g.2 ∙ none_below t is_tree from leaf g.0 g.1)
                | false ↦ λ away. moved_other t from to q outside away
              ] refl

  pub moved_leaf : with_moved t from to ≡ one
  moved_leaf = same_tree _ _ leaf_at
