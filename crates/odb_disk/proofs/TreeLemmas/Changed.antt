-- Laws of changes: a possible change keeps a tree a tree, and what a change does to a state.
use Rattle.std.proofs.Common.{◌≡◌, ℕ, true, false, List, Option, Some, None, Result, Ok, Err, is_none, refl, sym, ap, ◌∙◌, subst}
use Rattle.std.proofs.lemmas.Bool.{false≢true, and_parts, not-true}
use Rattle.odb_base.specs.Path.{Path}
use Rattle.odb_disk.specs.Tree.{Tree, State, IsTree, tree_of, state_of, node_at, with_node, without, names_in, is_directory}
use Rattle.odb_disk.specs.Tree.Follow.{Place, Refusal, followed, most_links}
use Rattle.odb_disk.specs.Tree.Change.{parent_node, lies_in_directory, is_nil, is_file_place, is_possible_in, is_possible, changed, after_change, least_free}
use Rattle.odb_disk.specs.Tree.Change.{put_node, put_over, link_node, link_over, device_of, with_moved, with_longer, longer, is_file, with_time, timed}
use Rattle.odb_disk.specs.Tree.Write.{after_write}
use Rattle.odb_disk.specs.declared.node.Node.{Node}
use Rattle.odb_disk.specs.declared.node.Content.{Content}
use Rattle.odb_disk.specs.declared.node.Content.TheVariants.{File, Dir, Link}
use Rattle.odb_disk.specs.declared.change.Change.{Change}
use Rattle.odb_disk.specs.declared.change.Change.TheVariants.{PutFile, MakeDir, PutLink, Rename, Append, Remove, SetTime}
use Rattle.odb_disk.proofs.TreeLemmas.{tree_of-state_of}
use Rattle.odb_disk.proofs.TreeLemmas.Numbers.{least_free-fresh}
use Rattle.odb_disk.proofs.TreeLemmas.Follow.{place_stands, StandsAt}
use Rattle.odb_disk.proofs.TreeLemmas.Change.{IsTree-put, IsTree-without, no_names_below, root_lies_nowhere}
use Rattle.odb_disk.proofs.TreeLemmas.MovedTree.{IsTree-can_move, file_lies, file_no_directory}

-- ---- a possible change keeps the tree a tree

module _ (t : Tree) (is_tree : IsTree t) (p : Path) where
  IsTree-new_node : (dev : ℕ) (content : Content) → lies_in_directory t p ≡ true → is_directory (node_at t p) ≡ false
      → IsTree (with_node t p (record { dev = dev; ino = least_free t; content = content }))
  IsTree-new_node dev content lies other =
      IsTree-put t is_tree p (record { dev = dev; ino = least_free t; content = content }) lies other (λ q k _ at. least_free-fresh t q k at)

  IsTree-put_over : (content : Content) (node : Node) (old : Content) → lies_in_directory t p ≡ true → is_directory (node_at t p) ≡ false → node_at t p ≡ Some node
      → IsTree (with_node t p (put_over t p content node old))
  IsTree-put_over content node (File bytes time) lies other at =
      IsTree-put t is_tree p (record node { content = content }) lies other (λ q k apart there same. apart (is_tree.apart q p k node there at same))
  IsTree-put_over content node Dir lies other at = IsTree-new_node (device_of (parent_node t p)) content lies other
  IsTree-put_over content node (Link target) lies other at = IsTree-new_node (device_of (parent_node t p)) content lies other

  IsTree-put_node : (content : Content) → lies_in_directory t p ≡ true → is_directory (node_at t p) ≡ false → IsTree (with_node t p (put_node t p content (node_at t p)))
  IsTree-put_node content lies other =
      elim (node_at t p) as (λ o. node_at t p ≡ o → IsTree (with_node t p (put_node t p content o))) [
        | None ↦ λ _. IsTree-new_node (device_of (parent_node t p)) content lies other
        | Some node ↦ λ at. IsTree-put_over content node node.content lies other at
      ] refl

  IsTree-link_over : (target : Path) (node : Node) (old : Content) → lies_in_directory t p ≡ true → is_directory (node_at t p) ≡ false → node_at t p ≡ Some node
      → IsTree (with_node t p (link_over t p target node old))
  IsTree-link_over target node (Link old) lies other at =
      IsTree-put t is_tree p (record node { content = Link target }) lies other (λ q k apart there same. apart (is_tree.apart q p k node there at same))
  IsTree-link_over target node Dir lies other at = IsTree-new_node (device_of (parent_node t p)) (Link target) lies other
  IsTree-link_over target node (File bytes time) lies other at = IsTree-new_node (device_of (parent_node t p)) (Link target) lies other

  IsTree-link_node : (target : Path) → lies_in_directory t p ≡ true → is_directory (node_at t p) ≡ false → IsTree (with_node t p (link_node t p target (node_at t p)))
  IsTree-link_node target lies other =
      elim (node_at t p) as (λ o. node_at t p ≡ o → IsTree (with_node t p (link_node t p target o))) [
        | None ↦ λ _. IsTree-new_node (device_of (parent_node t p)) (Link target) lies other
        | Some node ↦ λ at. IsTree-link_over target node node.content lies other at
      ] refl

  pub IsTree-timed : (time : ℕ) → is_file (node_at t p) ≡ true → IsTree (with_time t p time (node_at t p))
  IsTree-timed time file =
      elim (node_at t p) as (λ o. node_at t p ≡ o → is_file o ≡ true → IsTree (with_time t p time o)) [
        | None ↦ λ _ none. cc
        | Some node ↦ λ at is. IsTree-put t is_tree p (record node { content = timed time node.content }) (file_lies t is_tree p node at is) (file_no_directory t p node at is)
            (λ q k apart there same. apart (is_tree.apart q p k node there at same))
      ] refl file

  IsTree-remove : lies_in_directory t p ≡ true → is_nil (names_in t p) ≡ true → IsTree (without t p)
  IsTree-remove lies nil = IsTree-without t is_tree p (λ root. false≢true (sym (root_lies_nowhere t p (sym root)) ∙ lies)) (no_names_below t p nil)

-- the tree stays one when bytes are appended
IsTree-longer : (t : Tree) → IsTree t → (more : List ℕ) (told : Result Place Refusal) → is_file_place told ≡ true → StandsAt t told → IsTree (with_longer t more told)
IsTree-longer t is_tree more (Err refusal) file stands = cc
IsTree-longer t is_tree more (Ok place) file stands =
    let at = stands place refl in
    IsTree-put t is_tree place.path (record place.node { content = longer place.node.content more }) (file_lies t is_tree place.path place.node at file)
    (file_no_directory t place.path place.node at file)
    (λ q k apart there same. apart (is_tree.apart q place.path k place.node there at same))

pub IsTree-changed : (t : Tree) (change : Change) → IsTree t → is_possible_in t change ≡ true → IsTree (changed t change)
unfolding is_possible_in changed
IsTree-changed t (PutFile p time bytes) is_tree possible =
    let parts = and_parts _ _ possible in IsTree-put_node t is_tree p (File bytes time) parts.0 (not-true _ parts.1)
IsTree-changed t (MakeDir p dev) is_tree possible =
    let parts = and_parts _ _ possible in IsTree-new_node t is_tree p dev Dir parts.0 (no_directory_at_none (node_at t p) parts.1)
  where
    no_directory_at_none : (o : Option Node) → is_none o ≡ true → is_directory o ≡ false
    no_directory_at_none None none = refl
    no_directory_at_none (Some node) none = cc
IsTree-changed t (PutLink p target) is_tree possible =
    let parts = and_parts _ _ possible in IsTree-link_node t is_tree p target parts.0 (not-true _ parts.1)
IsTree-changed t (Rename from to) is_tree possible =
    let parts = and_parts _ _ possible in IsTree-can_move t is_tree from to parts.0 parts.1
IsTree-changed t (Append path bytes) is_tree possible = IsTree-longer t is_tree bytes (followed t true path) possible (place_stands t most_links true path)
IsTree-changed t (Remove p) is_tree possible =
    let parts = and_parts _ _ possible in let more = and_parts _ _ parts.0 in IsTree-remove t is_tree p more.0 parts.1
IsTree-changed t (SetTime p time) is_tree possible = IsTree-timed t is_tree p time possible

-- ---- a change of a state

pub is_possible-state_of : (t : Tree) (change : Change) → is_possible (state_of t) change ≡ is_possible_in t change
unfolding is_possible
is_possible-state_of t change = ap (λ u. is_possible_in u change) (tree_of-state_of t)

pub after_change-tree : (s : State) (change : Change) → tree_of (after_change s change) ≡ changed (tree_of s) change
unfolding after_change
after_change-tree s change = tree_of-state_of (changed (tree_of s) change)

pub is_possible-tree_of : (s : State) (change : Change) → is_possible s change ≡ is_possible_in (tree_of s) change
unfolding is_possible
is_possible-tree_of s change = refl

pub IsTree-after_change : (s : State) (change : Change) → IsTree (tree_of s) → is_possible s change ≡ true → IsTree (tree_of (after_change s change))
IsTree-after_change s change is_tree possible =
    subst IsTree (sym (after_change-tree s change)) (IsTree-changed (tree_of s) change is_tree (sym (is_possible-tree_of s change) ∙ possible))

-- ---- a change that a call makes

pub after_write-tree : (s : State) (change : Change) → tree_of (after_write s change) ≡ changed (tree_of s) change
unfolding after_write
after_write-tree s change = tree_of-state_of (changed (tree_of s) change)

-- ---- what a move does

pub made-rename : (t : Tree) (from to : Path) → changed t (Rename from to) ≡ with_moved t from to
unfolding changed
made-rename t from to = refl

pub made-append : (t : Tree) (path : Path) (bytes : List ℕ) → changed t (Append path bytes) ≡ with_longer t bytes (followed t true path)
unfolding changed
made-append t path bytes = refl
