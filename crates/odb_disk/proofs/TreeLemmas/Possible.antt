-- Laws of possible changes: what is there when one is made.
use Rattle.std.proofs.Common.{◌≡◌, ◌≢◌, ℕ, ◌&&◌, true, false, List, [], Option, Some, None, is_some, is_none, refl, sym, ap, ◌∙◌}
use Rattle.std.proofs.lemmas.Bool.{false≢true, and_parts, and_left, and_right, not-true}
use Rattle.odb_base.specs.Path.{Path}
use Rattle.odb_disk.specs.Tree.{Tree, node_at, names_in, is_directory}
use Rattle.odb_disk.specs.Tree.Follow.{followed}
use Rattle.odb_disk.specs.Tree.Change.{lies_in_directory, is_nil, is_possible_in, is_file, is_file_place}
use Rattle.odb_disk.specs.declared.node.Node.{Node}
use Rattle.odb_disk.specs.declared.change.Change.TheVariants.{PutFile, MakeDir, PutLink, Append, Remove, SetTime}
use Rattle.odb_disk.proofs.TreeLemmas.Change.{root_lies_nowhere}

-- a node can be put at a path: it is in a directory, and no directory is there
pub record CanPut (t : Tree) (p : Path) : Type 0 where
  pub lies : lies_in_directory t p ≡ true
  pub no_directory : is_directory (node_at t p) ≡ false

no_directory_at_none : (o : Option Node) → is_none o ≡ true → is_directory o ≡ false
no_directory_at_none None none = refl
no_directory_at_none (Some node) none = cc

module _ (t : Tree) (p : Path) where
  pub can_put_file : (time : ℕ) (bytes : List ℕ) → is_possible_in t (PutFile p time bytes) ≡ true → CanPut t p
  unfolding is_possible_in
  can_put_file time bytes possible = let parts = and_parts _ _ possible in record { lies = parts.0; no_directory = not-true _ parts.1 }

  pub can_make_dir : (dev : ℕ) → is_possible_in t (MakeDir p dev) ≡ true → CanPut t p
  unfolding is_possible_in
  can_make_dir dev possible = let parts = and_parts _ _ possible in record { lies = parts.0; no_directory = no_directory_at_none (node_at t p) parts.1 }

  pub can_put_link : (target : Path) → is_possible_in t (PutLink p target) ≡ true → CanPut t p
  unfolding is_possible_in
  can_put_link target possible = let parts = and_parts _ _ possible in record { lies = parts.0; no_directory = not-true _ parts.1 }

  pub possible-append : (bytes : List ℕ) → is_possible_in t (Append p bytes) ≡ is_file_place (followed t true p)
  unfolding is_possible_in
  possible-append bytes = refl

  pub possible-set_time : (time : ℕ) → is_possible_in t (SetTime p time) ≡ is_file (node_at t p)
  unfolding is_possible_in
  possible-set_time time = refl

  pub root-remove : p ≡ [] → is_possible_in t (Remove p) ≡ false
  unfolding is_possible_in
  root-remove root = and_left _ _ (and_left _ _ (root_lies_nowhere t p root))

  pub absent-remove : node_at t p ≡ None → is_possible_in t (Remove p) ≡ false
  unfolding is_possible_in
  absent-remove none = and_left _ _ (and_right _ _ (ap is_some none))

  pub standing-remove : lies_in_directory t p ≡ true → (n : Node) → node_at t p ≡ Some n → is_possible_in t (Remove p) ≡ is_nil (names_in t p)
  unfolding is_possible_in
  standing-remove lies n at = ap (λ b. (b && is_some (node_at t p)) && is_nil (names_in t p)) lies ∙ ap (λ o. is_some o && is_nil (names_in t p)) at

  pub below_root-remove : is_possible_in t (Remove p) ≡ true → [] ≢ p
  below_root-remove possible root = false≢true (sym (root-remove (sym root)) ∙ possible)

  pub empty-remove : is_possible_in t (Remove p) ≡ true → is_nil (names_in t p) ≡ true
  unfolding is_possible_in
  empty-remove possible = (and_parts _ _ possible).1
