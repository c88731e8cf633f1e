-- Laws of the way of a path, for callers: which paths are on it, and where nothing changes on it, the path leads where it
-- led. `WayWriteLaws` has what is written through links.
use Rattle.std.proofs.Common.{◌≡◌, ◌≢◌, ℕ, Bool, true, false, List, [], ◌∷◌, ◌++◌, Some, None, Ok, Err, refl, sym, ap, ◌∙◌, cond, append-nil, arith}
use Rattle.std.specs.Ordering.{eq_by_cmp}
use Rattle.std.proofs.lemmas.Bool.{false≢true, false_from_ne_true, or_from}
use Rattle.odb_base.specs.Path.{Name, Path, path_cmp, parent_of}
use Rattle.odb_disk.specs.Tree.{Tree, IsTree, node_at, is_directory, is_directory_content}
use Rattle.odb_disk.specs.Tree.Follow.{Place, Onward, pass, followed, file_of, file_of_place, read_of, most_links}
use Rattle.odb_disk.specs.Tree.Change.{changed, lies_in_directory, is_nil, is_file_content}
use Rattle.odb_disk.specs.Tree.Write.{WrongKind, NotEmpty, from_followed, and_then, spot, vacant, movable_spot, movable, removable_spot, removable, file_path, file_spot}
use Rattle.odb_disk.specs.Tree.Way.{on_way, is_link, SameOnWay}
use Rattle.odb_disk.specs.declared.node.Node.{Node}
use Rattle.odb_disk.specs.declared.node.Content.TheVariants.{Link}
use Rattle.odb_disk.specs.declared.change.Change.{Change}
use Rattle.odb_disk.specs.declared.change.Change.TheVariants.{PutFile, MakeDir, Rename, Append, Remove}
use Rattle.odb_disk.proofs.TreeLemmas.{other_path}
use Rattle.odb_disk.proofs.TreeLemmas.Follow.{place_stands, pass_from, pass_led, pass_to_link}
use Rattle.odb_disk.proofs.TreeLemmas.Moved.{begins}
use Rattle.odb_disk.proofs.TreeLemmas.Change.{root_lies_nowhere, nil_names}
use Rattle.odb_disk.proofs.TreeLemmas.MovedTree.{file_no_directory, nothing_below}
use Rattle.odb_disk.proofs.TreeLemmas.Write.{spot_lies, vacant_at, movable_at, file_at, leads_to_itself}
use Rattle.odb_disk.proofs.WriteCallsLemmas.Spots.{other_nil}
use Rattle.odb_disk.proofs.WriteLaws.{at_place, touches, untouched}
use Rattle.odb_disk.proofs.WayLemmas.Alike.{outline, same_place}
use Rattle.odb_disk.proofs.WayLemmas.Trod.{followed_trod}
use Rattle.odb_disk.proofs.WayLemmas.Spots.{AlikeOnWay, places_alike, on_way_alike, file_spot_alike, spot_alike_below, spot_alike}
pub use Rattle.odb_disk.proofs.WayLemmas.Trod.{Trod, Passed, Crossed, Last, Behind}
-- Which paths are on a way: the prefixes of the path itself, each prefix of one that is, the way of a path with its last link
-- not followed, that of its directory, and the place where the path leads.
pub use Rattle.odb_disk.proofs.WayLemmas.Spots.{own_on_way, front_on_way, unfollowed_on_way, directory_on_way, place_on_way, leads_to_spot}

-- ---- the frame: trees with the same nodes on the way of a path

module _ (t u : Tree) (follow : Bool) (path : Path) (same : SameOnWay t u follow path) where
  same_outlines : AlikeOnWay t u follow path
  same_outlines q on = ap outline (same q on)

  -- the way itself is the same
  pub on_way_kept : (q : Path) → on_way u follow path q ≡ on_way t follow path q
  on_way_kept q = on_way_alike t u follow path same_outlines q

  -- the path leads to the same place
  pub followed_kept : followed u follow path ≡ followed t follow path
  followed_kept =
      same_place t u (followed u follow path) (followed t follow path) (places_alike t u follow path same_outlines) (λ place is. same place.path (place_on_way t follow path place is))
      (place_stands u most_links follow path) (place_stands t most_links follow path)

module _ (t u : Tree) (path : Path) (same : SameOnWay t u true path) where
  -- a read of the path gives the same
  pub read_kept : read_of u path ≡ read_of t path
  unfolding read_of
  read_kept = ap file_of_place (followed_kept t u true path same)

  -- the path leads to the same file
  pub file_spot_kept : file_spot u path ≡ file_spot t path
  file_spot_kept = file_spot_alike t u path (same_outlines t u true path same)

module _ (t u : Tree) (path : Path) (same : SameOnWay t u false path) where
  -- the last name of the path is at the same spot
  pub spot_kept : spot u path ≡ spot t path
  spot_kept = spot_alike t u path (same_outlines t u false path same)

-- the way of the path's directory is enough for its spot
pub spot_kept_below : (t u : Tree) (path front : Path) → parent_of path ≡ Some front → SameOnWay t u true front → spot u path ≡ spot t path
spot_kept_below t u path front parent same = spot_alike_below t u path front parent (same_outlines t u true front same)

-- what is the same on a way is so on the way with the last link not followed
pub same_unfollowed : (t u : Tree) (path : Path) → SameOnWay t u true path → SameOnWay t u false path
same_unfollowed t u path same = λ q on. same q (unfollowed_on_way t path q on)

-- and so on that of the directory
pub same_directory : (t u : Tree) (front : Path) (name : Name) → SameOnWay t u false (front ++ name ∷ []) → SameOnWay t u true front
same_directory t u front name same = λ q on. same q (directory_on_way t front name q on)

-- ---- changes that leave a way as it was

-- a change that touches nothing on the way
pub same_untouched : (t : Tree) (change : Change) (follow : Bool) (path : Path) → ((q : Path) → on_way t follow path q ≡ true → touches t change q ≡ false) → SameOnWay t (changed t change) follow path
same_untouched t change follow path apart = λ q on. untouched t change q (apart q on)

-- each kind of change leaves a way as it was, if its own paths are off the way
module _ (t : Tree) (follow : Bool) (path : Path) where
  not_at : (s : Path) → on_way t follow path s ≡ false → (q : Path) → on_way t follow path q ≡ true → eq_by_cmp path_cmp q s ≡ false
  not_at s off q on = other_path q s (λ same. false≢true (sym off ∙ ap (on_way t follow path) (sym same) ∙ on))

  not_below : (s : Path) → on_way t follow path s ≡ false → (q : Path) → on_way t follow path q ≡ true → begins q s ≡ false
  not_below s off q on = false_from_ne_true _ (λ front. false≢true (sym off ∙ front_on_way t follow path q s front on))

  pub same_put_file : (s : Path) (time : ℕ) (bytes : List ℕ) → on_way t follow path s ≡ false → SameOnWay t (changed t (PutFile s time bytes)) follow path
  same_put_file s time bytes off = same_untouched t (PutFile s time bytes) follow path (not_at s off)

  pub same_make_dir : (s : Path) (dev : ℕ) → on_way t follow path s ≡ false → SameOnWay t (changed t (MakeDir s dev)) follow path
  same_make_dir s dev off = same_untouched t (MakeDir s dev) follow path (not_at s off)

  pub same_remove : (s : Path) → on_way t follow path s ≡ false → SameOnWay t (changed t (Remove s)) follow path
  same_remove s off = same_untouched t (Remove s) follow path (not_at s off)

  pub same_rename : (from to : Path) → on_way t follow path from ≡ false → on_way t follow path to ≡ false → SameOnWay t (changed t (Rename from to)) follow path
  same_rename from to from_off to_off = same_untouched t (Rename from to) follow path (λ q on. or_from _ _ (not_below from from_off q on) (not_below to to_off q on))

  pub same_append : (other s : Path) (more : List ℕ) → file_spot t other ≡ Ok s → on_way t follow path s ≡ false → SameOnWay t (changed t (Append other more)) follow path
  same_append other s more is off = same_untouched t (Append other more) follow path (λ q on. ap (λ told. at_place told q) (file_at t other s is).leads ∙ not_at s off q on)

-- ---- what is on the way of a path that leads somewhere

module _ (t : Tree) (is_tree : IsTree t) (follow : Bool) (path : Path) (place : Place) (leads : followed t follow path ≡ Ok place) where
  -- a directory, a link, the place itself, or what is in no directory
  pub trod_on_way : (q : Path) → on_way t follow path q ≡ true → Trod t place.path q
  unfolding on_way
  trod_on_way q on = followed_trod t is_tree follow place most_links path leads q on

  -- so what is in a directory, and is neither a directory nor the place, is on the way only as a link
  pub link_on_way : (q : Path) → lies_in_directory t q ≡ true → is_directory (node_at t q) ≡ false → q ≢ place.path → on_way t follow path q ≡ true → is_link (node_at t q) ≡ true
  link_on_way q lies other apart on = elim (trod_on_way q on) [
    | Passed is ↦ absurd (false≢true (sym other ∙ is))
    | Crossed is ↦ is
    | Last same ↦ absurd (apart same)
    | Behind nowhere ↦ absurd (false≢true (sym nowhere ∙ lies))
  ]

  -- and what is no link isn't on the way
  pub off_way : (q : Path) → lies_in_directory t q ≡ true → is_directory (node_at t q) ≡ false → is_link (node_at t q) ≡ false → q ≢ place.path → on_way t follow path q ≡ false
  off_way q lies other plain apart = false_from_ne_true _ (λ on. false≢true (sym plain ∙ link_on_way q lies other apart on))

  -- a spot where nothing is is off the way
  pub vacant_off_way : (other s : Path) → vacant t other ≡ Ok s → on_way t follow path s ≡ false
  vacant_off_way other s is =
      let v = vacant_at t other s is in
      let directory = ap is_directory v.absent in
      off_way s (spot_lies t is_tree other s v.is directory) directory (ap is_link v.absent)
      (λ same. let both : None ≡ Some place.node = sym v.absent ∙ ap (node_at t) same ∙ place_stands t most_links follow path place leads in cc)

-- what is on the way of a path that leads to a file
module _ (t : Tree) (is_tree : IsTree t) (path r : Path) (is : file_spot t path ≡ Ok r) where
  abbrev its_place : Place
  its_place = record { path = r; node = (file_at t path r is).node }

  pub vacant_off_file : (other s : Path) → vacant t other ≡ Ok s → on_way t true path s ≡ false
  vacant_off_file other s free = vacant_off_way t is_tree true path its_place (file_at t path r is).leads other s free

-- a link on a way is followed there
pub link_leads_on : (t : Tree) → IsTree t → (q : Path) (n : Node) (target : Path) → node_at t q ≡ Some n → n.content ≡ Link target → (names : Path)
    → pass t true [] (q ++ names) ≡ Onward (target ++ names)
link_leads_on t is_tree q n target at is [] = ap (pass t true []) (append-nil q) ∙ pass_to_link t is_tree q n at true target refl is ∙ ap Onward (sym (append-nil target))
link_leads_on t is_tree q n target at is (name ∷ names) = pass_from t is_tree true [] q (name ∷ names) n at ∙ pass_led t true q (name ∷ names) n target (omega arith) at is

-- ---- a file or a link at the spot of a path

-- a file at the spot of a path is what the path leads to
module _ (t : Tree) (path s : Path) (is : spot t path ≡ Ok s) (below : s ≢ []) (n : Node) (at : node_at t s ≡ Some n) (file : is_file_content n.content ≡ true) where
  pub file_leads : followed t true path ≡ Ok (record { path = s; node = n })
  file_leads = leads_to_spot t path s is below n at (λ target link. false≢true (sym (ap is_file_content link) ∙ file)) true

  pub file_read : read_of t path ≡ file_of n.content
  unfolding read_of
  file_read = ap file_of_place file_leads

  pub file_here : file_spot t path ≡ Ok s
  unfolding file_spot
  file_here = ap (λ told. and_then file_path (from_followed told)) file_leads ∙ ap (λ b. cond b (Ok s) (Err WrongKind)) file

-- what is in a directory isn't the root
pub below_root : (t : Tree) (s : Path) → lies_in_directory t s ≡ true → s ≢ []
below_root t s lies root = false≢true (sym (root_lies_nowhere t s root) ∙ lies)

leaf_spot_below_root : (t : Tree) → IsTree t → (s : Path) → is_directory (node_at t s) ≡ false → s ≢ []
leaf_spot_below_root t is_tree s other root = false≢true (sym other ∙ ap (λ p. is_directory (node_at t p)) root ∙ is_tree.root)

module _ (t : Tree) (is_tree : IsTree t) (path s : Path) where
  -- a path whose spot is the file that it leads to can be moved
  pub file_movable : spot t path ≡ Ok s → file_spot t path ≡ Ok s → movable t path ≡ Ok s
  unfolding movable
  file_movable is file =
      let f = file_at t path s file in
      let leaf : is_directory_content f.node.content ≡ false = sym (ap is_directory f.at) ∙ file_no_directory t s f.node f.at f.file in
      ap (and_then (λ place. movable_spot place (node_at t place))) is ∙ ap (movable_spot s) f.at ∙ ap (λ b. cond b (Err WrongKind) (Ok s)) leaf

  -- what can be moved can be removed
  pub movable_removable : movable t path ≡ Ok s → removable t path ≡ Ok s
  unfolding removable
  movable_removable is =
      let m = movable_at t path s is in
      let leaf : is_directory (node_at t s) ≡ false = ap is_directory m.at ∙ m.leaf in
      let nil = nil_names t s (λ name n at. nothing_below t is_tree s leaf name [] n at) in
      ap (and_then (λ place. removable_spot t place (node_at t place))) m.is
      ∙ ap (removable_spot t s) m.at
      ∙ ap (λ b. cond b (cond (is_nil s) (Err WrongKind) (Ok s)) (Err NotEmpty)) nil
      ∙ ap (λ b. cond b (Err WrongKind) (Ok s)) (other_nil s (leaf_spot_below_root t is_tree s leaf))

  -- the file that a path leads to is at its own path
  pub file_spot_own : file_spot t path ≡ Ok s → file_spot t s ≡ Ok s
  unfolding file_spot
  file_spot_own is =
      let f = file_at t path s is in
      ap (λ told. and_then file_path (from_followed told)) (leads_to_itself t is_tree s f.node f.at f.file) ∙ ap (λ b. cond b (Ok s) (Err WrongKind)) f.file
