-- Laws of what is written at the spot of a path, for callers: it is read back through the links that the path crosses.
use Rattle.std.proofs.Common.{◌≡◌, inl, inr, ℕ, Bool, true, false, List, [], ◌++◌, Some, None, Result, Ok, Err, refl, sym, ap, ◌∙◌}
use Rattle.std.proofs.lemmas.Bool.{false≢true, false_from_ne_true, and_from, and_left}
use Rattle.odb_base.specs.Path.{Path, parent_of}
use Rattle.odb_disk.specs.Tree.{Tree, IsTree, node_at, is_directory}
use Rattle.odb_disk.specs.Tree.Follow as following
use Rattle.odb_disk.specs.Tree.Follow.{Place, followed, meta_of_place, looked, read_of, most_links}
use Rattle.odb_disk.specs.Tree.Change.{changed, lies_in_directory, parent_node, device_of, is_file_content, least_free, new_node, put_node, with_longer, longer}
use Rattle.odb_disk.specs.Tree.Write.{and_then, spot, vacant, movable, replaceable, removable, file_spot, change_of_make_dir, change_of_new_file, change_of_append, change_of_rename, change_of_remove}
use Rattle.odb_disk.specs.Tree.Way.{on_way, on_way_to, is_link, crosses, SameOnWay}
use Rattle.odb_disk.specs.declared.node.Node.{Node}
use Rattle.odb_disk.specs.declared.node.Content.{Content}
use Rattle.odb_disk.specs.declared.node.Content.TheVariants.{File, Dir, Link}
use Rattle.odb_disk.specs.declared.meta.Kind.TheVariants as kinds
use Rattle.odb_disk.specs.declared.change.Change.{Change}
use Rattle.odb_disk.specs.declared.change.Change.TheVariants.{PutFile, MakeDir, Rename, Append, Remove}
use Rattle.odb_disk.proofs.TreeLemmas.{cases_path, node_at-put, node_at-put_other}
use Rattle.odb_disk.proofs.TreeLemmas.Follow.{place_stands, StandsAt}
use Rattle.odb_disk.proofs.TreeLemmas.Change.{made-put_file, made-make_dir}
use Rattle.odb_disk.proofs.TreeLemmas.Changed.{IsTree-changed, made-rename, made-append}
use Rattle.odb_disk.proofs.TreeLemmas.Moved.{moved_target}
use Rattle.odb_disk.proofs.TreeLemmas.MovedTree.{file_lies, file_no_directory}
use Rattle.odb_disk.proofs.TreeLemmas.Write.{found_by, spot_lies, vacant_at, replaceable_at, file_at, append_possible}
use Rattle.odb_disk.proofs.WriteCallsLemmas.Changes.{change_of_append-is, change_of_remove-is}
use Rattle.odb_disk.proofs.WriteLaws.{read_at, read_at_spot, append_read}
use Rattle.odb_disk.proofs.WayLemmas.Alike.{outline_content, outline}
use Rattle.odb_disk.proofs.WayLemmas.Spots.{named_in, file_spot_alike, spot_alike, file_no_link}
use Rattle.odb_disk.proofs.WayLaws.{leads_to_spot, spot_kept_below, link_on_way, same_put_file, same_make_dir, same_rename, below_root, file_read, file_here, file_movable, movable_removable}

-- ---- what is written at the spot of a path is seen there, through the links that the path crosses

-- no link is crossed where none is, and one that is on the way of the directory is
pub crosses_link : (t : Tree) (path q : Path) → is_link (node_at t q) ≡ false → crosses t path q ≡ false
unfolding crosses
crosses_link t path q plain = and_left _ _ plain

pub crosses_on_way : (t : Tree) (path front q : Path) → parent_of path ≡ Some front → is_link (node_at t q) ≡ true → on_way t true front q ≡ true → crosses t path q ≡ true
unfolding crosses
crosses_on_way t path front q parent link on = and_from _ _ link (ap (λ o. on_way_to t o q) parent ∙ on)

module _ (t : Tree) (is_tree : IsTree t) (path s : Path) (is : spot t path ≡ Ok s) (lies : lies_in_directory t s ≡ true) where
  abbrev front : Path
  front = (named_in t path s is (below_root t s lies)).spot_in.front

  -- what isn't crossed, and is no directory, is off the way of the path's directory
  off_front : (q : Path) → lies_in_directory t q ≡ true → is_directory (node_at t q) ≡ false → crosses t path q ≡ false → on_way t true front q ≡ false
  off_front q q_lies other free =
      let i = (named_in t path s is (below_root t s lies)).spot_in in
      let there : is_directory (node_at t i.place.path) ≡ true = ap is_directory (place_stands t most_links true i.front i.place i.leads) ∙ i.directory in
      false_from_ne_true _ (λ on.
      let link = link_on_way t is_tree true i.front i.place i.leads q q_lies other (λ same. false≢true (sym other ∙ ap (λ p. is_directory (node_at t p)) same ∙ there)) on in
      false≢true (sym free ∙ crosses_on_way t path i.front q i.parent link on))

  spot_after : (u : Tree) → SameOnWay t u true front → spot u path ≡ Ok s
  spot_after u same =
      let i = (named_in t path s is (below_root t s lies)).spot_in in
      spot_kept_below t u path i.front i.parent same ∙ is

-- ---- a new file or a new directory

module _ (t : Tree) (is_tree : IsTree t) (path s : Path) (is : vacant t path ≡ Ok s) where
  vacant_is : spot t path ≡ Ok s
  vacant_is = (vacant_at t path s is).is

  vacant_absent : node_at t s ≡ None
  vacant_absent = (vacant_at t path s is).absent

  vacant_lies : lies_in_directory t s ≡ true
  vacant_lies = spot_lies t is_tree path s vacant_is (ap is_directory vacant_absent)

  vacant_off : on_way t true (front t is_tree path s vacant_is vacant_lies) s ≡ false
  vacant_off = off_front t is_tree path s vacant_is vacant_lies s vacant_lies (ap is_directory vacant_absent) (crosses_link t path s (ap is_link vacant_absent))

  -- the spot of the path is where it was
  pub new_file_spot : spot (changed t (PutFile s 0 [])) path ≡ Ok s
  new_file_spot = spot_after t is_tree path s vacant_is vacant_lies (changed t (PutFile s 0 [])) (same_put_file t true _ s 0 [] vacant_off)

  new_file_at : node_at (changed t (PutFile s 0 [])) s ≡ Some (new_node t s (File [] 0))
  new_file_at =
      ap (λ u. node_at u s) (made-put_file t s 0 []) ∙ node_at-put t s (put_node t s (File [] 0) (node_at t s)) ∙ ap (λ o. Some (put_node t s (File [] 0) o)) vacant_absent

  -- the path leads to the new file
  pub new_file_file_spot : file_spot (changed t (PutFile s 0 [])) path ≡ Ok s
  new_file_file_spot = file_here (changed t (PutFile s 0 [])) path s new_file_spot (below_root t s vacant_lies) (new_node t s (File [] 0)) new_file_at refl

  -- it has no bytes, and time 0
  pub new_file_read_through : read_of (changed t (PutFile s 0 [])) path ≡ Ok ([], 0)
  new_file_read_through = file_read (changed t (PutFile s 0 [])) path s new_file_spot (below_root t s vacant_lies) (new_node t s (File [] 0)) new_file_at refl

  -- a new directory leaves the spot where it was
  pub made_dir_spot : (dev : ℕ) → spot (changed t (MakeDir s dev)) path ≡ Ok s
  made_dir_spot dev = spot_after t is_tree path s vacant_is vacant_lies (changed t (MakeDir s dev)) (same_make_dir t true _ s dev vacant_off)

  -- and the path leads to it
  pub made_dir_looked_through : (dev : ℕ) (follow : Bool) → looked (changed t (MakeDir s dev)) path follow ≡ Ok (record { kind = kinds.Dir; dev = dev; ino = least_free t; len = 0; time = 0 })
  unfolding looked
  made_dir_looked_through dev follow =
      let n : Node = record { dev = dev; ino = least_free t; content = Dir } in
      let at = ap (λ u. node_at u s) (made-make_dir t s dev) ∙ node_at-put t s n in
      ap meta_of_place (leads_to_spot (changed t (MakeDir s dev)) path s (made_dir_spot dev) (below_root t s vacant_lies) n at (λ target link. let both : Dir ≡ Link target = link in cc) follow)

-- ---- a file that is moved to a path, if no link that the path crosses is replaced

module _ (t : Tree) (is_tree : IsTree t) (from to s p : Path) (renames : change_of_rename t from to ≡ Ok (Rename s p)) (file : file_spot t from ≡ Ok s) (free : crosses t to p ≡ false) where
  replaces : replaceable t to ≡ Ok p
  unfolding change_of_rename
  replaces =
      let f = found_by (λ source. and_then (λ place. Ok (Rename source place)) (replaceable t to)) (movable t from) (Rename s p) renames in
      let g = found_by (λ place. Ok (Rename f.first place)) (replaceable t to) (Rename s p) f.then in
      let same : g.first ≡ p = cc in
      g.is ∙ ap Ok same

  place_is : spot t to ≡ Ok p
  place_is = (replaceable_at t to p replaces).is

  place_free : is_directory (node_at t p) ≡ false
  place_free = (replaceable_at t to p replaces).free

  place_lies : lies_in_directory t p ≡ true
  place_lies = spot_lies t is_tree to p place_is place_free

  source_off : on_way t true (front t is_tree to p place_is place_lies) s ≡ false
  source_off =
      let f = file_at t from s file in
      off_front t is_tree to p place_is place_lies s (file_lies t is_tree s f.node f.at f.file) (file_no_directory t s f.node f.at f.file)
      (crosses_link t to s (ap is_link f.at ∙ file_no_link f.node.content f.file))

  place_off : on_way t true (front t is_tree to p place_is place_lies) p ≡ false
  place_off = off_front t is_tree to p place_is place_lies p place_lies place_free free

  -- the path's spot is where it was
  pub rename_spot : spot (changed t (Rename s p)) to ≡ Ok p
  rename_spot = spot_after t is_tree to p place_is place_lies (changed t (Rename s p)) (same_rename t true _ s p source_off place_off)

  renamed_at : node_at (changed t (Rename s p)) p ≡ Some (file_at t from s file).node
  renamed_at = ap (λ u. node_at u p) (made-rename t s p) ∙ moved_target t s p ∙ (file_at t from s file).at

  -- the path leads to the file
  pub rename_file_spot : file_spot (changed t (Rename s p)) to ≡ Ok p
  rename_file_spot = let f = file_at t from s file in file_here (changed t (Rename s p)) to p rename_spot (below_root t p place_lies) f.node renamed_at f.file

  -- and reads as the file did
  pub rename_read_through : read_of (changed t (Rename s p)) to ≡ read_of t s
  rename_read_through =
      let f = file_at t from s file in
      file_read (changed t (Rename s p)) to p rename_spot (below_root t p place_lies) f.node renamed_at f.file
      ∙ sym (read_at t is_tree s f.node f.at (λ target link. false≢true (sym (ap is_file_content link) ∙ f.file)))

-- ---- an append changes no way, no spot, and no file that a path leads to

module _ (t : Tree) (other : Path) (more : List ℕ) where
  longer_outline : (content : Content) → outline_content (longer content more) ≡ outline_content content
  longer_outline (File bytes time) = refl
  longer_outline Dir = refl
  longer_outline (Link target) = refl

  longer_alike : (told : Result Place following.Refusal) → StandsAt t told → (q : Path) → outline (node_at (with_longer t more told) q) ≡ outline (node_at t q)
  longer_alike (Ok place) stands q = elim (cases_path q place.path) [
    | inl same ↦
        let n : Node = record place.node { content = longer place.node.content more } in
        let put : node_at (with_longer t more (Ok place)) place.path ≡ Some n = node_at-put t place.path n in
        ap (λ p. outline (node_at (with_longer t more (Ok place)) p)) same ∙ ap outline put
        ∙ ap (λ c. Some (record { dev = 0; ino = 0; content = c })) (longer_outline place.node.content)
        ∙ sym (ap (λ p. outline (node_at t p)) same ∙ ap outline (stands place refl))
    | inr apart ↦ ap outline (node_at-put_other t place.path _ q apart)
  ]
  longer_alike (Err refusal) stands q = refl

  append_alike : (q : Path) → outline (node_at (changed t (Append other more)) q) ≡ outline (node_at t q)
  append_alike q = ap (λ u. outline (node_at u q)) (made-append t other more) ∙ longer_alike (followed t true other) (place_stands t most_links true other) q

  module _ (path : Path) where
    -- each path leads to the file that it led to
    pub append_file_spot : file_spot (changed t (Append other more)) path ≡ file_spot t path
    append_file_spot = file_spot_alike t (changed t (Append other more)) path (λ p _. append_alike p)

    -- each spot is where it was
    pub append_spot : spot (changed t (Append other more)) path ≡ spot t path
    append_spot = spot_alike t (changed t (Append other more)) path (λ p _. append_alike p)

-- a path that leads to the file reads the bytes after what it read before
pub append_read_through : (t : Tree) → IsTree t → (path s : Path) → file_spot t path ≡ Ok s → (bytes more : List ℕ) (time : ℕ) → read_of t path ≡ Ok (bytes, time)
    → read_of (changed t (Append s more)) path ≡ Ok (bytes ++ more, time)
append_read_through t is_tree path s is bytes more time old =
    let possible = append_possible t is_tree path (Append s more) more (change_of_append-is t path s more is) in
    read_at_spot (changed t (Append s more)) (IsTree-changed t (Append s more) is_tree possible) path s (append_file_spot t s more path ∙ is)
    ∙ append_read t is_tree path s is bytes more time (sym (read_at_spot t is_tree path s is) ∙ old)

-- ---- which change a call makes, and at which spots

module _ (t : Tree) (path : Path) (change : Change) where
  -- a directory, on the device of its own
  pub make_dir_change : change_of_make_dir t path ≡ Ok change → (s : Path) × (vacant t path ≡ Ok s) × (change ≡ MakeDir s (device_of (parent_node t s)))
  unfolding change_of_make_dir
  make_dir_change is = let f = found_by (λ place. Ok (MakeDir place (device_of (parent_node t place)))) (vacant t path) change is in (f.first, f.is, cc)

  -- an empty file with time 0
  pub new_file_change : change_of_new_file t path ≡ Ok change → (s : Path) × (vacant t path ≡ Ok s) × (change ≡ PutFile s 0 [])
  unfolding change_of_new_file
  new_file_change is = let f = found_by (λ place. Ok (PutFile place 0 [])) (vacant t path) change is in (f.first, f.is, cc)

  -- more bytes in the file that the path leads to
  pub append_change : (more : List ℕ) → change_of_append t path more ≡ Ok change → (s : Path) × (file_spot t path ≡ Ok s) × (change ≡ Append s more)
  unfolding change_of_append
  append_change more is = let f = found_by (λ place. Ok (Append place more)) (file_spot t path) change is in (f.first, f.is, cc)

  -- the removal of a file, a link or an empty directory
  pub remove_change : change_of_remove t path ≡ Ok change → (s : Path) × (removable t path ≡ Ok s) × (change ≡ Remove s)
  unfolding change_of_remove
  remove_change is = let f = found_by (λ place. Ok (Remove place)) (removable t path) change is in (f.first, f.is, cc)

  -- the move of a file or a link over no directory
  pub rename_change : (to : Path) → change_of_rename t path to ≡ Ok change → (s p : Path) × (movable t path ≡ Ok s) × (replaceable t to ≡ Ok p) × (change ≡ Rename s p)
  unfolding change_of_rename
  rename_change to is =
      let f = found_by (λ source. and_then (λ place. Ok (Rename source place)) (replaceable t to)) (movable t path) change is in
      let g = found_by (λ place. Ok (Rename f.first place)) (replaceable t to) change f.then in
      (f.first, g.first, f.is, g.is, cc)

-- a path whose spot is the file that it leads to: a rename moves that file, and a remove removes it
module _ (t : Tree) (is_tree : IsTree t) (path r : Path) (is : spot t path ≡ Ok r) (file : file_spot t path ≡ Ok r) where
  pub file_renamed : (to : Path) (change : Change) → change_of_rename t path to ≡ Ok change → (p : Path) × (replaceable t to ≡ Ok p) × (change ≡ Rename r p)
  file_renamed to change renames =
      let c = rename_change t path change to renames in
      let both : Ok c.0 ≡ Ok r = sym c.2 ∙ file_movable t is_tree path r is file in
      let same : c.0 ≡ r = cc in
      (c.1, c.3, c.4 ∙ ap (λ s. Rename s c.1) same)

  pub file_removed : change_of_remove t path ≡ Ok (Remove r)
  file_removed = change_of_remove-is t path r (movable_removable t is_tree path r (file_movable t is_tree path r is file))
