-- A file on a way, and at the spot of a path.
use Rattle.std.proofs.Common.{◌≡◌, ◌≢◌, ◌⊎◌, inl, inr, ℕ, Bool, true, false, List, [], ◌∷◌, ◌++◌, length, drop, Some, None, Ok, refl, sym, ap, ◌∙◌, subst}
use Rattle.std.proofs.lemmas.Bool.{false≢true, false_from_ne_true, or_from}
use Rattle.odb_base.specs.Path.{Name, Path}
use Rattle.odb_base.specs.PathLaws.{parent_of-push}
use Rattle.odb_disk.specs.Tree.{Tree, IsTree, node_at, is_directory, is_directory_content}
use Rattle.odb_disk.specs.Tree.Follow.{followed, most_links}
use Rattle.odb_disk.specs.Tree.Change.{changed, is_file_content, lies_in_directory}
use Rattle.odb_disk.specs.Tree.Write.{WrongKind, from_followed, in_directory, spot, spot_below, vacant, replaceable, file_spot, change_of_make_dir}
use Rattle.odb_disk.specs.Tree.Write.{change_of_new_file, change_of_append, change_of_rename, change_of_remove}
use Rattle.odb_disk.specs.Tree.Way.{on_way, is_link, SameOnWay}
use Rattle.odb_disk.specs.declared.node.Node.{Node}
use Rattle.odb_disk.specs.declared.change.Change.{Change}
use Rattle.odb_disk.specs.declared.change.Change.TheVariants.{PutFile, MakeDir, PutLink, Rename, Append, Remove, SetTime}
use Rattle.odb_disk.proofs.TreeLemmas.Changed.{made-rename}
use Rattle.odb_disk.proofs.TreeLemmas.Moved.{begins, behind-append, moved_below, moved_target}
use Rattle.odb_disk.proofs.TreeLemmas.MovedTree.{file_lies, file_no_directory, goes_on, none_below}
use Rattle.odb_disk.proofs.TreeLemmas.Write.{file_at, found_by, if_ok, replaceable_at, spot_lies, vacant_at}
use Rattle.odb_disk.proofs.WriteLaws.{untouched}
use Rattle.odb_disk.proofs.WayLemmas.Alike.{outline}
use Rattle.odb_disk.proofs.WayLemmas.Spots.{file_no_link}
use Rattle.odb_disk.proofs.WayLemmas.Stops.{still_reached, stop_trod}
use Rattle.odb_disk.proofs.WayLaws.{Trod, Passed, Crossed, Last, Behind, file_spot_kept, file_spot_own, front_on_way, on_way_kept, place_on_way, same_append}
use Rattle.odb_disk.proofs.WayLaws.{same_directory, same_make_dir, same_put_file, same_remove, same_rename, same_unfollowed, spot_kept}
use Rattle.odb_disk.proofs.WayWriteLaws.{append_change, append_file_spot, append_spot, file_renamed, file_removed, make_dir_change, new_file_change, new_file_file_spot, new_file_spot}

-- ---- a file on a way

-- a file is on the way of a path
pub record Stops (t : Tree) (follow : Bool) (path stop : Path) : Type 0 where
  pub on : on_way t follow path stop ≡ true
  pub node : Node
  pub at : node_at t stop ≡ Some node
  pub file : is_file_content node.content ≡ true

-- the change of a writer whose own file is at s: he makes an empty file or a directory where nothing is, or appends to his
-- file, moves it, but not over a directory, or removes it
abbrev pub IsOwnChange : Tree → Path → Change → Type 0
IsOwnChange t s (PutFile q time bytes) = (time ≡ 0) × (bytes ≡ []) × ((other : Path) × (vacant t other ≡ Ok q))
IsOwnChange t s (MakeDir q dev) = (other : Path) × (vacant t other ≡ Ok q)
IsOwnChange t s (Append q bytes) = (q ≡ s) × ((other : Path) × (file_spot t other ≡ Ok s))
IsOwnChange t s (Rename q p) = (q ≡ s) × ((other : Path) × (file_spot t other ≡ Ok s)) × ((to : Path) × (replaceable t to ≡ Ok p))
IsOwnChange t s (Remove q) = (q ≡ s) × ((other : Path) × (file_spot t other ≡ Ok s))
IsOwnChange t s (PutLink q target) = ⊥
IsOwnChange t s (SetTime q time) = ⊥

-- a rename onto what is on the way of a path: a link, or the file there
pub record Replaces (t : Tree) (follow : Bool) (path stop s : Path) (change : Change) : Type 0 where
  pub to : Path
  pub is : change ≡ Rename s to
  pub on : on_way t follow path to ≡ true
  pub over : (is_link (node_at t to) ≡ true) ⊎ (to ≡ stop)

module _ (t : Tree) (is_tree : IsTree t) (follow : Bool) (path stop : Path) (stops : Stops t follow path stop) where
  trod : (q : Path) → on_way t follow path q ≡ true → Trod t stop q
  unfolding on_way
  trod q on = stop_trod t is_tree stop stops.node stops.at stops.file follow most_links path stops.on q on

  -- what is in a directory, and is neither a directory nor that file, is on the way only as a link
  link_or_stop : (q : Path) → lies_in_directory t q ≡ true → is_directory (node_at t q) ≡ false → on_way t follow path q ≡ true → (is_link (node_at t q) ≡ true) ⊎ (q ≡ stop)
  link_or_stop q lies other on = elim (trod q on) [
    | Passed is ↦ absurd (false≢true (sym other ∙ is))
    | Crossed is ↦ inl is
    | Last same ↦ inr same
    | Behind nowhere ↦ absurd (false≢true (sym nowhere ∙ lies))
  ]

  pub off : (q : Path) → lies_in_directory t q ≡ true → is_directory (node_at t q) ≡ false → is_link (node_at t q) ≡ false → q ≢ stop → on_way t follow path q ≡ false
  off q lies other plain apart = false_from_ne_true _ (λ on. elim (link_or_stop q lies other on) [ inl link ↦ false≢true (sym plain ∙ link) | inr same ↦ apart same ])

  vacant_off : (other q : Path) → vacant t other ≡ Ok q → on_way t follow path q ≡ false
  vacant_off other q free =
      let v = vacant_at t other q free in
      off q (spot_lies t is_tree other q v.is (ap is_directory v.absent)) (ap is_directory v.absent) (ap is_link v.absent)
      (λ same. let both : None ≡ Some stops.node = sym v.absent ∙ ap (node_at t) same ∙ stops.at in cc)

  file_off : (other s : Path) → file_spot t other ≡ Ok s → s ≢ stop → on_way t follow path s ≡ false
  file_off other s is apart =
      let f = file_at t other s is in
      off s (file_lies t is_tree s f.node f.at f.file) (file_no_directory t s f.node f.at f.file) (ap is_link f.at ∙ file_no_link f.node.content f.file) apart

  -- a writer's change leaves the way alone, except for a rename onto a link on it, or onto the file on it
  pub same_or_replaces : (s : Path) (change : Change) → IsOwnChange t s change → s ≢ stop → SameOnWay t (changed t change) follow path ⊎ Replaces t follow path stop s change
  same_or_replaces s (PutFile q time bytes) own apart = inl (same_put_file t follow path q time bytes (vacant_off own.2.0 q own.2.1))
  same_or_replaces s (MakeDir q dev) own apart = inl (same_make_dir t follow path q dev (vacant_off own.0 q own.1))
  same_or_replaces s (Append q bytes) own apart =
      let here : file_spot t q ≡ Ok s = ap (file_spot t) own.0 ∙ file_spot_own t is_tree own.1.0 s own.1.1 in
      inl (same_append t follow path q s bytes here (file_off own.1.0 s own.1.1 apart))
  same_or_replaces s (Remove q) own apart = inl (same_remove t follow path q (ap (on_way t follow path) own.0 ∙ file_off own.1.0 s own.1.1 apart))
  same_or_replaces s (PutLink q target) own apart = absurd own
  same_or_replaces s (SetTime q time) own apart = absurd own
  same_or_replaces s (Rename q p) own apart = by_target (on_way t follow path p) refl
    where
      q_off : on_way t follow path q ≡ false
      q_off = ap (on_way t follow path) own.0 ∙ file_off own.1.0 s own.1.1 apart

      by_target : (b : Bool) → on_way t follow path p ≡ b → SameOnWay t (changed t (Rename q p)) follow path ⊎ Replaces t follow path stop s (Rename q p)
      by_target false p_off = inl (same_rename t follow path q p q_off p_off)
      by_target true on =
          let r = replaceable_at t own.2.0 p own.2.1 in
          inr (record { to = p; is = ap (λ x. Rename x p) own.0; on = on; over = link_or_stop p (spot_lies t is_tree own.2.0 p r.is r.free) r.free on })

  -- after a rename onto what is on the way, its file is there now
  module _ (s p : Path) (own : IsOwnChange t s (Rename s p)) (apart : s ≢ stop) (on : on_way t follow path p ≡ true) where
    s_off : on_way t follow path s ≡ false
    s_off = file_off own.1.0 s own.1.1 apart

    below_none : (q : Path) → begins q p ≡ true → q ≢ p → node_at (changed t (Rename s p)) q ≡ node_at t q
    below_none q below other =
        let g = goes_on q p below other in
        let r = replaceable_at t own.2.0 p own.2.1 in
        let f = file_at t own.1.0 s own.1.1 in
        ap (λ u. node_at u q) (made-rename t s p) ∙ ap (node_at _) g.2 ∙ moved_below t s p (g.0 ∷ g.1)
        ∙ none_below t is_tree s (file_no_directory t s f.node f.at f.file) g.0 g.1
        ∙ sym (ap (node_at t) g.2 ∙ none_below t is_tree p r.free g.0 g.1)

    pub others_same : (q : Path) → on_way t follow path q ≡ true → q ≢ p → node_at (changed t (Rename s p)) q ≡ node_at t q
    others_same q q_on other = by_below (begins q p) refl
      where
        by_below : (b : Bool) → begins q p ≡ b → node_at (changed t (Rename s p)) q ≡ node_at t q
        by_below true below = below_none q below other
        by_below false outside = untouched t (Rename s p) q (or_from _ _ (false_from_ne_true _ (λ front. false≢true (sym s_off ∙ front_on_way t follow path q s front q_on))) outside)

    still_on : on_way (changed t (Rename s p)) follow path p ≡ true
    unfolding on_way
    still_on = still_reached t (changed t (Rename s p)) follow p most_links path (λ q front other. ap outline (others_same q front other)) on

    pub stops_after : Stops (changed t (Rename s p)) follow path p
    stops_after =
        let f = file_at t own.1.0 s own.1.1 in
        record { on = still_on; node = f.node; at = ap (λ u. node_at u p) (made-rename t s p) ∙ moved_target t s p ∙ f.at; file = f.file }

-- a file is still there if the way was left alone
pub stops_kept : (t u : Tree) (follow : Bool) (path stop : Path) → SameOnWay t u follow path → Stops t follow path stop → Stops u follow path stop
stops_kept t u follow path stop same stops =
    record { on = on_way_kept t u follow path same stop ∙ stops.on; node = stops.node; at = same stop stops.on ∙ stops.at; file = stops.file }

-- if the way of a name in a directory is left alone, so is that of the directory
pub same_front : (t u : Tree) (front : Path) (name : Name) → SameOnWay t u true (front ++ name ∷ []) → SameOnWay t u true front
same_front t u front name same = same_directory t u front name (same_unfollowed t u (front ++ name ∷ []) same)

-- the spot of a name in a directory has that name
pub spot_named : (t : Tree) (front : Path) (name : Name) (s : Path) → spot t (front ++ name ∷ []) ≡ Ok s → (directory : Path) × (s ≡ directory ++ name ∷ [])
unfolding spot
spot_named t front name s is =
    let path = front ++ name ∷ [] in
    let found = found_by (in_directory (drop (length front) path)) (from_followed (followed t true front)) s (sym (ap (spot_below t path) (parent_of-push front name)) ∙ is) in
    let placed = if_ok (is_directory_content found.first.node.content) (found.first.path ++ drop (length front) path) s WrongKind found.then in
    (found.first.path, sym placed.1 ∙ ap (λ r. found.first.path ++ r) (behind-append front (name ∷ [])))

-- ---- a file at the spot of a path

-- the spot of a path is the file to which it leads
pub record OwnSpot (t : Tree) (path s : Path) : Type 0 where
  pub is : spot t path ≡ Ok s
  pub leads : file_spot t path ≡ Ok s

pub own_stops : (t : Tree) (path s : Path) → OwnSpot t path s → Stops t true path s
own_stops t path s own =
    let f = file_at t path s own.leads in
    record { on = place_on_way t true path (record { path = s; node = f.node }) f.leads; node = f.node; at = f.at; file = f.file }

pub own_kept : (t u : Tree) (path s : Path) → SameOnWay t u true path → OwnSpot t path s → OwnSpot u path s
own_kept t u path s same own = record { is = spot_kept t u path (same_unfollowed t u path same) ∙ own.is; leads = file_spot_kept t u path same ∙ own.leads }

-- the root is no file
pub stop_below_root : (t : Tree) → IsTree t → (follow : Bool) (path stop : Path) → Stops t follow path stop → [] ≢ stop
stop_below_root t is_tree follow path stop stops root =
    false≢true (sym (file_no_directory t stop stops.node stops.at stops.file) ∙ ap (λ p. is_directory (node_at t p)) (sym root) ∙ is_tree.root)

-- its owner makes it, appends to it, and makes a directory
module _ (t : Tree) (is_tree : IsTree t) (path : Path) (change : Change) where
  pub own_new : change_of_new_file t path ≡ Ok change → (s : Path) × (change ≡ PutFile s 0 []) × (vacant t path ≡ Ok s) × OwnSpot (changed t change) path s
  own_new is =
      let c = new_file_change t path change is in
      (c.0, c.2, c.1, subst (λ d. OwnSpot (changed t d) path c.0) (sym c.2) (record { is = new_file_spot t is_tree path c.0 c.1; leads = new_file_file_spot t is_tree path c.0 c.1 }))

  module _ (s : Path) (own : OwnSpot t path s) where
    pub own_appended : (more : List ℕ) → change_of_append t path more ≡ Ok change → OwnSpot (changed t change) path s
    own_appended more is =
        let c = append_change t path change more is in
        subst (λ d. OwnSpot (changed t d) path s) (sym c.2) (record { is = append_spot t c.0 more path ∙ own.is; leads = append_file_spot t c.0 more path ∙ own.leads })

    pub own_foldered : (other : Path) → change_of_make_dir t other ≡ Ok change → SameOnWay t (changed t change) true path
    own_foldered other is =
        let c = make_dir_change t other change is in
        subst (λ d. SameOnWay t (changed t d) true path) (sym c.2) (same_make_dir t true path c.0 _ (vacant_off t is_tree true path s (own_stops t path s own) other c.0 c.1))

    -- what he changes is his own
    pub own_append : (more : List ℕ) → change_of_append t path more ≡ Ok change → IsOwnChange t s change
    own_append more is =
        let c = append_change t path change more is in
        let both : Ok c.0 ≡ Ok s = sym c.1 ∙ own.leads in
        let same : c.0 ≡ s = cc in
        subst (IsOwnChange t s) (sym c.2) (same, (path, own.leads))

    pub own_rename : (to : Path) → change_of_rename t path to ≡ Ok change → (p : Path) × (change ≡ Rename s p) × (replaceable t to ≡ Ok p) × IsOwnChange t s change
    own_rename to is =
        let c = file_renamed t is_tree path s own.is own.leads to change is in
        (c.0, c.2, c.1, subst (IsOwnChange t s) (sym c.2) (refl, (path, own.leads), (to, c.1)))

    pub own_remove : change_of_remove t path ≡ Ok change → IsOwnChange t s change
    own_remove is =
        let both : Ok change ≡ Ok (Remove s) = sym is ∙ file_removed t is_tree path s own.is own.leads in
        let same : change ≡ Remove s = cc in
        subst (IsOwnChange t s) (sym same) (refl, (path, own.leads))

  -- and so is what he makes where nothing is, wherever his own file is
  pub own_new_change : (s : Path) → change_of_new_file t path ≡ Ok change → IsOwnChange t s change
  own_new_change s is = let c = new_file_change t path change is in subst (IsOwnChange t s) (sym c.2) (refl, refl, (path, c.1))

  pub own_dir_change : (s : Path) → change_of_make_dir t path ≡ Ok change → IsOwnChange t s change
  own_dir_change s is = let c = make_dir_change t path change is in subst (IsOwnChange t s) (sym c.2) (path, c.1)

-- a file isn't where nothing is
pub own_not_vacant : (t : Tree) (path s other q : Path) → OwnSpot t path s → vacant t other ≡ Ok q → s ≢ q
own_not_vacant t path s other q own free same =
    let f = file_at t path s own.leads in
    let both : None ≡ Some f.node = sym (vacant_at t other q free).absent ∙ ap (node_at t) (sym same) ∙ f.at in cc
