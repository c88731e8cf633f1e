-- What the change of another writer leaves of one's own file and its way, and of a way that it cuts off.
use Rattle.std.proofs.Common.{◌≡◌, ◌≢◌, ◌⊎◌, inl, inr, ℕ, true, false, List, [], ◌∷◌, ◌++◌, length, drop, Some, Ok, Err, refl, sym, ap, ◌∙◌, subst}
use Rattle.std.proofs.lemmas.Bool.{false≢true}
use Rattle.std.proofs.lemmas.List.{append_cancel_left}
use Rattle.odb_base.specs.Path.{Name, Path}
use Rattle.odb_base.specs.PathLaws.{parent_of-push}
use Rattle.odb_disk.specs.Tree.{Tree, IsTree, node_at, is_directory, is_directory_content}
use Rattle.odb_disk.specs.Tree.Follow as following
use Rattle.odb_disk.specs.Tree.Follow.{followed, read_of, most_links}
use Rattle.odb_disk.specs.Tree.Change.{changed, is_file_content}
use Rattle.odb_disk.specs.Tree.Write.{WrongKind, from_followed, in_directory, and_then, file_path, spot, spot_below, movable, replaceable}
use Rattle.odb_disk.specs.Tree.Write.{file_spot, change_of_make_dir, change_of_append, change_of_rename, change_of_remove}
use Rattle.odb_disk.specs.Tree.Write as writing
use Rattle.odb_disk.specs.Tree.Way.{on_way, is_link, crosses, SameOnWay}
use Rattle.odb_disk.specs.declared.node.Node.{Node}
use Rattle.odb_disk.specs.declared.change.Change.{Change}
use Rattle.odb_disk.specs.declared.change.Change.TheVariants.{Rename}
use Rattle.odb_disk.proofs.TreeLemmas.Follow.{place_stands}
use Rattle.odb_disk.proofs.TreeLemmas.Moved.{begins-own}
use Rattle.odb_disk.proofs.TreeLemmas.MovedTree.{file_lies, file_no_directory}
use Rattle.odb_disk.proofs.TreeLemmas.Write.{Found, file_at, followed_found, found_by, if_ok, movable_at, removable_at, vacant_at}
use Rattle.odb_disk.proofs.WriteCallsLemmas.Spots.{replaced_or_not}
use Rattle.odb_disk.proofs.WriteCallsLemmas.Changes.{change_of_rename-is}
use Rattle.odb_disk.proofs.WayLemmas.Alike.{outline}
use Rattle.odb_disk.proofs.WayLemmas.Spots.{file_no_link, named_in}
use Rattle.odb_disk.proofs.WayLemmas.Stops.{link_on_front, own_way_plain, still_reached, stopped}
use Rattle.odb_disk.proofs.WayLaws.{Passed, Crossed, Last, Behind, directory_on_way, own_on_way, trod_on_way, unfollowed_on_way}
use Rattle.odb_disk.proofs.WayWriteLaws.{append_change, crosses_link, crosses_on_way, make_dir_change, remove_change, rename_change, rename_file_spot, rename_read_through, rename_spot}
use Rattle.odb_disk.proofs.OwnWayLaws.OwnSpots.{Stops, IsOwnChange, same_or_replaces, others_same, stops_after, stops_kept, same_front, OwnSpot, own_stops}

-- ---- a way to a directory that ends at a file

-- The way to a directory ends at a file, which is apart from the files of writers.
pub record Cut (Apart : Path → Type 0) (t : Tree) (front : Path) : Type 0 where
  pub stop : Path
  pub stops : Stops t true front stop
  pub apart : Apart stop

-- then no path in the directory leads anywhere
module _ (Apart : Path → Type 0) (t : Tree) (is_tree : IsTree t) (front : Path) (name : Name) (cut : Cut Apart t front) where
  abbrev within : Path
  within = front ++ name ∷ []

  pub cut_no_file : (s : Path) → file_spot t within ≢ Ok s
  unfolding on_way file_spot
  cut_no_file s is =
      let leads : followed t true within ≡ Err following.WrongKind = stopped t is_tree cut.stop cut.stops.node cut.stops.at cut.stops.file true name most_links front cut.stops.on in
      let both : Err writing.WrongKind ≡ Ok s = sym (ap (λ told. and_then file_path (from_followed told)) leads) ∙ is in cc

  pub cut_no_spot : (s : Path) → spot t within ≢ Ok s
  unfolding spot
  cut_no_spot s is = by_place (found_by (in_directory (drop (length front) within)) (from_followed (followed t true front)) s (sym (ap (spot_below t within) (parent_of-push front name)) ∙ is))
    where
      by_place : Found (in_directory (drop (length front) within)) (from_followed (followed t true front)) s → ⊥
      by_place found =
          let leads = followed_found (followed t true front) found.first found.is in
          let placed = if_ok (is_directory_content found.first.node.content) (found.first.path ++ drop (length front) within) s WrongKind found.then in
          let directory : is_directory (node_at t found.first.path) ≡ true = ap is_directory (place_stands t most_links true front found.first leads) ∙ placed.0 in
          let plain = file_no_directory t cut.stop cut.stops.node cut.stops.at cut.stops.file in
          elim (trod_on_way t is_tree true front found.first leads cut.stop cut.stops.on) [
            | Passed there ↦ false≢true (sym plain ∙ there)
            | Crossed link ↦ false≢true (sym (ap is_link cut.stops.at ∙ file_no_link cut.stops.node.content cut.stops.file) ∙ link)
            | Last same ↦ false≢true (sym plain ∙ ap (λ p. is_directory (node_at t p)) same ∙ directory)
            | Behind nowhere ↦ false≢true (sym nowhere ∙ file_lies t is_tree cut.stop cut.stops.node cut.stops.at cut.stops.file)
          ]

  -- and no call that names one changes anything
  module _ (change : Change) where
    pub cut_no_dir : change_of_make_dir t within ≢ Ok change
    cut_no_dir is = let c = make_dir_change t within change is in cut_no_spot c.0 (vacant_at t within c.0 c.1).is

    pub cut_no_append : (more : List ℕ) → change_of_append t within more ≢ Ok change
    cut_no_append more is = let c = append_change t within change more is in cut_no_file c.0 c.1

    pub cut_no_rename : (to : Path) → change_of_rename t within to ≢ Ok change
    cut_no_rename to is = let c = rename_change t within change to is in cut_no_spot c.0 (movable_at t within c.0 c.2).is

    pub cut_no_remove : change_of_remove t within ≢ Ok change
    cut_no_remove is = let c = remove_change t within change is in cut_no_spot c.0 (removable_at t within c.0 c.1).is

-- ---- the change of another writer

-- one's own file stays as it was, and the way to it ends at the file that was moved onto a link there
pub record CutsOff (t : Tree) (front : Path) (name : Name) (s other : Path) (change : Change) : Type 0 where
  pub to : Path
  pub is : change ≡ Rename other to
  pub on : on_way t true (front ++ name ∷ []) to ≡ true
  pub link : crosses t (front ++ name ∷ []) to ≡ true
  pub file : SameOnWay t (changed t change) true s
  pub stops : Stops (changed t change) true front to

module _ (t : Tree) (is_tree : IsTree t) (front : Path) (name : Name) (s : Path) (own : OwnSpot t (front ++ name ∷ []) s) (other : Path) (apart : other ≢ s) where
  abbrev mine : Path
  mine = front ++ name ∷ []

  -- a rename onto a link on the way
  module _ (p : Path) (his : IsOwnChange t other (Rename other p)) (on : on_way t true mine p ≡ true) (link : is_link (node_at t p) ≡ true) (elsewhere : p ≢ s) where
    same_others : (q : Path) → on_way t true mine q ≡ true → q ≢ p → node_at (changed t (Rename other p)) q ≡ node_at t q
    same_others = others_same t is_tree true mine s (own_stops t mine s own) other p his apart on

    on_front : on_way t true front p ≡ true
    unfolding on_way
    on_front =
        let n = named_in t mine s own.is (λ root. file_below_root root) in
        let i = n.spot_in in
        let f = file_at t mine s own.leads in
        let parent : Some i.front ≡ Some front = sym i.parent ∙ parent_of-push front name in
        let fronts : i.front ≡ front = cc in
        let names : i.front ++ n.name ∷ [] ≡ i.front ++ name ∷ [] = sym n.path_is ∙ ap (λ r. r ++ name ∷ []) (sym fronts) in
        let tails : n.name ∷ [] ≡ name ∷ [] = append_cancel_left i.front _ _ names in
        let there : node_at t (i.place.path ++ name ∷ []) ≡ Some f.node = ap (λ l. node_at t (i.place.path ++ l)) (sym tails) ∙ ap (node_at t) n.is ∙ f.at in
        let leads : followed t true front ≡ Ok i.place = ap (followed t true) (sym fronts) ∙ i.leads in
        link_on_front t is_tree name i.place f.node there f.file most_links front p leads link on
      where
        file_below_root : s ≢ []
        file_below_root root =
            let f = file_at t mine s own.leads in
            false≢true (sym (file_no_directory t s f.node f.at f.file) ∙ ap (λ r. is_directory (node_at t r)) root ∙ is_tree.root)

    still_on_front : on_way (changed t (Rename other p)) true front p ≡ true
    unfolding on_way
    still_on_front =
        still_reached t (changed t (Rename other p)) true p most_links front
        (λ q in_front away. ap outline (same_others q (unfollowed_on_way t mine q (directory_on_way t front name q in_front)) away)) on_front

    file_same : SameOnWay t (changed t (Rename other p)) true s
    unfolding on_way
    file_same =
        let stops = own_stops t mine s own in
        let itself : Stops t true s s = record { on = own_on_way t true s s (begins-own s); node = stops.node; at = stops.at; file = stops.file } in
        elim (same_or_replaces t is_tree true s s itself other (Rename other p) his apart) [
          | inl same ↦ same
          | inr r ↦ elim r.over [
            | inl over ↦ absurd (false≢true (sym (own_way_plain t is_tree s stops.node stops.at stops.file most_links r.to r.on) ∙ over))
            | inr same ↦ let target : Rename other p ≡ Rename other r.to = r.is in absurd (elsewhere (cc target ∙ same))
          ]
        ]

    pub cuts_off : CutsOff t front name s other (Rename other p)
    cuts_off =
        let after = stops_after t is_tree true mine s (own_stops t mine s own) other p his apart on in
        record {
          to = p;
          is = refl;
          on = on;
          link = crosses_on_way t mine front p (parent_of-push front name) link on_front;
          file = file_same;
          stops = record { on = still_on_front; node = after.node; at = after.at; file = after.file };
        }

  -- the change of another writer leaves the way of one's own file alone, or cuts it off
  pub own_after : (change : Change) → IsOwnChange t other change → ((p : Path) → change ≡ Rename other p → p ≢ s) → SameOnWay t (changed t change) true mine ⊎ CutsOff t front name s other change
  own_after change his elsewhere = elim (same_or_replaces t is_tree true mine s (own_stops t mine s own) other change his apart) [
    | inl same ↦ inl same
    | inr r ↦ elim r.over [
      | inl link ↦ inr (subst (CutsOff t front name s other) (sym r.is) (cuts_off r.to (subst (IsOwnChange t other) r.is his) r.on link (elsewhere r.to r.is)))
      | inr same ↦ absurd (elsewhere r.to r.is same)
    ]
  ]

-- a way that ends at a file stays so
module _ (Apart : Path → Type 0) (t : Tree) (front : Path) (cut : Cut Apart t front) where
  pub cut_kept : (u : Tree) (name : Name) → SameOnWay t u true (front ++ name ∷ []) → Cut Apart u front
  cut_kept u name same = record { stop = cut.stop; stops = stops_kept t u true front cut.stop (same_front t u front name same) cut.stops; apart = cut.apart }

  pub cut_after : IsTree t → (other : Path) (change : Change) → IsOwnChange t other change → other ≢ cut.stop → ((p : Path) → change ≡ Rename other p → Apart p) → Cut Apart (changed t change) front
  cut_after is_tree other change his away named = elim (same_or_replaces t is_tree true front cut.stop cut.stops other change his away) [
    | inl same ↦ record { stop = cut.stop; stops = stops_kept t (changed t change) true front cut.stop same cut.stops; apart = cut.apart }
    | inr r ↦ record {
      stop = r.to;
      stops = subst (λ c. Stops (changed t c) true front r.to) (sym r.is) (stops_after t is_tree true front cut.stop cut.stops other r.to (subst (IsOwnChange t other) r.is his) away r.on);
      apart = named r.to r.is;
    }
  ]

-- ---- a rename of another file onto the very name

-- a path whose spot is a file leads to what is moved there, and reads as the path that it was moved to
module _ (t : Tree) (is_tree : IsTree t) (path p : Path) (own : OwnSpot t path p) (from to s : Path) (file : file_spot t from ≡ Ok s) (renames : change_of_rename t from to ≡ Ok (Rename s p)) where
  plain_there : is_link (node_at t p) ≡ false
  plain_there = let f = file_at t path p own.leads in ap is_link f.at ∙ file_no_link f.node.content f.file

  pub moved_onto_crosses : (other : Path) → crosses t other p ≡ false
  moved_onto_crosses other = crosses_link t other p plain_there

  onto : change_of_rename t from path ≡ Ok (Rename s p)
  onto =
      let f = file_at t path p own.leads in
      let c = rename_change t from (Rename s p) to renames in
      let sources : Rename s p ≡ Rename c.0 c.1 = c.4 in
      let source : movable t from ≡ Ok s = c.2 ∙ ap Ok (cc sources) in
      change_of_rename-is t from path s p source (file_replaceable f.node f.at f.file)
    where
      file_replaceable : (n : Node) → node_at t p ≡ Some n → is_file_content n.content ≡ true → replaceable t path ≡ Ok p
      file_replaceable n at is = replaced_or_not t path p own.is false (file_no_directory t p n at is)

  pub moved_onto : OwnSpot (changed t (Rename s p)) path p
  moved_onto = record { is = rename_spot t is_tree from path s p onto file (moved_onto_crosses path); leads = rename_file_spot t is_tree from path s p onto file (moved_onto_crosses path) }

  pub moved_onto_reads : read_of (changed t (Rename s p)) path ≡ read_of (changed t (Rename s p)) to
  moved_onto_reads = rename_read_through t is_tree from path s p onto file (moved_onto_crosses path) ∙ sym (rename_read_through t is_tree from to s p renames file (moved_onto_crosses to))
