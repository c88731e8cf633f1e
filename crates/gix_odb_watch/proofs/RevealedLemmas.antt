-- What is seen where touched paths are read, of a change or of a new folder, is all that is revealed.
use Rattle.std.proofs.Common.{◌≡◌, ◌⊎◌, inl, inr, ℕ, Bool, true, false, List, [], ◌∷◌, ◌++◌, map, Option, Some, None, is_some, if◌then◌else◌, refl, sym, ap, ◌∙◌, subst, ◌||◌, Result, Ok, Err, IfOk}
use Rattle.std.specs.List.{filter, list_any, starts_with}
use Rattle.std.proofs.lemmas.Bool.{false≢true, cases_Bool, false_from_ne_true, or_cases, or_left, or_right}
use Rattle.odb_base.specs.Path.{Name, Path, last_name, path_cmp, same_name}
use Rattle.odb_base.specs.PathLaws.{parent_of-some, path_order}
use Rattle.odb_disk.specs.Tree.{Tree, IsTree}
use Rattle.odb_disk.specs.Tree.Follow.{followed, pass, read_of}
use Rattle.odb_mem_disk.specs.PassCalls.{onward_of}
use Rattle.gix_odb_watch.specs.Files.{file_at}
use Rattle.gix_odb_watch.specs.Kept.{IsIn, Contents, Fits, Folders, Kept, Knows, ShowsInOne}
use Rattle.gix_odb_watch.specs.Revealed.{HasUnder, IsLone, IsPlainPath, IsSeen, IsUnder, linked_at, IsRevealed, Relinks, RevealsMore, is_in}
use Rattle.gix_odb_watch.specs.Sight.{ArePathsIn, HasName}
use Rattle.gix_odb_watch.specs.Touched.{Adds, IsSpot, Spot, is_watched, AddsEach, AreTouched, places_of}
use Rattle.gix_odb_watch.specs.Watched.{Shows, named_kind, pack_directory, watched_kind}
use Rattle.gix_odb_watch.specs.declared.revealed.Revealed.{Revealed}
use Rattle.gix_odb_watch.specs.declared.shown_file.ShownFile.{ShownFile}
use Rattle.gix_odb_watch.specs.declared.watched.WatchedKind.{WatchedKind}
use Rattle.gix_odb_watch.proofs.EntryLemmas.{has_or_lone, plain_path, read_has_name}
use Rattle.gix_odb_watch.proofs.FilesLemmas.{at_shows, read_watched, shown_at}
use Rattle.gix_odb_watch.proofs.ListLemmas.{in_either, in_filter, in_flat_map, in_left, in_map, in_pushed, in_right, last_pushed, of_filter, of_flat_map, of_map, old_pushed, among_keys, each_first, keys_among, one_is_in, one_passes, passes_one}
use Rattle.gix_odb_watch.proofs.TouchedLemmas.{directory_if, named_watched, pack_unwatched, front_or_whole, named_spot, own_spot, touched_at}
use Rattle.std.specs.FinSet as set
use Rattle.std.specs.Ordering.{eq_by_cmp}
use Rattle.odb_disk.specs.Tree.Change.{changed, is_possible_in}
use Rattle.odb_disk.specs.Tree.Way.{SameOnWay, on_way}
use Rattle.odb_disk.specs.declared.change.Change.{Change}
use Rattle.odb_disk.proofs.TreeLemmas.{own_path, same_path}
use Rattle.odb_disk.proofs.TreeLemmas.Changed.{IsTree-changed}
use Rattle.odb_disk.proofs.TreeLemmas.Moved.{begins, begins-append}
use Rattle.odb_disk.proofs.WayLaws.{front_on_way, on_way_kept, read_kept, same_untouched}
use Rattle.odb_disk.proofs.WriteLaws.{touches}

-- ---- what is listed of a touched path

-- its own path alone
pub lists_own : (t : Tree) (folder path : Path) (old new : List Spot) → is_watched path ≡ true → new ≡ old ++ (folder, path) ∷ [] → Adds (IsUnder (folder, path)) (HasUnder t (folder, path)) old new
lists_own t folder path old new watched added = record {
  keeps = λ spot one. old_pushed old new (folder, path) spot added one;
  only = λ spot one. elim (in_pushed old new (folder, path) spot added one) [ inl before ↦ inl before | inr same ↦ inr (inl same) ];
  whole = λ spot has. elim has [
    | inl same ↦ subst (IsIn new) same (last_pushed old new (folder, path) added)
    | inr under ↦ absurd (false≢true (sym under.0 ∙ watched))
  ];
}

-- and the watched paths in it
module _ (t : Tree) (folder path : Path) (old mid new : List Spot) (unwatched : is_watched path ≡ false) (paths : List Path) (are : ArePathsIn t path paths)
    (listed : mid ≡ old ++ map (λ (p : Path). (folder, p)) (filter is_watched paths)) (added : new ≡ mid ++ (folder, path) ∷ []) where
  abbrev its : List Spot
  its = map (λ (p : Path). (folder, p)) (filter is_watched paths)

  under_its : (spot : Spot) → IsIn its spot → IsUnder (folder, path) spot
  under_its spot one =
      let m = of_map (λ (p : Path). (folder, p)) (filter is_watched paths) spot one in
      let named = are.only m.0 (of_filter is_watched paths m.0 m.1) in
      inr (unwatched, (named.0, ap (λ (p : Path). (folder, p)) (sym named.1) ∙ m.2))

  in_its : (name : Name) (kind : WatchedKind) → watched_kind name ≡ Some kind → HasName t name (followed t true path) → IsIn its (folder, path ++ name ∷ [])
  in_its name kind is has =
      in_map (λ (p : Path). (folder, p)) (filter is_watched paths) (path ++ name ∷ [])
      (in_filter is_watched paths (path ++ name ∷ []) (are.whole name has) (named_watched path name kind is))

  before : (spot : Spot) → IsIn (old ++ its) spot → IsIn new spot
  before spot one = old_pushed mid new (folder, path) spot added (subst (λ (l : List Spot). IsIn l spot) (sym listed) one)

  pub lists_under : Adds (IsUnder (folder, path)) (HasUnder t (folder, path)) old new
  lists_under = record {
    keeps = λ spot one. before spot (in_left old its spot one);
    only = λ spot one. elim (in_pushed mid new (folder, path) spot added one) [
      | inl first ↦ elim (in_either old its spot (subst (λ (l : List Spot). IsIn l spot) listed first)) [ inl was ↦ inl was | inr now ↦ inr (under_its spot now) ]
      | inr same ↦ inr (inl same)
    ];
    whole = λ spot has. elim has [
      | inl same ↦ subst (IsIn new) same (last_pushed mid new (folder, path) added)
      | inr under ↦ subst (IsIn new) under.1.4 (before (folder, path ++ under.1.0 ∷ []) (in_right old its (folder, path ++ under.1.0 ∷ []) (in_its under.1.0 under.1.1 under.1.2 under.1.3)))
    ];
  }

-- ---- what is seen

module _ (t : Tree) (touched : List Spot) (revealed : Revealed) (seen : IsSeen t touched revealed) where
  spot_from : (spot : Spot) → IsIn seen.spots spot → (one : Spot) × IsIn touched one × IsUnder one spot
  spot_from spot one = elim (seen.listed.only spot one) [ inl none ↦ absurd none | inr from ↦ from ]

  spot_of : (spot : Spot) → IsIn touched spot → IsIn seen.spots spot
  spot_of spot one = seen.listed.whole spot (spot, one, inl refl)

  own_folder : (one spot : Spot) → IsUnder one spot → one.0 ≡ spot.0
  own_folder one spot (inl same) = ap (λ (s : Spot). s.0) same
  own_folder one spot (inr under) = ap (λ (s : Spot). s.0) under.1.1

  linked_one : (spot : Spot) (folder : Path) (b : Bool) → IsIn (if b then spot.0 ∷ [] else []) folder → spot.0 ≡ folder
  linked_one spot folder true (inl same) = same
  linked_one spot folder true (inr none) = absurd none
  linked_one spot folder false none = absurd none

  pub seen_linked : (folder : Path) → IsIn revealed.linked.items folder → (spot : Spot) × IsIn touched spot × (spot.0 ≡ folder)
  seen_linked folder one =
      let o = of_flat_map (linked_at t) seen.spots folder (subst (λ (l : List Path). IsIn l folder) seen.linked one) in
      let from = spot_from o.0 o.1 in
      (from.0, from.1, own_folder from.0 o.0 from.2 ∙ linked_one o.0 folder (is_some (onward_of (pass t true [] o.0.1))) o.2)

  spot_linked : (spot : Spot) → IsIn seen.spots spot → IsIn revealed.linked.items spot.0 ⊎ IsLone t spot.1
  spot_linked spot one = by (onward_of (pass t true [] spot.1)) refl
    where
      by : (o : Option Path) → onward_of (pass t true [] spot.1) ≡ o → IsIn revealed.linked.items spot.0 ⊎ IsLone t spot.1
      by None none = inr none
      by (Some onward) is =
          inl (subst (λ (l : List Path). IsIn l spot.0) (sym seen.linked)
          (in_flat_map (linked_at t) seen.spots spot spot.0 one (subst (λ (o : Option Path). IsIn (if is_some o then spot.0 ∷ [] else []) spot.0) (sym is) (inl refl))))

  own_shows : (spot : Spot) → IsSpot spot → (file : ShownFile) → IsIn (file_at t spot.1) file → Shows spot.0 t file.key.0 file.key.1 file.bytes
  own_shows spot is file one =
      let watched = read_watched (spot.0) t spot.1 (named_kind (last_name spot.1)) (read_of t spot.1) file one in
      let s = parent_of-some spot.1 (pack_directory spot.0) (sym (ap (directory_if spot.1) watched) ∙ is) in
      at_shows spot.0 t s.0 spot.1 s.1 file one

  under_shows : (one spot : Spot) → IsSpot one → IsUnder one spot → (file : ShownFile) → IsIn (file_at t spot.1) file → Shows one.0 t file.key.0 file.key.1 file.bytes
  under_shows one spot is (inl same) file at = own_shows one is file (subst (λ (s : Spot). IsIn (file_at t s.1) file) (sym same) at)
  under_shows one spot is (inr under) file at =
      let both : Some one.1 ≡ Some (pack_directory one.0) = sym (ap (directory_if one.1) under.0) ∙ is in
      let own : one.1 ≡ pack_directory one.0 = cc in
      at_shows one.0 t under.1.0 spot.1 (sym (ap (λ (s : Spot). s.1) under.1.1) ∙ ap (λ (p : Path). p ++ under.1.0 ∷ []) own) file at

  pub seen_shown : ((spot : Spot) → IsIn touched spot → IsSpot spot) → (file : ShownFile) → IsIn revealed.files.items file
      → (spot : Spot) × IsIn touched spot × Shows spot.0 t file.key.0 file.key.1 file.bytes
  seen_shown are file one =
      let o = of_flat_map (λ (spot : Spot). file_at t spot.1) seen.spots file (subst (λ (l : List ShownFile). IsIn l file) seen.files one) in
      let from = spot_from o.0 o.1 in
      (from.0, from.1, under_shows from.0 o.0 (are from.0 from.1) from.2 file o.2)

  -- ---- a path that is read, or whose directory is

  module _ (folder : Path) (name : Name) (kind : WatchedKind) (watched : watched_kind name ≡ Some kind) where
    abbrev path : Path
    path = pack_directory folder ++ name ∷ []

    abbrev pub IsRead : Type 0
    IsRead = IsIn touched (folder, pack_directory folder) ⊎ IsIn touched (folder, path)

    spot_in : IsIn touched (folder, pack_directory folder) → HasName t name (followed t true (pack_directory folder)) → IsIn seen.spots (folder, path)
    spot_in all has = seen.listed.whole (folder, path) ((folder, pack_directory folder), all, inr (pack_unwatched folder, (name, kind, watched, has, refl)))

    pub read_shown : IsRead → (time : ℕ) (bytes : List ℕ) → Shows folder t path time bytes → IsIn revealed.files.items (record { key = (path, time); bytes = bytes })
    read_shown read time bytes s =
        subst (λ (l : List ShownFile). IsIn l (record { key = (path, time); bytes = bytes })) (sym seen.files)
        (in_flat_map (λ (spot : Spot). file_at t spot.1) seen.spots (folder, path) (record { key = (path, time); bytes = bytes }) (spot read) (shown_at folder t path time bytes s))
      where
        spot : IsRead → IsIn seen.spots (folder, path)
        spot (inl all) = spot_in all (read_has_name t name (pack_directory folder) (bytes, s.at) s.reads)
        spot (inr own) = spot_of (folder, path) own

    lone_spot : IsIn seen.spots (folder, path) → IsIn revealed.linked.items folder ⊎ IsPlainPath t path
    lone_spot one = elim (spot_linked (folder, path) one) [ inl is ↦ inl is | inr lone ↦ inr (plain_path t path lone) ]

    pub read_plain : IsRead → IsIn revealed.linked.items folder ⊎ IsPlainPath t path
    read_plain (inr own) = lone_spot (spot_of (folder, path) own)
    read_plain (inl all) = elim (spot_linked (folder, pack_directory folder) (spot_of (folder, pack_directory folder) all)) [
      | inl is ↦ inl is
      | inr lone ↦ elim (has_or_lone t (pack_directory folder) lone name) [ inl has ↦ lone_spot (spot_in all has) | inr plain ↦ inr (plain_path t path plain) ]
    ]

-- Of each folder that is watched now, a path was read, or the folder was watched before and nothing changed on the way of the path.
module _ (old new : Folders) (before after : Tree) (touched : List Spot) (revealed : Revealed) (seen : IsSeen after touched revealed) (is_tree : IsTree after)
    (stays : (folder : Path) → set.contains old folder ≡ true → set.contains new folder ≡ true)
    (are : (spot : Spot) → IsIn touched spot → (set.contains new spot.0 ≡ true) × IsSpot spot)
    (either : (folder : Path) → set.contains new folder ≡ true → (name : Name) (kind : WatchedKind) → (is : watched_kind name ≡ Some kind)
    → IsRead after touched revealed seen folder name kind is ⊎ ((set.contains old folder ≡ true) × SameOnWay before after true (pack_directory folder ++ name ∷ []))) where
  reveals_path : (path : Path) (time : ℕ) (bytes : List ℕ) → (s : ShowsInOne new after path time bytes)
      → ShowsInOne old before path time bytes ⊎ IsIn revealed.files.items (record { key = (path, time); bytes = bytes })
  reveals_path path time bytes s =
      let own = subst (λ (p : Path). Shows s.folder after p time bytes) s.shows.path_is s.shows in
      elim (either s.folder s.among s.shows.name s.shows.kind s.shows.is_watched) [
        | inl read ↦
            inr (subst (λ (p : Path). IsIn revealed.files.items (record { key = (p, time); bytes = bytes })) (sym s.shows.path_is)
            (read_shown after touched revealed seen s.folder s.shows.name s.shows.kind s.shows.is_watched read time bytes own))
        | inr same ↦
            inl (record {
              folder = s.folder;
              among = same.0;
              shows = record {
                name = s.shows.name;
                path_is = s.shows.path_is;
                kind = s.shows.kind;
                is_watched = s.shows.is_watched;
                at = s.shows.at;
                reads = sym (read_kept before after path (subst (SameOnWay before after true) (sym s.shows.path_is) same.1)) ∙ s.shows.reads;
                counts = s.shows.counts;
              };
            })
      ]

  module _ (folder : Path) (was now : Folders) (relinks : Relinks was revealed now) (name : Name) (kind : WatchedKind) (watched : watched_kind name ≡ Some kind) (place : Path)
      (on : on_way after true (pack_directory folder ++ name ∷ []) place ≡ true) where
    abbrev front : Bool
    front = starts_with same_name (pack_directory folder ++ name ∷ []) place

    still_linked : set.contains was folder ≡ true → set.contains now folder ≡ true
    still_linked linked = relinks folder ∙ or_right (is_in revealed.linked.items folder) (set.contains was folder) linked

    links_path : set.contains new folder ≡ true → (set.contains old folder ≡ true → Knows was before folder) → (set.contains now folder || front) ≡ true
    links_path among knew = elim (either folder among name kind watched) [
      | inl read ↦ elim (read_plain after touched revealed seen folder name kind watched read) [
        | inl one ↦
            or_left (set.contains now folder) front (relinks folder ∙ or_left (is_in revealed.linked.items folder) (set.contains was folder) (one_is_in revealed.linked.items folder one))
        | inr plain ↦ or_right (set.contains now folder) front (plain place on)
      ]
      | inr same ↦
          let there = sym (on_way_kept before after true (pack_directory folder ++ name ∷ []) same.1 place) ∙ on in
          elim (or_cases (set.contains was folder) front (knew same.0 name kind watched place there)) [
            | inl linked ↦ or_left (set.contains now folder) front (still_linked linked)
            | inr is ↦ or_right (set.contains now folder) front is
          ]
    ]

  pub reveals_more : RevealsMore old new before after revealed
  reveals_more = record {
    is_tree = is_tree;
    stays = stays;
    reveals = record {
      shown = λ file one. let s = seen_shown after touched revealed seen (λ spot in'. (are spot in').1) file one in record { folder = s.0.0; among = (are s.0 s.1).0; shows = s.2 };
      whole = reveals_path;
    };
    linked = λ folder one. let l = seen_linked after touched revealed seen folder one in ap (set.contains new) (sym l.2) ∙ (are l.0 l.1).0;
    knows = λ folder among was now knew relinks name kind watched place on. links_path folder was now relinks name kind watched place on among knew;
  }

-- ---- a change

unlinked : (linked front : Bool) → (linked || front) ≡ true → linked ≡ false → front ≡ true
unlinked linked front either none = elim (or_cases linked front either) [ inl is ↦ absurd (false≢true (sym none ∙ is)) | inr is ↦ is ]

module _ (kept : Kept) (t : Tree) (change : Change) (fits : Fits kept t) (possible : is_possible_in t change ≡ true) (watched linked : List Path) (contents : Contents)
    (view : ◌≡◌ {A = Kept} (record { folders = set.from_list watched; linked = set.from_list linked; contents = contents }) kept) (spots : List Spot)
    (touched : AreTouched watched linked (places_of t change) spots) where
  in_watched : (folder : Path) → set.contains kept.folders folder ≡ true → IsIn watched folder
  in_watched folder among = keys_among watched folder (subst (λ (k : Kept). set.contains k.folders folder ≡ true) (sym view) among)

  watched_in : (folder : Path) → IsIn watched folder → set.contains kept.folders folder ≡ true
  watched_in folder one = subst (λ (k : Kept). set.contains k.folders folder ≡ true) view (among_keys watched folder one)

  are_spots : (spot : Spot) → IsIn spots spot → (set.contains kept.folders spot.0 ≡ true) × IsSpot spot
  are_spots spot one = elim (touched.are_touched.only spot one) [
    | inl first ↦ elim (touched.are_linked.only spot first) [
      | inl none ↦ absurd none
      | inr link ↦ (fits.linked spot.0 (subst (λ (k : Kept). set.contains k.linked spot.0 ≡ true) view (among_keys linked spot.0 link.0)), link.1)
    ]
    | inr at ↦ (watched_in spot.0 at.2.0, at.2.1)
  ]

  linked_spot : (folder : Path) → set.contains kept.linked folder ≡ true → IsIn spots (folder, pack_directory folder)
  linked_spot folder is =
      let one = keys_among linked folder (subst (λ (k : Kept). set.contains k.linked folder ≡ true) (sym view) is) in
      touched.are_touched.keeps (folder, pack_directory folder) (touched.are_linked.whole (folder, pack_directory folder) (one, refl, begins-append [] folder))

  module _ (revealed : Revealed) (seen : IsSeen (changed t change) spots revealed) (folder : Path) (among : set.contains kept.folders folder ≡ true) (name : Name) (kind : WatchedKind)
      (is : watched_kind name ≡ Some kind) where
    abbrev its_path : Path
    its_path = pack_directory folder ++ name ∷ []

    abbrev reaches : Path → Bool
    reaches place = begins its_path place

    read_at : (place : Path) → IsIn (places_of t change) place → begins its_path place ≡ true → IsRead (changed t change) spots revealed seen folder name kind is
    read_at place one front = elim (front_or_whole (pack_directory folder) name place front) [
      | inl below ↦ inl (touched.are_touched.whole (folder, pack_directory folder) (place, one, ((in_watched folder among, own_spot folder), inr (refl, below))))
      | inr same ↦ inr (touched.are_touched.whole (folder, its_path) (place, one, ((in_watched folder among, named_spot folder name kind is), inl (sym same))))
    ]

    same_ways : set.contains kept.linked folder ≡ false → list_any reaches (places_of t change) ≡ false → SameOnWay t (changed t change) true its_path
    same_ways plain none = same_untouched t change true its_path (λ q on. false_from_ne_true (touches t change q) (λ hit.
        let a = touched_at t change q possible hit in
        false≢true (sym none
        ∙ passes_one reaches (places_of t change) a.place a.one
        (unlinked (set.contains kept.linked folder) (begins its_path a.place) (fits.knows folder among name kind is a.place (front_on_way t true its_path q a.place a.front on)) plain))))

    read_or_same : IsRead (changed t change) spots revealed seen folder name kind is ⊎ ((set.contains kept.folders folder ≡ true) × SameOnWay t (changed t change) true its_path)
    read_or_same = elim (cases_Bool (set.contains kept.linked folder)) [
      | inl link ↦ inl (inl (linked_spot folder link))
      | inr plain ↦ elim (cases_Bool (list_any reaches (places_of t change))) [
        | inl any ↦ let o = one_passes reaches (places_of t change) any in inl (read_at o.0 o.1 o.2)
        | inr none ↦ inr (among, same_ways plain none)
      ]
    ]

  pub change_revealed : (revealed : Revealed) → IsSeen (changed t change) spots revealed → IsRevealed kept.folders t (changed t change) revealed
  change_revealed revealed seen =
      reveals_more kept.folders kept.folders t (changed t change) spots revealed seen (IsTree-changed t change fits.is_tree possible) (λ folder among. among) are_spots
      (read_or_same revealed seen)

  pub seen_answer : {E : Type 0} (after : Tree) → after ≡ changed t change → (answer : Result Revealed E) → IfOk answer (IsSeen after spots)
      → IfOk answer (IsRevealed kept.folders t (changed t change))
  seen_answer after same (Ok revealed) seen = change_revealed revealed (subst (λ (v : Tree). IsSeen v spots revealed) same seen)
  seen_answer after same (Err error) seen = tt

  -- where nothing is touched
  pub nothing_answer : spots ≡ [] → (revealed : Revealed) → revealed.files.items ≡ [] → revealed.linked.items ≡ [] → IsRevealed kept.folders t (changed t change) revealed
  nothing_answer none revealed files links =
      change_revealed revealed (record {
        spots = [];
        listed = subst (λ (l : List Spot). AddsEach IsUnder (HasUnder (changed t change)) l [] []) (sym none) (each_first IsUnder (HasUnder (changed t change)) []);
        files = files;
        linked = links;
      })

-- ---- one more folder

module _ (folders : Folders) (folder : Path) where
  abbrev pub one_more : Folders
  one_more = set.insert folders folder

  among_more : (other : Path) → set.contains folders other ≡ true → set.contains one_more other ≡ true
  among_more other among = set.contains-insert path_order folders folder other ∙ or_right (eq_by_cmp path_cmp other folder) (set.contains folders other) among

  among_own : set.contains one_more folder ≡ true
  among_own = set.contains-insert path_order folders folder folder ∙ ap (λ b. b || set.contains folders folder) (own_path folder)

  module _ (tree : Tree) (is_tree : IsTree tree) (revealed : Revealed) (seen : IsSeen tree ((folder, pack_directory folder) ∷ []) revealed) where
    are_own : (spot : Spot) → IsIn ((folder, pack_directory folder) ∷ []) spot → (set.contains one_more spot.0 ≡ true) × IsSpot spot
    are_own spot (inl same) = subst (λ (s : Spot). (set.contains one_more s.0 ≡ true) × IsSpot s) same (among_own, own_spot folder)
    are_own spot (inr none) = absurd none

    pub folder_revealed : RevealsMore folders one_more tree tree revealed
    folder_revealed = reveals_more folders one_more tree tree ((folder, pack_directory folder) ∷ []) revealed seen is_tree among_more are_own (λ other among name kind is.
        elim (or_cases (eq_by_cmp path_cmp other folder) (set.contains folders other) (sym (set.contains-insert path_order folders folder other) ∙ among)) [
          | inl tied ↦ inl (inl (inl (ap (λ (f : Path). (f, pack_directory f)) (sym (same_path other folder tied)))))
          | inr old ↦ inr (old, λ q on. refl)
        ])
