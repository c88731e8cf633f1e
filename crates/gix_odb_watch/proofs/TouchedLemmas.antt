-- Which paths a change touches, place by place.
use Rattle.std.proofs.Common.{◌≡◌, ◌⊎◌, inl, inr, Bool, true, false, not, if◌then◌else◌, List, [], ◌∷◌, ◌++◌, map, drop, length, append-nil, codes, Option, Some, None, is_some, Result, refl, sym, ap, ◌∙◌, subst}
use lib.Pointwise.{pointwise, pointwise_decides}
use Rattle.std.specs.BTreeMap.Range.{is_past_end, range_contains}
use Rattle.std.specs.Cmp.{tied_itself}
use Rattle.std.specs.Cmp.Lexicographic.{bytes_decides, nat_list_cmp_total}
use Rattle.std.specs.List.{filter, starts_with}
use Rattle.std.specs.Ordering.{eq_by_cmp, is_le, ordering_reverse, ordering_then}
use Rattle.std.specs.declared.cmp.Ordering.TheVariants.{Less}
use Rattle.std.specs.declared.ops.Bound.{Bound}
use Rattle.std.specs.declared.ops.Bound.TheVariants.{Included, Excluded}
use Rattle.std.proofs.lemmas.Bool.{and_from, and_parts, false≢true, or_cases}
use Rattle.odb_base.specs.Path.{Name, Path, parent_of, path_cmp, same_name}
use Rattle.odb_base.specs.PathLaws.{goes_beyond, parent_of-push, path_order}
use Rattle.odb_disk.specs.Tree.{Tree}
use Rattle.odb_disk.specs.Tree.Change.{is_possible_in}
use Rattle.odb_disk.specs.Tree.Write as writing
use Rattle.odb_disk.specs.declared.change.Change.{Change}
use Rattle.odb_disk.specs.declared.change.Change.TheVariants.{PutFile, MakeDir, PutLink, Rename, Append, Remove, SetTime}
use Rattle.odb_disk.proofs.TreeLemmas.{same_path}
use Rattle.odb_disk.proofs.TreeLemmas.Moved.{begins, begins-append, begins-own}
use Rattle.odb_disk.proofs.TreeLemmas.Write.{file_at}
use Rattle.odb_disk.proofs.WriteLaws.{at_place, touches}
use Rattle.gix_odb_watch.specs.Kept.{IsIn}
use Rattle.gix_odb_watch.specs.Revealed.{is_in}
use Rattle.gix_odb_watch.specs.Touched.{Adds, AreTouched, IsAmong, IsInside, IsSpot, IsTouched, Spot, TellsFolder, directory_of, is_folder_of, is_watched, place_if, places_of}
use Rattle.gix_odb_watch.specs.Watched.{named_kind, pack_directory, watched_kind}
use Rattle.gix_odb_watch.specs.declared.watched.WatchedKind.{WatchedKind}
use Rattle.gix_odb_watch.proofs.OverLemmas.{some_spot}
use Rattle.gix_odb_watch.proofs.ListLemmas.{each_first, each_next, in_either, in_filter, in_left, in_map, in_pushed, in_right, is_in_one, last_pushed, of_filter, of_map, old_pushed, one_is_in}
use Rattle.gix_odb_watch.proofs.EntryLemmas.{last_name-push}

-- ---- spots

pub named_watched : (directory : Path) (name : Name) (kind : WatchedKind) → watched_kind name ≡ Some kind → is_watched (directory ++ name ∷ []) ≡ true
named_watched directory name kind is = ap (λ (o : Option Name). is_some (named_kind o)) (last_name-push directory name) ∙ ap is_some is

pub pack_unwatched : (folder : Path) → is_watched (pack_directory folder) ≡ false
pack_unwatched folder = ap (λ (o : Option Name). is_some (named_kind o)) (last_name-push folder (codes "pack"))

abbrev pub directory_if : Path → Bool → Option Path
directory_if path b = if b then parent_of path else Some path

pub own_spot : (folder : Path) → IsSpot (folder, pack_directory folder)
own_spot folder = ap (directory_if (pack_directory folder)) (pack_unwatched folder)

pub named_spot : (folder : Path) (name : Name) (kind : WatchedKind) → watched_kind name ≡ Some kind → IsSpot (folder, pack_directory folder ++ name ∷ [])
named_spot folder name kind is =
    ap (directory_if (pack_directory folder ++ name ∷ [])) (named_watched (pack_directory folder) name kind is) ∙ parent_of-push (pack_directory folder) name

-- ---- what lies in a folder lies in no other

pub pack_apart : (a b : Path) → pack_directory a ≡ pack_directory b → a ≡ b
pack_apart a b same =
    let both : Some a ≡ Some b = sym (parent_of-push a (codes "pack")) ∙ ap parent_of same ∙ parent_of-push b (codes "pack") in cc

pub one_folder : (a b : Path) (n m : Name) → pack_directory a ++ n ∷ [] ≡ pack_directory b ++ m ∷ [] → a ≡ b
one_folder a b n m same =
    let both : Some (pack_directory a) ≡ Some (pack_directory b) = sym (parent_of-push (pack_directory a) n) ∙ ap parent_of same ∙ parent_of-push (pack_directory b) m in
    let inner : pack_directory a ≡ pack_directory b = cc in pack_apart a b inner

-- ---- what a change touches lies at one of its places, or below

pub record IsAt (t : Tree) (change : Change) (q : Path) : Type 0 where
  pub place : Path
  pub one : IsIn (places_of t change) place
  pub front : begins q place ≡ true

at_own : (t : Tree) (change : Change) (q path : Path) → IsIn (places_of t change) path → eq_by_cmp path_cmp q path ≡ true → IsAt t change q
at_own t change q path one tied = record { place = path; one = one; front = ap (λ (p : Path). begins p path) (same_path q path tied) ∙ begins-own path }

pub touched_at : (t : Tree) (change : Change) (q : Path) → is_possible_in t change ≡ true → touches t change q ≡ true → IsAt t change q
touched_at t (PutFile path time bytes) q possible tied = at_own t (PutFile path time bytes) q path (inl refl) tied
touched_at t (MakeDir path dev) q possible tied = at_own t (MakeDir path dev) q path (inl refl) tied
touched_at t (PutLink path target) q possible tied = at_own t (PutLink path target) q path (inl refl) tied
touched_at t (Rename from to) q possible below = elim (or_cases (starts_with same_name q from) (starts_with same_name q to) below) [
  | inl source ↦ record { place = from; one = inl refl; front = source }
  | inr target ↦ record { place = to; one = inr (inl refl); front = target }
]
touched_at t (Append path bytes) q possible tied =
    let s = some_spot t path bytes possible in
    at_own t (Append path bytes) q s.0 (subst (λ (r : Result Path writing.Refusal). IsIn (place_if r) s.0) (sym s.1) (inl refl))
    (sym (ap (λ told. at_place told q) (file_at t path s.0 s.1).leads) ∙ tied)
touched_at t (Remove path) q possible tied = at_own t (Remove path) q path (inl refl) tied
touched_at t (SetTime path time) q possible tied = at_own t (SetTime path time) q path (inl refl) tied

-- ---- what a path with one more name begins with

pub front_or_whole : (path : Path) (name : Name) (q : Path) → begins (path ++ name ∷ []) q ≡ true → (begins path q ≡ true) ⊎ (q ≡ path ++ name ∷ [])
front_or_whole path name [] is = inl (begins-append [] path)
front_or_whole [] name (x ∷ []) is = inr (ap (λ (n : Name). n ∷ []) ((bytes_decides x name).0 (and_parts (same_name x name) (begins [] []) is).0))
front_or_whole [] name (x ∷ y ∷ q) is = absurd (false≢true (and_parts (same_name x name) (begins [] (y ∷ q)) is).1)
front_or_whole (p ∷ path) name (x ∷ q) is =
    let parts = and_parts (same_name x p) (begins (path ++ name ∷ []) q) is in
    let same : x ≡ p = (bytes_decides x p).0 parts.0 in
    elim (front_or_whole path name q parts.1) [
      | inl front ↦ inl (and_from (same_name x p) (begins path q) parts.0 front)
      | inr whole ↦ inr ((λ i. same i ∷ whole i))
    ]

-- ---- paths in order

before_rest : (directory : Path) (name : Name) (names : Path) → path_cmp directory (directory ++ name ∷ names) ≡ Less
before_rest [] name names = refl
before_rest (step ∷ steps) name names = ap (λ o. ordering_then o (path_cmp steps (steps ++ name ∷ names))) (tied_itself nat_list_cmp_total step) ∙ before_rest steps name names

-- what begins with a path comes after it
from_place : (place rest q : Path) → q ≡ place ++ rest → is_le (path_cmp place q) ≡ true
from_place place [] q is = ap (λ (p : Path). is_le (path_cmp place p)) (is ∙ append-nil place) ∙ ap is_le (tied_itself path_order place)
from_place place (name ∷ names) q is = ap (λ (p : Path). is_le (path_cmp place p)) is ∙ ap is_le (before_rest place name names)

-- ---- the pack directories at a place and below it

-- their folders lie in a range up to a bound after all that begins with the place
module _ (folders : List Path) (place : Path) (old new : List Spot) (range : List Path) (hi : Bound Path) (is : range ≡ filter (range_contains path_cmp (Included place) hi) folders)
    (within : (rest : Path) → is_past_end path_cmp hi (place ++ rest) ≡ false) (added : new ≡ old ++ map (λ (folder : Path). (folder, pack_directory folder)) range) where
  abbrev spots : List Spot
  spots = map (λ (folder : Path). (folder, pack_directory folder)) range

  is_within : (folder : Path) → starts_with same_name folder place ≡ true → range_contains path_cmp (Included place) hi folder ≡ true
  is_within folder begins =
      let rest = drop (length place) folder in
      let whole = goes_beyond folder place begins in
      and_from (is_le (path_cmp place folder)) (not (is_past_end path_cmp hi folder)) (from_place place rest folder whole)
      (ap (λ (p : Path). not (is_past_end path_cmp hi p)) whole ∙ ap not (within rest))

  in_spots : (spot : Spot) → IsIn folders spot.0 → starts_with same_name spot.0 place ≡ true → IsIn spots (spot.0, pack_directory spot.0)
  in_spots spot one begins =
      in_map (λ (folder : Path). (folder, pack_directory folder)) range spot.0
      (subst (λ (l : List Path). IsIn l spot.0) (sym is) (in_filter (range_contains path_cmp (Included place) hi) folders spot.0 one (is_within spot.0 begins)))

  among_spots : (spot : Spot) → IsIn spots spot → IsAmong folders spot
  among_spots spot one =
      let m = of_map (λ (folder : Path). (folder, pack_directory folder)) range spot one in
      subst (IsAmong folders) m.2 (of_filter (range_contains path_cmp (Included place) hi) folders m.0 (subst (λ (l : List Path). IsIn l m.0) is m.1), own_spot m.0)

  pub inside_range : Adds (IsAmong folders) (IsInside folders place) old new
  inside_range = record {
    keeps = λ spot one. subst (λ (l : List Spot). IsIn l spot) (sym added) (in_left old spots spot one);
    only = λ spot one. elim (in_either old spots spot (subst (λ (l : List Spot). IsIn l spot) added one)) [ inl was ↦ inl was | inr now ↦ inr (among_spots spot now) ];
    whole = λ spot in'.
        subst (λ (l : List Spot). IsIn l spot) (sym added)
        (in_right old spots spot (subst (λ (p : Path). IsIn spots (spot.0, p)) (sym in'.1) (in_spots spot in'.0 in'.2)));
  }

-- what is before an end isn't past it
pub not_past : (path end : Path) → path_cmp path end ≡ Less → is_past_end path_cmp (Excluded end) path ≡ false
not_past path end less = ap is_le (path_order.antisymm end path ∙ ap ordering_reverse less)

pub starts_before : (place end : Path) → ((rest : Path) → path_cmp (place ++ rest) end ≡ Less) → path_cmp place end ≡ Less
starts_before place end before = ap (λ (p : Path). path_cmp p end) (sym (append-nil place)) ∙ before []

-- ---- what a place touches

module _ (watched : List Path) (place : Path) where
  at_or_inside : (spot : Spot) → IsTouched watched place spot → (spot.1 ≡ place) ⊎ IsInside watched place spot
  at_or_inside spot touched = elim touched.1 [
    | inl at ↦ inl at
    | inr below ↦ elim (front_or_whole spot.0 (codes "pack") place (subst (λ (p : Path). begins p place ≡ true) below.0 below.1)) [
      | inl front ↦ inr (touched.0.0, below.0, front)
      | inr own ↦ inl (below.0 ∙ sym own)
    ]
  ]

  spot_at : (spot : Spot) → IsTouched watched place spot → spot.1 ≡ place → directory_of place ≡ Some (pack_directory spot.0)
  spot_at spot touched at = subst (λ (p : Path). directory_of p ≡ Some (pack_directory spot.0)) at touched.0.1

  pub touched_none : (old new : List Spot) → Adds (IsAmong watched) (IsInside watched place) old new → ((folder : Path) → IsIn watched folder → directory_of place ≡ Some (pack_directory folder) → ⊥)
      → Adds (IsAmong watched) (IsTouched watched place) old new
  touched_none old new adds none = record {
    keeps = adds.keeps;
    only = adds.only;
    whole = λ spot touched. elim (at_or_inside spot touched) [ inl at ↦ absurd (none spot.0 touched.0.0 (spot_at spot touched at)) | inr inside ↦ adds.whole spot inside ];
  }

  pub touched_own : (old mid new : List Spot) (folder directory copy : Path) → Adds (IsAmong watched) (IsInside watched place) old mid → directory_of place ≡ Some directory
      → IsIn watched folder → directory ≡ pack_directory folder → copy ≡ place → new ≡ mid ++ (folder, copy) ∷ [] → Adds (IsAmong watched) (IsTouched watched place) old new
  touched_own old mid new folder directory copy adds is among own same added = record {
    keeps = λ spot one. old_pushed mid new (folder, copy) spot added (adds.keeps spot one);
    only = λ spot one. elim (in_pushed mid new (folder, copy) spot added one) [
      | inl before ↦ adds.only spot before
      | inr last ↦ inr (subst (IsAmong watched) last (among, ap directory_of same ∙ is ∙ ap Some own))
    ];
    whole = λ spot touched. elim (at_or_inside spot touched) [
      | inl at ↦
          let both : Some (pack_directory spot.0) ≡ Some (pack_directory folder) = sym (spot_at spot touched at) ∙ is ∙ ap Some own in
          let packs : pack_directory spot.0 ≡ pack_directory folder = cc in
          let folders = pack_apart spot.0 folder packs in
          subst (IsIn new) (λ i. (sym folders i, (same ∙ sym at) i)) (last_pushed mid new (folder, copy) added)
      | inr inside ↦ old_pushed mid new (folder, copy) spot added (adds.whole spot inside)
    ];
  }

-- ---- one place after the other

module _ (watched linked : List Path) where
  pub touched_first : (root : Path) (old first : List Spot) → root ≡ [] → old ≡ [] → Adds (IsAmong linked) (IsInside linked root) old first → AreTouched watched linked [] first
  touched_first root old first at none adds = record {
    first = first;
    are_linked = subst (λ (p : Path). Adds (IsAmong linked) (IsInside linked p) [] first) at (subst (λ (l : List Spot). Adds (IsAmong linked) (IsInside linked root) l first) none adds);
    are_touched = each_first (λ (place : Path). IsAmong watched) (IsTouched watched) first;
  }

  pub touched_next : (places : List Path) (place : Path) (spots longer : List Spot) → AreTouched watched linked places spots
      → Adds (IsAmong watched) (IsTouched watched place) spots longer → AreTouched watched linked (places ++ place ∷ []) longer
  touched_next places place spots longer so adds = record {
    first = so.first;
    are_linked = so.are_linked;
    are_touched = each_next (λ (p : Path). IsAmong watched) (IsTouched watched) places place so.first spots longer so.are_touched adds;
  }

-- ---- the folder of a pack directory

module _ (watched : List Path) (directory : Path) where
  pub tells_root : parent_of directory ≡ None → TellsFolder watched directory None
  tells_root root folder among own =
      let both : None ≡ Some folder = sym root ∙ ap parent_of own ∙ parent_of-push folder (codes "pack") in cc

  pub tells_own : (folder : Path) → is_folder_of watched folder directory ≡ true → TellsFolder watched directory (Some folder)
  tells_own folder is =
      let parts = and_parts (is_in watched folder) (pointwise same_name (pack_directory folder) directory) is in
      (is_in_one watched folder parts.0, sym ((pointwise_decides bytes_decides (pack_directory folder) directory).0 parts.1))

  pub tells_none : (folder : Path) → parent_of directory ≡ Some folder → is_folder_of watched folder directory ≡ false → TellsFolder watched directory None
  tells_none folder parent none other among own =
      let both : Some folder ≡ Some other = sym parent ∙ ap parent_of own ∙ parent_of-push other (codes "pack") in
      let same : folder ≡ other = cc in
      false≢true (sym none
      ∙ and_from (is_in watched folder) (pointwise same_name (pack_directory folder) directory) (one_is_in watched folder (subst (IsIn watched) (sym same) among))
      ((pointwise_decides bytes_decides (pack_directory folder) directory).1 (ap pack_directory same ∙ sym own)))
