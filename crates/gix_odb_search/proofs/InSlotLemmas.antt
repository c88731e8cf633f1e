-- The index of a slot is the only one of it that a view shows: so what is at a path, and a pack, are found by it.
use Rattle.std.proofs.Common.{◌≡◌, ◌&&◌, zero, suc, Bool, true, false, cond, List, [], ◌∷◌, Contains, Option, Some, None, refl, sym, ap, ◌∙◌, arith}
use Rattle.std.specs.Prelude.{◌==◌}
use Rattle.std.specs.List.{find}
use Rattle.std.proofs.lemmas.Bool.{and_parts, cond-true, cond-false, eqb-true, false_from_ne_true}
use Rattle.std.proofs.lemmas.Option.{same_Some}
use Rattle.gix_odb_events.specs.PackFiles.{same_path}
use Rattle.gix_odb_events.specs.declared.loaded.SnapshotIndex.{SnapshotIndex}
use Rattle.gix_odb_search.specs.InSlot.{at_path, pack_of}
use Rattle.gix_odb_search.specs.LoadOrder.{is_at}
use Rattle.gix_odb_search.specs.TryOrder.Pack.{pack_among, pack_in}
use Rattle.gix_odb_search.specs.declared.search.WantedPack.{WantedPack}
use Rattle.gix_odb_search.specs.declared.index_loader.IndexPlace.{IndexPlace}

contains_more : (x : SnapshotIndex) (list : List SnapshotIndex) (y : SnapshotIndex) → Contains list y → Contains (x ∷ list) y
contains_more x list y (k, within, is) = (suc k, omega arith, is)

module _ (place : IndexPlace) where
  abbrev of_slot : SnapshotIndex → Bool
  of_slot index = index.slot == place.slot

  -- the one of the slot isn't at the path, so none is
  none_behind : (x : SnapshotIndex) (list : List SnapshotIndex) → is_at place x ≡ false
      → ((y : SnapshotIndex) → Contains list y → y.slot ≡ place.slot → Some x ≡ Some y) → find (is_at place) list ≡ None
  none_behind x [] other only = refl
  none_behind x (y ∷ list) other only =
      cond-false (is_at place y) (Some y) (find (is_at place) list) (false_from_ne_true (is_at place y) no_other)
      ∙ none_behind x list other (λ z has. only z (contains_more y list z has))
    where
      no_other : is_at place y ≡ true → ⊥
      no_other is =
          let own : y.slot ≡ place.slot = eqb-true y.slot place.slot (and_parts (of_slot y) (same_path y.path place.path) is).0 in
          let same : x ≡ y = same_Some x y (only y (zero, omega arith, refl) own) in
          cc (sym other ∙ ap (is_at place) same ∙ is)

  same_at : (list : List SnapshotIndex) → ((index : SnapshotIndex) → Contains list index → index.slot ≡ place.slot → find of_slot list ≡ Some index)
      → at_path place (find of_slot list) ≡ find (is_at place) list
  same_at [] only = refl
  same_at (x ∷ list) only = by (of_slot x) refl (λ more. same_at list more)
    where
      behind : (b : Bool) → is_at place x ≡ b → of_slot x ≡ true → cond b (Some x) None ≡ cond b (Some x) (find (is_at place) list)
      behind true at own = refl
      behind false other own =
          sym (none_behind x list other (λ y has is. sym (cond-true (of_slot x) (Some x) (find of_slot list) own) ∙ only y (contains_more x list y has) is))

      by : (b : Bool) → of_slot x ≡ b
          → (((index : SnapshotIndex) → Contains list index → index.slot ≡ place.slot → find of_slot list ≡ Some index)
          → at_path place (find of_slot list) ≡ find (is_at place) list)
          → at_path place (cond b (Some x) (find of_slot list)) ≡ find (is_at place) (x ∷ list)
      by true own rest = behind (is_at place x) refl own
      by false other rest =
          rest (λ y has is. sym (cond-false (of_slot x) (Some x) (find of_slot list) other) ∙ only y (contains_more x list y has) is)
          ∙ sym (cond-false (is_at place x) (Some x) (find (is_at place) list) (ap (λ (b : Bool). b && same_path x.path place.path) other))

  pub found_at : (found : Option SnapshotIndex) (list : List SnapshotIndex) → found ≡ find (λ index. index.slot == place.slot) list
      → ((index : SnapshotIndex) → Contains list index → index.slot ≡ place.slot → found ≡ Some index) → at_path place found ≡ find (is_at place) list
  found_at found list is only = ap (at_path place) is ∙ same_at list (λ index has own. sym is ∙ only index has own)

module _ (pack : WantedPack) where
  pack_found : (list : List SnapshotIndex) → pack_of pack (find (λ (index : SnapshotIndex). index.slot == pack.slot) list) ≡ pack_in pack list
  pack_found [] = refl
  pack_found (x ∷ list) = by (x.slot == pack.slot) (find (λ (index : SnapshotIndex). index.slot == pack.slot) list) (pack_found list)
    where
      by : (b : Bool) (further : Option SnapshotIndex) → pack_of pack further ≡ pack_in pack list
          → pack_of pack (cond b (Some x) further) ≡ cond b (pack_among pack x.packs) (pack_in pack list)
      by true further rest = refl
      by false further rest = rest

  pub found_pack : (found : Option SnapshotIndex) (list : List SnapshotIndex) → found ≡ find (λ index. index.slot == pack.slot) list
      → pack_of pack found ≡ pack_in pack list
  found_pack found list is = ap (pack_of pack) is ∙ pack_found list
