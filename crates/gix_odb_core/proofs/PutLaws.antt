-- Laws of files that are put: a stored index or pack is in its slot with its path and bytes, and the view shows it.
use Rattle.std.proofs.Common.{Contains, ◌≡◌, ℕ, zero, ◌+◌, Bool, true, false, ◌||◌, not, cond, List, [], ◌∷◌, map, set, Option, Some, None, Ok, refl, sym, ap, subst, ◌∙◌, arith}
use Rattle.std.specs.List.{list_any}
use Rattle.std.proofs.lemmas.Bool.{and_parts, not-true}
use Rattle.odb_base.specs.Path.{Path}
use Rattle.gix_pack_read.specs.FileBytes.{FileBytes}
use Rattle.gix_odb_events.specs.View.{IsShown}
use Rattle.gix_odb_events.specs.OnDiskFile.{file_at, is_loaded, stored, with_state}
use Rattle.gix_odb_events.specs.Slots.{slot_at, Slot}
use Rattle.gix_odb_core.specs.Replay.{answer_of}
use Rattle.gix_odb_events.specs.PackFiles.{PackFile, same_path}
use Rattle.gix_odb_core.specs.Steps.{after, shape_stored}
use Rattle.gix_odb_core.specs.Files.{index_with, slot_with_index, slot_with_pack, stored_at, takes, with_index}
use Rattle.gix_odb_events.specs.Shown.{shown_slot}
use Rattle.gix_odb_events.specs.declared.event.Effect.TheVariants as effects
use Rattle.gix_odb_events.specs.declared.event.Event.TheVariants as event
use Rattle.gix_odb_core.specs.declared.journal.Entry.{Entry}
use Rattle.gix_odb_events.specs.declared.on_disk_file.FileState.{FileState}
use Rattle.gix_odb_events.specs.declared.on_disk_file.FileState.TheVariants.{Unloaded, Loaded, Garbage, Missing}
use Rattle.gix_odb_events.specs.declared.pack_id.PackId.{PackId}
use Rattle.gix_odb_core.specs.declared.shape.Shape.{Shape}
use Rattle.gix_odb_events.specs.declared.slot.Filled.{Filled}
use Rattle.gix_odb_events.specs.declared.slot.IndexFile.{IndexFile}
use Rattle.gix_odb_events.specs.declared.slot.IndexFile.TheVariants.{Single, Multi}
use Rattle.gix_odb_events.specs.declared.loaded.LoadedIndex.TheVariants as shown
use Rattle.gix_odb_events.specs.declared.view.View.{View}
use Rattle.gix_odb_core.proofs.AnswerLemmas.{stored_by, stored_in}
use Rattle.gix_odb_core.proofs.ShownLemmas.{contains_more, shown_by}
use Rattle.gix_odb_events.proofs.SamePathLaws.{same_path-true}
use Rattle.gix_odb_core.proofs.SlotsAfterLemmas.{filled_within, slot_at-set_same}

-- ---- an index

-- a slot in which an index is stored has the index's path and bytes
index_of-with : (path : Path) (file : FileBytes) (slot : Slot) (now : Filled) → slot_with_index path file slot ≡ Some now
    → (old : Filled) × (slot ≡ Some old) × (now.index ≡ Single (file_at path (Loaded file)))
index_of-with path file None now is = absurd cc
index_of-with path file (Some old) now is = by old.index is
  where
    by : (index : IndexFile) → with_index old (index_with path file index) ≡ Some now → (before : Filled) × (Some old ≡ Some before) × (now.index ≡ Single (file_at path (Loaded file)))
    by (Multi one) is = absurd cc
    by (Single one) is = at (takes path one) refl is
      where
        at : (b : Bool) → takes path one ≡ b → with_index old (cond b (Some (Single (file_at one.path (Loaded file)))) None) ≡ Some now
            → (before : Filled) × (Some old ≡ Some before) × (now.index ≡ Single (file_at path (Loaded file)))
        at true takes_it is =
            let here : one.path ≡ path = same_path-true one.path path (and_parts _ _ takes_it).0 in
            let same : ◌≡◌ {A = Filled} (record old { index = Single (file_at one.path (Loaded file)) }) now = cc in
            (old, refl, sym (ap (λ (f : Filled). f.index) same) ∙ ap (λ (p : Path). Single (file_at p (Loaded file))) here)
        at false takes_it is = absurd cc

-- what was stored at a place is there
stored_there : (shape : Shape) (slot : ℕ) (old now : Filled) → slot_at shape.slots slot ≡ Some old
    → shape_stored shape slot (Some now) ≡ record shape { slots = set shape.slots slot (Some now); state_id = shape.state_id + 1 } → slot_at (shape_stored shape slot (Some now)).slots slot ≡ Some now
stored_there shape slot old now was is =
    ap (λ (s : Shape). slot_at s.slots slot) is ∙ slot_at-set_same shape.slots slot (Some now) (filled_within shape.slots slot old was)

module _ (past : List Entry) (shape : Shape) (number seat : ℕ) (view : View) where
  -- a stored index is in its slot, with its path and bytes
  pub stored_index_is_in_its_slot : (slot : ℕ) (path : Path) (file : FileBytes) → answer_of past shape number seat (event.PutIndex slot path file) ≡ Ok (effects.Put view true)
      → (filled : Filled) × (slot_at (after shape seat (event.PutIndex slot path file)).slots slot ≡ Some filled) × (filled.index ≡ Single (file_at path (Loaded file)))
  stored_index_is_in_its_slot slot path file is =
      let it = stored_by shape (after shape seat (event.PutIndex slot path file)) number slot (slot_with_index path file (slot_at shape.slots slot)) view (ap stored_in is) in
      let of = index_of-with path file (slot_at shape.slots slot) it.holds it.is in
      let put : shape_stored shape slot (Some it.holds) ≡ record shape { slots = set shape.slots slot (Some it.holds); state_id = shape.state_id + 1 } =
      subst (λ (o : Option Filled). shape_stored shape slot o ≡ record shape { slots = set shape.slots slot (Some it.holds); state_id = shape.state_id + 1 }) it.is it.then in
      (it.holds, ap (λ (o : Option Filled). slot_at (shape_stored shape slot o).slots slot) it.is ∙ stored_there shape slot of.0 it.holds of.1 put, of.2)

  -- and the view that the event returns shows it
  pub stored_index_is_shown : (slot : ℕ) (path : Path) (file : FileBytes) → answer_of past shape number seat (event.PutIndex slot path file) ≡ Ok (effects.Put view true)
      → (packs : List PackFile) × IsShown view (record { slot = slot; path = path; index = shown.Single file; packs = packs })
  stored_index_is_shown slot path file is =
      let it = stored_by shape (after shape seat (event.PutIndex slot path file)) number slot (slot_with_index path file (slot_at shape.slots slot)) view (ap stored_in is) in
      let there = stored_index_is_in_its_slot slot path file is in (
        there.0.packs,
        subst (λ (v : View). IsShown v (record { slot = slot; path = path; index = shown.Single file; packs = there.0.packs })) (sym it.shows)
            (shown_by (after shape seat (event.PutIndex slot path file)) number slot there.0 (record { slot = slot; path = path; index = shown.Single file; packs = there.0.packs }) there.1
            (λ i. shown_slot slot (Some (record there.0 { index = there.2 i })))),
      )

-- ---- a pack

-- a pack that takes the file has it then
stored_pack : (path : Path) (file : FileBytes) (packs : List PackFile) → list_any (takes path) packs ≡ true → Contains (map (stored_at path file) packs) (file_at path (Loaded file))
stored_pack path file [] any = absurd cc
stored_pack path file (pack ∷ packs) any = by (takes path pack) refl any (stored_pack path file packs)
  where
    unread : (state : FileState FileBytes) → is_loaded state ≡ false → stored file state ≡ Loaded file
    unread Unloaded is = refl
    unread (Loaded old) is = absurd cc
    unread (Garbage old) is = absurd cc
    unread Missing is = refl

    this : takes path pack ≡ true → stored_at path file pack ≡ file_at path (Loaded file)
    this takes_it =
        let parts = and_parts (same_path pack.path path) (not (is_loaded pack.state)) takes_it in
        let here : pack.path ≡ path = same_path-true pack.path path parts.0 in
        let state : stored file pack.state ≡ Loaded file = unread pack.state (not-true (is_loaded pack.state) parts.1) in
        ap (λ (b : Bool). cond b (with_state (stored file) pack) pack) parts.0 ∙ (λ i. file_at (here i) (state i))

    by : (b : Bool) → takes path pack ≡ b → (b || list_any (takes path) packs) ≡ true
        → (list_any (takes path) packs ≡ true → Contains (map (stored_at path file) packs) (file_at path (Loaded file)))
        → Contains (stored_at path file pack ∷ map (stored_at path file) packs) (file_at path (Loaded file))
    by true is any rest = (zero, omega arith, this is)
    by false is any rest = contains_more (stored_at path file pack) (map (stored_at path file) packs) (file_at path (Loaded file)) (rest any)

pack_of-with : (path : Path) (file : FileBytes) (slot : Slot) (now : Filled) → slot_with_pack path file slot ≡ Some now
    → (old : Filled) × (slot ≡ Some old) × Contains now.packs (file_at path (Loaded file))
pack_of-with path file None now is = absurd cc
pack_of-with path file (Some old) now is = by (list_any (takes path) old.packs) refl is
  where
    by : (b : Bool) → list_any (takes path) old.packs ≡ b → cond b (Some (record old { packs = map (stored_at path file) old.packs })) None ≡ Some now
        → (before : Filled) × (Some old ≡ Some before) × Contains now.packs (file_at path (Loaded file))
    by true any is =
        let same : ◌≡◌ {A = Filled} (record old { packs = map (stored_at path file) old.packs }) now = cc in
        (old, refl, subst (λ (f : Filled). Contains f.packs (file_at path (Loaded file))) same (stored_pack path file old.packs any))
    by false any is = absurd cc

-- a stored pack is among those of its slot, with its path and bytes
pub stored_pack_is_in_its_slot : (past : List Entry) (shape : Shape) (number seat : ℕ) (view : View) (pack : PackId) (path : Path) (file : FileBytes)
    → answer_of past shape number seat (event.PutPack pack path file) ≡ Ok (effects.Put view true)
    → (filled : Filled) × (slot_at (after shape seat (event.PutPack pack path file)).slots pack.index ≡ Some filled) × Contains filled.packs (file_at path (Loaded file))
stored_pack_is_in_its_slot past shape number seat view pack path file is =
    let it = stored_by shape (after shape seat (event.PutPack pack path file)) number pack.index (slot_with_pack path file (slot_at shape.slots pack.index)) view (ap stored_in is) in
    let of = pack_of-with path file (slot_at shape.slots pack.index) it.holds it.is in
    let put : shape_stored shape pack.index (Some it.holds) ≡ record shape { slots = set shape.slots pack.index (Some it.holds); state_id = shape.state_id + 1 } =
    subst (λ (o : Option Filled). shape_stored shape pack.index o ≡ record shape { slots = set shape.slots pack.index (Some it.holds); state_id = shape.state_id + 1 }) it.is it.then in
    (it.holds, ap (λ (o : Option Filled). slot_at (shape_stored shape pack.index o).slots pack.index) it.is ∙ stored_there shape pack.index of.0 it.holds of.1 put, of.2)
