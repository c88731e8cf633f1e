-- Laws of garbage: a slot with garbage is never listed, and its index is shown among the kept.
use Rattle.std.proofs.Common.{Contains, ◌≡◌, ℕ, Bool, true, false, cond, nat_eq, List, [], ◌∷◌, map, set, Some, None, refl, sym, ap, subst, ◌∙◌}
use Rattle.std.specs.List.{list_any}
use Rattle.std.proofs.lemmas.Bool.{or_from, or_parts}
use Rattle.odb_base.specs.Path.{Path}
use Rattle.gix_pack_read.specs.FileBytes.{FileBytes}
use Rattle.gix_odb_core.specs.Handles.{is_any_stable}
use Rattle.gix_odb_core.specs.Misses.{has_garbage, is_garbage, is_index_garbage}
use Rattle.gix_odb_events.specs.OnDiskFile.{file_at, is_disposable, passed, stored, with_state}
use Rattle.gix_odb_core.specs.Possible.{IsOpened}
use Rattle.gix_odb_events.specs.Slots.{slot_at, Slot, has_disposable, is_index_disposable}
use Rattle.gix_odb_core.specs.Replay.{after_entry, replay}
use Rattle.gix_odb_events.specs.PackFiles.{PackFile, same_path}
use Rattle.gix_odb_core.specs.Steps.{after, shape_published}
use Rattle.gix_odb_core.specs.Files.{index_passed, index_with, passed_at, slot_passed, slot_with_index, slot_with_pack, stored_at, takes, with_index}
use Rattle.gix_odb_events.specs.Shown.{is_listed, shown_slot}
use Rattle.gix_odb_core.specs.Views.{view_of}
use Rattle.gix_odb_events.specs.declared.event.Event.{Event}
use Rattle.gix_odb_events.specs.declared.event.Event.TheVariants as event
use Rattle.gix_odb_core.specs.declared.journal.Entry.{Entry}
use Rattle.gix_odb_events.specs.declared.on_disk_file.FileState.{FileState}
use Rattle.gix_odb_events.specs.declared.on_disk_file.FileState.TheVariants.{Unloaded, Loaded, Garbage, Missing}
use Rattle.gix_odb_events.specs.declared.on_disk_file.OnDiskFile.{OnDiskFile}
use Rattle.gix_odb_core.specs.declared.shape.Shape.{Shape}
use Rattle.gix_odb_events.specs.declared.slot.Filled.{Filled}
use Rattle.gix_odb_events.specs.declared.slot.IndexFile.{IndexFile}
use Rattle.gix_odb_events.specs.declared.slot.IndexFile.TheVariants.{Single, Multi}
use Rattle.gix_odb_events.specs.declared.loaded.SnapshotIndex.{SnapshotIndex}
use Rattle.gix_odb_core.proofs.DisposableLaws.{listed_slot_has_no_disposable}
use Rattle.gix_odb_core.proofs.ShownLemmas.{shown_unlisted}
use Rattle.gix_odb_core.proofs.SlotTurnLemmas.{confirmed_list_is_the_same, entry_gives, list_by, publish_gives, set_turn, slots_by, stored_gives}

-- ---- what makes no garbage

module _ {A : Type 0} where
  none-stored : (new : A) (state : FileState A) → is_garbage state ≡ false → is_garbage (stored new state) ≡ false
  none-stored new Unloaded clean = refl
  none-stored new (Loaded old) clean = refl
  none-stored new (Garbage old) clean = absurd cc
  none-stored new Missing clean = refl

  none-passed : (state : FileState A) → is_garbage state ≡ false → is_garbage (passed state) ≡ false
  none-passed Unloaded clean = refl
  none-passed (Loaded old) clean = refl
  none-passed (Garbage old) clean = absurd cc
  none-passed Missing clean = refl

  none-disposable : (state : FileState A) → is_disposable state ≡ false → is_garbage state ≡ false
  none-disposable Unloaded kept = refl
  none-disposable (Loaded old) kept = refl
  none-disposable (Garbage old) kept = absurd cc
  none-disposable Missing kept = absurd cc

  none-stored_at : (path : Path) (new : A) (file : OnDiskFile A) → is_garbage file.state ≡ false → is_garbage (stored_at path new file).state ≡ false
  none-stored_at path new file clean = by (same_path file.path path)
    where
      by : (b : Bool) → is_garbage (cond b (with_state (stored new) file) file).state ≡ false
      by true = none-stored new file.state clean
      by false = clean

  none-passed_at : (path : Path) (file : OnDiskFile A) → is_garbage file.state ≡ false → is_garbage (passed_at path file).state ≡ false
  none-passed_at path file clean = by (same_path file.path path)
    where
      by : (b : Bool) → is_garbage (cond b (with_state passed file) file).state ≡ false
      by true = none-passed file.state clean
      by false = clean

  none-each : (change : OnDiskFile A → OnDiskFile A) → ((file : OnDiskFile A) → is_garbage file.state ≡ false → is_garbage (change file).state ≡ false)
      → (files : List (OnDiskFile A)) → list_any (λ file. is_garbage file.state) files ≡ false → list_any (λ file. is_garbage file.state) (map change files) ≡ false
  none-each change keeps [] clean = refl
  none-each change keeps (file ∷ files) clean =
      let parts = or_parts (is_garbage file.state) (list_any (λ f. is_garbage f.state) files) clean in
      or_from (is_garbage (change file).state) (list_any (λ f. is_garbage f.state) (map change files)) (keeps file parts.0) (none-each change keeps files parts.1)

  none-disposables : (files : List (OnDiskFile A)) → list_any (λ file. is_disposable file.state) files ≡ false → list_any (λ file. is_garbage file.state) files ≡ false
  none-disposables [] kept = refl
  none-disposables (file ∷ files) kept =
      let parts = or_parts (is_disposable file.state) (list_any (λ f. is_disposable f.state) files) kept in
      or_from (is_garbage file.state) (list_any (λ f. is_garbage f.state) files) (none-disposable file.state parts.0) (none-disposables files parts.1)

-- a slot without garbage
abbrev IsClean : Slot → Type 0
IsClean None = Unit {0}
IsClean (Some filled) = has_garbage filled ≡ false

clean_parts : (filled : Filled) → has_garbage filled ≡ false → (is_index_garbage filled.index ≡ false) × (list_any (λ (p : PackFile). is_garbage p.state) filled.packs ≡ false)
clean_parts filled clean = or_parts (is_index_garbage filled.index) (list_any (λ (p : PackFile). is_garbage p.state) filled.packs) clean

clean-undisposable : (filled : Filled) → has_disposable filled ≡ false → has_garbage filled ≡ false
clean-undisposable filled kept =
    let parts = or_parts (is_index_disposable filled.index) (list_any (λ (p : PackFile). is_disposable p.state) filled.packs) kept in
    or_from (is_index_garbage filled.index) (list_any (λ (p : PackFile). is_garbage p.state) filled.packs) (by filled.index parts.0) (none-disposables filled.packs parts.1)
  where
    by : (index : IndexFile) → is_index_disposable index ≡ false → is_index_garbage index ≡ false
    by (Single file) kept = none-disposable file.state kept
    by (Multi file) kept = none-disposable file.state kept

clean-passed : (path : Path) (slot : Slot) → IsClean slot → IsClean (slot_passed path slot)
clean-passed path None clean = tt
clean-passed path (Some filled) clean =
    let parts = clean_parts filled clean in
    or_from (is_index_garbage (index_passed path filled.index)) (list_any (λ (p : PackFile). is_garbage p.state) (map (passed_at path) filled.packs)) (by filled.index parts.0)
    (none-each (passed_at path) (none-passed_at path) filled.packs parts.1)
  where
    by : (index : IndexFile) → is_index_garbage index ≡ false → is_index_garbage (index_passed path index) ≡ false
    by (Single file) clean = none-passed_at path file clean
    by (Multi file) clean = none-passed_at path file clean

clean-with_pack : (path : Path) (new : FileBytes) (slot : Slot) (now : Filled) → slot_with_pack path new slot ≡ Some now → IsClean slot → has_garbage now ≡ false
clean-with_pack path new None now is clean = absurd cc
clean-with_pack path new (Some filled) now is clean = by (list_any (takes path) filled.packs) is
  where
    it : has_garbage (record filled { packs = map (stored_at path new) filled.packs }) ≡ false
    it =
        let parts = clean_parts filled clean in
        or_from (is_index_garbage filled.index) (list_any (λ (p : PackFile). is_garbage p.state) (map (stored_at path new) filled.packs)) parts.0
        (none-each (stored_at path new) (none-stored_at path new) filled.packs parts.1)

    by : (b : Bool) → cond b (Some (record filled { packs = map (stored_at path new) filled.packs })) None ≡ Some now → has_garbage now ≡ false
    by true is = let same : ◌≡◌ {A = Filled} (record filled { packs = map (stored_at path new) filled.packs }) now = cc in subst (λ (f : Filled). has_garbage f ≡ false) same it
    by false is = absurd cc

clean-with_index : (path : Path) (new : FileBytes) (slot : Slot) (now : Filled) → slot_with_index path new slot ≡ Some now → IsClean slot → has_garbage now ≡ false
clean-with_index path new None now is clean = absurd cc
clean-with_index path new (Some filled) now is clean = by filled.index is
  where
    by : (index : IndexFile) → with_index filled (index_with path new index) ≡ Some now → has_garbage now ≡ false
    by (Multi file) is = absurd cc
    by (Single file) is = at (takes path file) is
      where
        at : (b : Bool) → with_index filled (cond b (Some (Single (file_at file.path (Loaded new)))) None) ≡ Some now → has_garbage now ≡ false
        at true is =
            let same : ◌≡◌ {A = Filled} (record filled { index = Single (file_at file.path (Loaded new)) }) now = cc in
            subst (λ (f : Filled). has_garbage f ≡ false) same (clean_parts filled clean).1
        at false is = absurd cc

-- ---- shapes

-- no listed slot has garbage
abbrev pub AreListedClean : Shape → Type 0
AreListedClean shape = (place : ℕ) → is_listed shape.list place ≡ true → IsClean (slot_at shape.slots place)

clean-set : (shape : Shape) (seat : ℕ) (new : Slot) → (IsClean (slot_at shape.slots seat) → IsClean new) → AreListedClean shape → (place : ℕ) → is_listed shape.list place ≡ true
    → IsClean (slot_at (set shape.slots seat new) place)
clean-set shape seat new keeps clean place listed =
    set_turn (λ _ before now. IsClean before → IsClean now) (λ _ slot is. is) shape.slots seat new keeps place (clean place listed)

-- no event makes garbage of a listed slot
pub event_keeps_listed_slots_clean : (shape : Shape) (seat : ℕ) (happens : Event) → AreListedClean shape → AreListedClean (after shape seat happens)
event_keeps_listed_slots_clean shape seat (event.Register stable) clean = clean
event_keeps_listed_slots_clean shape seat event.Upgrade clean = clean
event_keeps_listed_slots_clean shape seat event.Remove clean = clean
event_keeps_listed_slots_clean shape seat event.Look clean = clean
event_keeps_listed_slots_clean shape seat event.Report clean = clean
event_keeps_listed_slots_clean shape seat (event.PutIndex slot path file) clean =
    stored_gives AreListedClean shape slot (slot_with_index path file (slot_at shape.slots slot)) clean
    (λ now is. clean-set shape slot (Some now) (clean-with_index path file (slot_at shape.slots slot) now is) clean)
event_keeps_listed_slots_clean shape seat (event.PutPack pack path file) clean =
    stored_gives AreListedClean shape pack.index (slot_with_pack path file (slot_at shape.slots pack.index)) clean
    (λ now is. clean-set shape pack.index (Some now) (clean-with_pack path file (slot_at shape.slots pack.index) now is) clean)
event_keeps_listed_slots_clean shape seat (event.PassOver slot path why) clean =
    clean-set shape slot (slot_passed path (slot_at shape.slots slot)) (clean-passed path (slot_at shape.slots slot)) clean
event_keeps_listed_slots_clean shape seat (event.Publish listing) clean =
    publish_gives (λ p. AreListedClean (shape_published shape p)) shape listing clean (λ _. clean) clean
    (λ _ confirmed place listed. settled place (ap (λ (l : List ℕ). list_any (nat_eq place) l) (confirmed_list_is_the_same shape listing.rows confirmed) ∙ listed))
    (λ _ _ place listed. settled place listed)
  where
    settled : (place : ℕ) → is_listed (list_by shape listing.rows) place ≡ true → IsClean (slot_at (slots_by shape listing.rows) place)
    settled place listed = by (slot_at (slots_by shape listing.rows) place) refl
      where
        by : (slot : Slot) → slot_at (slots_by shape listing.rows) place ≡ slot → IsClean slot
        by None is = tt
        by (Some filled) is = clean-undisposable filled (listed_slot_has_no_disposable (is_any_stable shape.handles) listing.rows shape.slots shape.list place filled is listed)

pub entries_keep_listed_slots_clean : (entries : List Entry) (shape : Shape) → AreListedClean shape → AreListedClean (replay shape entries)
entries_keep_listed_slots_clean [] shape clean = clean
entries_keep_listed_slots_clean (entry ∷ entries) shape clean =
    entries_keep_listed_slots_clean entries (after_entry shape entry) (entry_gives AreListedClean shape entry clean (event_keeps_listed_slots_clean shape entry.seat entry.event clean))

module _ (opening : Shape) (opened : IsOpened opening) (entries : List Entry) where
  -- a slot with garbage is not listed
  pub garbage_is_never_listed : (place : ℕ) (filled : Filled) → slot_at (replay opening entries).slots place ≡ Some filled → has_garbage filled ≡ true
      → is_listed (replay opening entries).list place ≡ false
  garbage_is_never_listed place filled is garbage = by (is_listed (replay opening entries).list place) refl
    where
      first : AreListedClean opening
      first = subst AreListedClean (sym opened.is) (λ place listed. absurd cc)

      by : (b : Bool) → is_listed (replay opening entries).list place ≡ b → b ≡ false
      by true listed =
          let clean : has_garbage filled ≡ false = subst IsClean is (entries_keep_listed_slots_clean entries opening first place listed) in
          let wrong : true ≡ false = sym garbage ∙ clean in
          absurd cc
      by false unlisted = refl

  -- what was read of its index is shown among the kept
  pub garbage_is_kept : (place : ℕ) (filled : Filled) → slot_at (replay opening entries).slots place ≡ Some filled → has_garbage filled ≡ true → (number : ℕ) (index : SnapshotIndex)
      → shown_slot place (Some filled) ≡ Some index → Contains (view_of (replay opening entries) number).snapshot.kept index
  garbage_is_kept place filled is garbage number index shows = shown_unlisted (replay opening entries) number place filled index is shows (garbage_is_never_listed place filled is garbage)
