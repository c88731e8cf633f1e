-- An event that publishes no listing leaves the list of a core, whether it was read, and in each slot the row that it holds.
use Rattle.std.proofs.Common.{◌≡◌, ◌⊎◌, inl, inr, ℕ, ◌+◌, ◌<◌, ◌≤◌, ◌==◌, nat_eq, Bool, true, false, cond, List, length, map, set, Option, Some, None, unwrap_or}
use Rattle.std.proofs.Common.{Ok, Err, refl, sym, ap, ◌∙◌, subst}
use Rattle.std.specs.List.{list_any}
use Rattle.std.proofs.lemmas.Bool.{cases_lt, eqb-true}
use Rattle.std.proofs.lemmas.Option.{slice_get_past}
use Rattle.odb_base.specs.Path.{Path}
use Rattle.gix_pack_read.specs.FileBytes.{FileBytes}
use Rattle.gix_odb_events.specs.Answers.{Answer}
use Rattle.gix_odb_events.specs.OnDiskFile.{file_at, passed, with_state}
use Rattle.gix_odb_events.specs.PackFiles.{same_path}
use Rattle.gix_odb_events.specs.Slots.{Slot, holds, is_index_of, slot_at}
use Rattle.gix_odb_events.specs.View.{last_state}
use Rattle.gix_odb_events.specs.declared.event.Event.{Event}
use Rattle.gix_odb_events.specs.declared.event.Event.TheVariants as events
use Rattle.gix_odb_events.specs.declared.event.Refusal.TheVariants as refusals
use Rattle.gix_odb_events.specs.declared.listing.Listing.{Listing}
use Rattle.gix_odb_events.specs.declared.listing.ListingRow.{ListingRow}
use Rattle.gix_odb_events.specs.declared.on_disk_file.FileState.TheVariants.{Loaded}
use Rattle.gix_odb_events.specs.declared.on_disk_file.OnDiskFile.{OnDiskFile}
use Rattle.gix_odb_events.specs.declared.slot.Filled.{Filled}
use Rattle.gix_odb_events.specs.declared.slot.IndexFile.{IndexFile}
use Rattle.gix_odb_events.specs.declared.slot.IndexFile.TheVariants.{Single, Multi}
use Rattle.gix_odb_core.specs.Files.{index_passed, index_with, passed_at, slot_passed, slot_with_index, slot_with_pack, stored_at, takes, with_index}
use Rattle.gix_odb_core.specs.Replay.{after_answer, after_entry}
use Rattle.gix_odb_core.specs.Steps.{after, shape_stored}
use Rattle.gix_odb_core.specs.declared.journal.Entry.{Entry}
use Rattle.gix_odb_core.specs.declared.shape.Shape.{Shape}
use Rattle.gix_odb_core.proofs.SlotsAfterLemmas.{slot_at-set_other, slot_at-set_same}

-- ---- a slot

-- a slot holds each row that another one held
abbrev HoldsStill : Slot → Slot → Type 0
HoldsStill before now = (row : ListingRow) → holds row before ≡ true → holds row now ≡ true

module _ (row : ListingRow) where
  -- a single index of the same path, and a multi-pack index of the same path and time
  same_single : (m : Option (List ℕ)) (before now : OnDiskFile FileBytes) (time : ℕ) → now.path ≡ before.path
      → is_index_of row m (Single now) time ≡ is_index_of row m (Single before) time
  same_single None before now time is = ap (λ (path : Path). same_path path row.path) is
  same_single (Some bytes) before now time is = refl

  passed_path : {A : Type 0} (path : Path) (file : OnDiskFile A) → (passed_at path file).path ≡ file.path
  passed_path {A = A} path file = by (same_path file.path path)
    where
      by : (b : Bool) → (cond b (with_state passed file) file).path ≡ file.path
      by true = refl
      by false = refl

  same_passed : (m : Option (List ℕ)) (path : Path) (index : IndexFile) (time : ℕ) → is_index_of row m (index_passed path index) time ≡ is_index_of row m index time
  same_passed m path (Single file) time = same_single m file (passed_at path file) time (passed_path path file)
  same_passed None path (Multi file) time = refl
  same_passed (Some bytes) path (Multi file) time =
      ap (λ (own : Path). is_index_of row (Some bytes) (Multi (record file { path = own })) time) (passed_path path file)

index_put : (path : Path) (bytes : FileBytes) (slot : Slot) (now : Filled) → slot_with_index path bytes slot ≡ Some now → HoldsStill slot (Some now)
index_put path bytes None now is row held = absurd (cc is)
index_put path bytes (Some filled) now is row held = by filled.index refl is
  where
    by : (index : IndexFile) → filled.index ≡ index → with_index filled (index_with path bytes index) ≡ Some now → holds row (Some now) ≡ true
    by (Multi file) at then = absurd (cc then)
    by (Single file) at then = single (takes path file) then
      where
        single : (b : Bool) → with_index filled (cond b (Some (Single (file_at file.path (Loaded bytes)))) None) ≡ Some now → holds row (Some now) ≡ true
        single true put =
            let same : ◌≡◌ {A = Filled} (record filled { index = Single (file_at file.path (Loaded bytes)) }) now = cc put in
            ap (λ (f : Filled). is_index_of row row.multi f.index f.time) (sym same)
            ∙ (same_single row row.multi file (file_at file.path (Loaded bytes)) filled.time refl
            ∙ (ap (λ (i : IndexFile). is_index_of row row.multi i filled.time) (sym at) ∙ held))
        single false put = absurd (cc put)

pack_put : (path : Path) (bytes : FileBytes) (slot : Slot) (now : Filled) → slot_with_pack path bytes slot ≡ Some now → HoldsStill slot (Some now)
pack_put path bytes None now is row held = absurd (cc is)
pack_put path bytes (Some filled) now is row held = by (list_any (takes path) filled.packs) is
  where
    by : (b : Bool) → cond b (Some (record filled { packs = map (stored_at path bytes) filled.packs })) None ≡ Some now → holds row (Some now) ≡ true
    by true put =
        let same : ◌≡◌ {A = Filled} (record filled { packs = map (stored_at path bytes) filled.packs }) now = cc put in
        ap (λ (f : Filled). is_index_of row row.multi f.index f.time) (sym same) ∙ held
    by false put = absurd (cc put)

passed_over : (path : Path) (slot : Slot) → HoldsStill slot (slot_passed path slot)
passed_over path None row held = held
passed_over path (Some filled) row held = same_passed row row.multi path filled.index filled.time ∙ held

-- ---- slots

-- one slot is set
set_holds : (slots : List Slot) (seat : ℕ) (new : Slot) → HoldsStill (slot_at slots seat) new → (place : ℕ) → HoldsStill (slot_at slots place) (slot_at (set slots seat new) place)
set_holds slots seat new keeps place row held = by (nat_eq place seat) refl (cases_lt seat (length slots))
  where
    by : (b : Bool) → nat_eq place seat ≡ b → (seat < length slots) ⊎ (length slots ≤ seat) → holds row (slot_at (set slots seat new) place) ≡ true
    by true is (inl within) =
        let here : seat ≡ place = sym (eqb-true place seat is) in
        subst (λ (k : ℕ). holds row (slot_at (set slots seat new) k) ≡ true) here
        (ap (holds row) (slot_at-set_same slots seat new within) ∙ keeps row (subst (λ (k : ℕ). holds row (slot_at slots k) ≡ true) (sym here) held))
    by true is (inr past) =
        let beyond : length slots ≤ place = subst (λ (k : ℕ). length slots ≤ k) (sym (eqb-true place seat is)) past in
        let none : slot_at slots place ≡ None = ap (λ (o : Option Slot). unwrap_or o None) (slice_get_past slots place beyond) in
        let wrong : false ≡ true = sym (ap (holds row) none) ∙ held in
        absurd (cc wrong)
    by false is within = ap (holds row) (slot_at-set_other slots seat place new is) ∙ held

-- ---- an event

-- the list, whether it was read, and the rows of slots
pub record IsAsBefore (shape now : Shape) : Type 0 where
  pub list : now.list ≡ shape.list
  pub read : now.read ≡ shape.read
  pub rows : (place : ℕ) → HoldsStill (slot_at shape.slots place) (slot_at now.slots place)

stored : (shape : Shape) (seat : ℕ) (filled : Option Filled) → ((now : Filled) → filled ≡ Some now → HoldsStill (slot_at shape.slots seat) (Some now))
    → IsAsBefore shape (shape_stored shape seat filled)
stored shape seat None keeps = record { list = refl; read = refl; rows = λ place row held. held }
stored shape seat (Some now) keeps = by (shape.state_id == last_state)
  where
    by : (b : Bool) → IsAsBefore shape (cond b shape (record shape { slots = set shape.slots seat (Some now); state_id = shape.state_id + 1 }))
    by true = record { list = refl; read = refl; rows = λ place row held. held }
    by false = record { list = refl; read = refl; rows = set_holds shape.slots seat (Some now) (keeps now refl) }

pub other_events_leave_the_list : (shape : Shape) (seat : ℕ) (happens : Event) → ((listing : Listing) → ¬ (happens ≡ events.Publish listing))
    → IsAsBefore shape (after shape seat happens)
other_events_leave_the_list shape seat (events.Register stable) none = record { list = refl; read = refl; rows = λ place row held. held }
other_events_leave_the_list shape seat events.Upgrade none = record { list = refl; read = refl; rows = λ place row held. held }
other_events_leave_the_list shape seat events.Remove none = record { list = refl; read = refl; rows = λ place row held. held }
other_events_leave_the_list shape seat events.Look none = record { list = refl; read = refl; rows = λ place row held. held }
other_events_leave_the_list shape seat events.Report none = record { list = refl; read = refl; rows = λ place row held. held }
other_events_leave_the_list shape seat (events.PutIndex slot path file) none =
    stored shape slot (slot_with_index path file (slot_at shape.slots slot)) (index_put path file (slot_at shape.slots slot))
other_events_leave_the_list shape seat (events.PutPack pack path file) none =
    stored shape pack.index (slot_with_pack path file (slot_at shape.slots pack.index)) (pack_put path file (slot_at shape.slots pack.index))
other_events_leave_the_list shape seat (events.PassOver slot path why) none =
    record {
      list = refl;
      read = refl;
      rows = set_holds shape.slots slot (slot_passed path (slot_at shape.slots slot)) (passed_over path (slot_at shape.slots slot));
    }
other_events_leave_the_list shape seat (events.Publish listing) none = absurd (none listing refl)

-- ---- an entry

-- what holds of a shape before and after an event holds after its entry, which changes nothing where memory ran out
pub entry_gives : (P : Shape → Type 0) (shape : Shape) (entry : Entry) → P shape → P (after shape entry.seat entry.event) → P (after_entry shape entry)
entry_gives P shape entry same changed = by entry.answer
  where
    by : (answer : Answer) → P (after_answer shape entry answer)
    by (Ok effect) = changed
    by (Err refusals.NoMemory) = same
    by (Err refusals.GenerationOverflow) = changed
    by (Err (refusals.InsufficientSlots current needed)) = changed
