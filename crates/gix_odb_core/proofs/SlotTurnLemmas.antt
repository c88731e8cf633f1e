-- How an event changes a slot: the event takes a step on it, a new row takes it over, or it is emptied.
use Rattle.std.proofs.Common.{Contains, ◌≡◌, ℕ, ◌<◌, ◌≤◌, Bool, true, false, cond, not, ◌==◌, nat_eq, nat_lt, List, length, set}
use Rattle.std.proofs.Common.{Option, Some, None, Ok, Err, unwrap_or, ◌+◌, ◌-◌, ◌⊎◌, inl, inr, refl, sym, ap, subst, ◌∙◌, length-set}
use Rattle.std.proofs.lemmas.Bool.{and_parts, cases_lt, eq-eqb, eqb-true, ltb-false}
use Rattle.std.proofs.lemmas.Option.{slice_get_past}
use lib.Pointwise.{pointwise_decides}
use Rattle.gix_odb_core.specs.Handles.{is_any_stable}
use Rattle.gix_odb_core.specs.Publish.{free_places, is_free, is_kept, list_after, new_rows, settled, slots_after, taken}
use Rattle.gix_odb_events.specs.Slots.{slot_at, Slot, filled_put_back, filled_trashed, new_filled}
use Rattle.gix_odb_core.specs.Replay.{after_answer, after_entry}
use Rattle.gix_odb_events.specs.Answers.{Answer}
use Rattle.gix_odb_core.specs.Steps.{Publishing, Outdated, TooFew, Overflows, Unchanged, Published, after, is_confirmed}
use Rattle.gix_odb_events.specs.View.{last_state}
use Rattle.gix_odb_core.specs.Steps.{publishing, shape_published, shape_stored, takes_over, with_list, with_room, would_overflow}
use Rattle.gix_odb_core.specs.Files.{slot_passed, slot_with_index, slot_with_pack}
use Rattle.gix_odb_events.specs.declared.event.Event.{Event}
use Rattle.gix_odb_events.specs.declared.event.Event.TheVariants as event
use Rattle.gix_odb_events.specs.declared.event.Refusal.TheVariants as refusals
use Rattle.gix_odb_core.specs.declared.journal.Entry.{Entry}
use Rattle.gix_odb_events.specs.declared.listing.Listing.{Listing}
use Rattle.gix_odb_events.specs.declared.listing.ListingRow.{ListingRow}
use Rattle.gix_odb_core.specs.declared.shape.Shape.{Shape}
use Rattle.gix_odb_events.specs.declared.slot.Filled.{Filled}
use Rattle.gix_odb_core.proofs.SlotsAfterLemmas.{seated, slot_at-set_other, slot_at-set_same, slots_after-at, length-slots_after, taken_free, taken_listed}
use Rattle.gix_odb_core.proofs.FileStepLemmas.{FilledStep, SlotStep, filled-put_back, filled-trashed, slot-passed, slot-same, slot-with_index, slot-with_pack}
use Rattle.gix_odb_core.proofs.TakenLemmas.{taker}

-- ---- the outcomes of publishing

-- the slots and the list after a listing, if there is room
abbrev pub slots_by : Shape → List ListingRow → List Slot
slots_by shape rows = slots_after (is_any_stable shape.handles) rows shape.slots shape.list

abbrev pub list_by : Shape → List ListingRow → List ℕ
list_by shape rows = list_after rows (slots_by shape rows)

abbrev pub renewed_by : Shape → List ListingRow → Bool
renewed_by shape rows = takes_over shape.slots (taken (is_any_stable shape.handles) rows shape.slots shape.list)

abbrev pub HasRoom : Shape → List ListingRow → Type 0
HasRoom shape rows = length (new_rows shape.slots rows) ≤ length (free_places (is_any_stable shape.handles) rows shape.slots shape.list)

-- a property of each outcome of publishing a listing is a property of the outcome
pub publish_gives : (P : Publishing → Type 0) (shape : Shape) (listing : Listing)
    → P Outdated → ((needed : ℕ) → P (TooFew needed)) → P Overflows
    → (HasRoom shape listing.rows → is_confirmed shape listing.rows (list_by shape listing.rows) ≡ true → P (Unchanged (record shape { slots = slots_by shape listing.rows })))
    → (HasRoom shape listing.rows → is_confirmed shape listing.rows (list_by shape listing.rows) ≡ false
    → P (Published (with_list shape (slots_by shape listing.rows) (list_by shape listing.rows) (renewed_by shape listing.rows))))
    → P (publishing shape listing)
publish_gives P shape listing outdated few overflows unchanged published =
    by (not (listing.base == shape.list_no)) (nat_lt free news) refl
  where
    free : ℕ
    free = length (free_places (is_any_stable shape.handles) listing.rows shape.slots shape.list)

    news : ℕ
    news = length (new_rows shape.slots listing.rows)

    settles : HasRoom shape listing.rows → P (with_room shape listing.rows)
    settles room =
        at (would_overflow shape (is_confirmed shape listing.rows (list_by shape listing.rows)) (renewed_by shape listing.rows)) (is_confirmed shape listing.rows (list_by shape listing.rows)) refl
      where
        at : (over confirmed : Bool) → is_confirmed shape listing.rows (list_by shape listing.rows) ≡ confirmed
            → P (cond over Overflows (cond confirmed (Unchanged (record shape { slots = slots_by shape listing.rows }))
            (Published (with_list shape (slots_by shape listing.rows) (list_by shape listing.rows) (renewed_by shape listing.rows)))))
        at true confirmed is = overflows
        at false true is = unchanged room is
        at false false is = published room is

    by : (newer less : Bool) → nat_lt free news ≡ less → P (cond newer Outdated (cond less (TooFew (news - free)) (with_room shape listing.rows)))
    by true less is = outdated
    by false true is = few (news - free)
    by false false is = settles (ltb-false free news is)

-- a list that is confirmed is the one after the listing
pub confirmed_list_is_the_same : (shape : Shape) (rows : List ListingRow) → is_confirmed shape rows (list_by shape rows) ≡ true → list_by shape rows ≡ shape.list
confirmed_list_is_the_same shape rows confirmed = (pointwise_decides (λ a b. (eqb-true a b, eq-eqb a b)) (list_by shape rows) shape.list).0 (and_parts _ _ (and_parts _ _ confirmed).0).1

-- ---- a slot

-- a new row of a listing takes a free slot
pub record IsTakenBy (shape : Shape) (happens : Event) (before now : Slot) : Type 0 where
  pub listing : Listing
  pub row : ListingRow
  pub publishes : happens ≡ event.Publish listing
  pub listed : Contains listing.rows row
  pub free : is_free (is_any_stable shape.handles) listing.rows before ≡ true
  pub holds_it : now ≡ Some (new_filled row)

-- a listing has no row of it, and no handle is stable
pub record IsLetGoBy (shape : Shape) (happens : Event) (now : Slot) : Type 0 where
  pub listing : Listing
  pub publishes : happens ≡ event.Publish listing
  pub unstable : is_any_stable shape.handles ≡ false
  pub empty : now ≡ None

abbrev pub SlotTurn : Shape → Event → ℕ → Slot → Slot → Type 0
SlotTurn shape happens place before now = SlotStep happens place before now ⊎ IsTakenBy shape happens before now ⊎ IsLetGoBy shape happens now

-- beyond the slots there is nothing
pub slot_at-past : (slots : List Slot) (place : ℕ) → length slots ≤ place → slot_at slots place ≡ None
slot_at-past slots place past = ap (λ (o : Option Slot). unwrap_or o None) (slice_get_past slots place past)

-- one slot is set
pub set_turn : (P : ℕ → Slot → Slot → Type 0) → ((place : ℕ) (slot : Slot) → P place slot slot) → (slots : List Slot) (seat : ℕ) (new : Slot) → P seat (slot_at slots seat) new
    → (place : ℕ) → P place (slot_at slots place) (slot_at (set slots seat new) place)
set_turn P same slots seat new step place = by (nat_eq place seat) refl (cases_lt seat (length slots))
  where
    by : (b : Bool) → nat_eq place seat ≡ b → (seat < length slots) ⊎ (length slots ≤ seat) → P place (slot_at slots place) (slot_at (set slots seat new) place)
    by true is (inl within) =
        let here : seat ≡ place = sym (eqb-true place seat is) in
        subst (λ k. P k (slot_at slots k) (slot_at (set slots seat new) k)) here (subst (P seat (slot_at slots seat)) (sym (slot_at-set_same slots seat new within)) step)
    by true is (inr past) =
        let here : seat ≡ place = sym (eqb-true place seat is) in
        let both : slot_at slots seat ≡ slot_at (set slots seat new) seat = slot_at-past slots seat past ∙ sym (slot_at-past (set slots seat new) seat (rw (length-set slots seat new) past)) in
        subst (λ k. P k (slot_at slots k) (slot_at (set slots seat new) k)) here (subst (P seat (slot_at slots seat)) both (same seat (slot_at slots seat)))
    by false is within = subst (P place (slot_at slots place)) (sym (slot_at-set_other slots seat place new is)) (same place (slot_at slots place))

-- a publish
module _ (shape : Shape) (listing : Listing) where
  abbrev publishes : Event
  publishes = event.Publish listing

  settles : (place : ℕ) (slot : Slot) → SlotTurn shape publishes place slot (settled (is_any_stable shape.handles) listing.rows slot)
  settles place None = inl tt
  settles place (Some filled) = by (is_kept listing.rows (Some filled)) (is_any_stable shape.handles) refl
    where
      by : (kept stable : Bool) → is_any_stable shape.handles ≡ stable
          → SlotTurn shape publishes place (Some filled) (cond kept (Some (filled_put_back filled)) (cond stable (Some (filled_trashed filled)) None))
      by true stable is = inl (filled-put_back publishes place filled)
      by false true is = inl (filled-trashed publishes place filled)
      by false false is = inr (inr (record { listing = listing; publishes = refl; unstable = is; empty = refl }))

  pub publish_turns : (place : ℕ) → SlotTurn shape publishes place (slot_at shape.slots place) (slot_at (slots_by shape listing.rows) place)
  publish_turns place = by (cases_lt place (length shape.slots))
    where
      stable : Bool
      stable = is_any_stable shape.handles

      at : (o : Option ListingRow) → taker (taken stable listing.rows shape.slots shape.list) place ≡ o
          → SlotTurn shape publishes place (slot_at shape.slots place) (seated o (settled stable listing.rows (slot_at shape.slots place)))
      at None is = settles place (slot_at shape.slots place)
      at (Some row) is = inr (inl (record {
        listing = listing;
        row = row;
        publishes = refl;
        listed = taken_listed stable listing.rows shape.slots shape.list place row is;
        free = taken_free stable listing.rows shape.slots shape.list place row is;
        holds_it = refl;
      }))

      by : (place < length shape.slots) ⊎ (length shape.slots ≤ place) → SlotTurn shape publishes place (slot_at shape.slots place) (slot_at (slots_by shape listing.rows) place)
      by (inl within) =
          subst (SlotTurn shape publishes place (slot_at shape.slots place)) (sym (slots_after-at stable listing.rows shape.slots shape.list place within))
          (at (taker (taken stable listing.rows shape.slots shape.list) place) refl)
      by (inr past) =
          let both : slot_at shape.slots place ≡ slot_at (slots_by shape listing.rows) place =
          slot_at-past shape.slots place past ∙ sym (slot_at-past (slots_by shape listing.rows) place (rw (length-slots_after stable listing.rows shape.slots shape.list) past)) in
          subst (SlotTurn shape publishes place (slot_at shape.slots place)) both (inl (slot-same publishes place (slot_at shape.slots place)))

-- ---- the whole

stores : (shape : Shape) (happens : Event) (seat : ℕ) (filled : Option Filled) → ((now : Filled) → filled ≡ Some now → SlotStep happens seat (slot_at shape.slots seat) (Some now))
    → (place : ℕ) → SlotStep happens place (slot_at shape.slots place) (slot_at (shape_stored shape seat filled).slots place)
stores shape happens seat None step place = slot-same happens place (slot_at shape.slots place)
stores shape happens seat (Some now) step place = by (shape.state_id == last_state)
  where
    by : (b : Bool) → SlotStep happens place (slot_at shape.slots place) (slot_at (cond b shape (record shape { slots = set shape.slots seat (Some now); state_id = shape.state_id + 1 })).slots place)
    by true = slot-same happens place (slot_at shape.slots place)
    by false = set_turn (SlotStep happens) (slot-same happens) shape.slots seat (Some now) (step now refl) place

-- the change of each slot
pub slot_turns : (shape : Shape) (seat : ℕ) (happens : Event) (place : ℕ) → SlotTurn shape happens place (slot_at shape.slots place) (slot_at (after shape seat happens).slots place)
slot_turns shape seat (event.Register stable) place = inl (slot-same (event.Register stable) place (slot_at shape.slots place))
slot_turns shape seat event.Upgrade place = inl (slot-same event.Upgrade place (slot_at shape.slots place))
slot_turns shape seat event.Remove place = inl (slot-same event.Remove place (slot_at shape.slots place))
slot_turns shape seat event.Look place = inl (slot-same event.Look place (slot_at shape.slots place))
slot_turns shape seat event.Report place = inl (slot-same event.Report place (slot_at shape.slots place))
slot_turns shape seat (event.PutIndex slot path file) place =
    inl (stores shape (event.PutIndex slot path file) slot (slot_with_index path file (slot_at shape.slots slot))
    (slot-with_index (event.PutIndex slot path file) slot path file refl (slot_at shape.slots slot)) place)
slot_turns shape seat (event.PutPack pack path file) place =
    inl (stores shape (event.PutPack pack path file) pack.index (slot_with_pack path file (slot_at shape.slots pack.index))
    (slot-with_pack (event.PutPack pack path file) pack.index path file (pack, refl, refl) (slot_at shape.slots pack.index)) place)
slot_turns shape seat (event.PassOver slot path why) place =
    inl (set_turn (SlotStep (event.PassOver slot path why)) (slot-same (event.PassOver slot path why)) shape.slots slot (slot_passed path (slot_at shape.slots slot))
    (slot-passed (event.PassOver slot path why) slot path (why, refl) (slot_at shape.slots slot)) place)
slot_turns shape seat (event.Publish listing) place =
    publish_gives (λ p. SlotTurn shape (event.Publish listing) place (slot_at shape.slots place) (slot_at (shape_published shape p).slots place)) shape listing
    same (λ _. same) same (λ _ _. publish_turns shape listing place) (λ _ _. publish_turns shape listing place)
  where
    same : SlotTurn shape (event.Publish listing) place (slot_at shape.slots place) (slot_at shape.slots place)
    same = inl (slot-same (event.Publish listing) place (slot_at shape.slots place))

-- a slot that is filled afterwards was taken by a new row, or took a step
pub came_from : (shape : Shape) (happens : Event) (place : ℕ) (before : Slot) (now : Filled) → SlotTurn shape happens place before (Some now)
    → IsTakenBy shape happens before (Some now) ⊎ ((old : Filled) × (before ≡ Some old) × FilledStep happens place old now)
came_from shape happens place None now (inl step) = absurd step
came_from shape happens place (Some old) now (inl step) = inr (old, refl, step)
came_from shape happens place before now (inr (inl taken)) = inl taken
came_from shape happens place before now (inr (inr gone)) = let none = gone.empty in absurd cc

abbrev pub CameFrom : Shape → Event → ℕ → Filled → Type 0
CameFrom shape happens place now =
    IsTakenBy shape happens (slot_at shape.slots place) (Some now) ⊎ ((old : Filled) × (slot_at shape.slots place ≡ Some old) × FilledStep happens place old now)

pub filled_came_from : (shape : Shape) (seat : ℕ) (happens : Event) (place : ℕ) (now : Filled) → slot_at (after shape seat happens).slots place ≡ Some now → CameFrom shape happens place now
filled_came_from shape seat happens place now is =
    came_from shape happens place (slot_at shape.slots place) now (subst (SlotTurn shape happens place (slot_at shape.slots place)) is (slot_turns shape seat happens place))

-- a property of a shape before and after an event is one after its entry
pub entry_gives : (P : Shape → Type 0) (shape : Shape) (entry : Entry) → P shape → P (after shape entry.seat entry.event) → P (after_entry shape entry)
entry_gives P shape entry same changed = by entry.answer
  where
    by : (answer : Answer) → P (after_answer shape entry answer)
    by (Ok effect) = changed
    by (Err refusals.NoMemory) = same
    by (Err refusals.GenerationOverflow) = changed
    by (Err (refusals.InsufficientSlots current needed)) = changed

pub entry_cases : (P : Shape → Type 0) (shape : Shape) (entry : Entry) → P shape → ((entry.answer ≡ Err refusals.NoMemory → ⊥) → P (after shape entry.seat entry.event)) → P (after_entry shape entry)
entry_cases P shape entry same changed = by entry.answer changed
  where
    by : (answer : Answer) → ((answer ≡ Err refusals.NoMemory → ⊥) → P (after shape entry.seat entry.event)) → P (after_answer shape entry answer)
    by (Ok effect) then = then (λ h. cc)
    by (Err refusals.NoMemory) then = same
    by (Err refusals.GenerationOverflow) then = then (λ h. cc)
    by (Err (refusals.InsufficientSlots current needed)) then = then (λ h. cc)

-- a property of a shape, also with a file that is stored, is one after the event that stores it
pub stored_gives : (P : Shape → Type 0) (shape : Shape) (seat : ℕ) (filled : Option Filled) → P shape
    → ((now : Filled) → filled ≡ Some now → P (record shape { slots = set shape.slots seat (Some now); state_id = shape.state_id + 1 })) → P (shape_stored shape seat filled)
stored_gives P shape seat None same changed = same
stored_gives P shape seat (Some now) same changed = by (shape.state_id == last_state)
  where
    by : (b : Bool) → P (cond b shape (record shape { slots = set shape.slots seat (Some now); state_id = shape.state_id + 1 }))
    by true = same
    by false = changed now refl
