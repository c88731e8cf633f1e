-- Laws of shapes: the invariant of the shape that a core is made with, kept by every event that can happen.
use Rattle.std.proofs.Common.{◌≡◌, ℕ, ◌+◌, ◌<◌, ◌≤◌, true, false, ◌&&◌, nat_eq, zero, suc, List, [], ◌∷◌, ◌++◌}
use Rattle.std.proofs.Common.{get_or, replicate, set, Option, Some, None, is_some, inl, inr, refl, sym, ap, subst, ◌∙◌, arith}
use Rattle.std.specs.List.{AllPass, IsDistinct, filter_map}
use Rattle.std.proofs.lemmas.List.Elements.{All-from_recursion, All-nil, recursion_from_All}
use Rattle.gix_odb_core.specs.Handles.{is_any_stable}
use Rattle.gix_odb_events.specs.OnDiskFile.{is_loaded, loaded}
use Rattle.gix_odb_core.specs.Possible.{IsOpened, IsPossible}
use Rattle.gix_odb_events.specs.Slots.{slot_at, IsApart, Slot, new_filled, new_index, same_index}
use Rattle.gix_odb_core.specs.Replay.{CanHappen, after_entry, replay}
use Rattle.gix_odb_events.specs.PackFiles.{same_path, HasDifferentPaths}
use Rattle.gix_odb_core.specs.Steps.{IsShape, after, is_read, opening_shape, shape_published}
use Rattle.gix_odb_core.specs.Files.{slot_passed, slot_with_index, slot_with_pack}
use Rattle.gix_odb_events.specs.declared.event.Event.{Event}
use Rattle.gix_odb_events.specs.declared.event.Event.TheVariants as event
use Rattle.gix_odb_core.specs.declared.journal.Entry.{Entry}
use Rattle.gix_odb_events.specs.declared.listing.Listing.{Listing}
use Rattle.gix_odb_events.specs.declared.listing.ListingRow.{ListingRow}
use Rattle.gix_odb_events.specs.declared.on_disk_file.FileState.{FileState}
use Rattle.gix_odb_events.specs.declared.on_disk_file.FileState.TheVariants.{Unloaded, Loaded, Garbage, Missing}
use Rattle.gix_odb_core.specs.declared.shape.Shape.{Shape}
use Rattle.gix_odb_events.specs.declared.slot.Filled.{Filled}
use Rattle.gix_odb_events.specs.declared.slot.IndexFile.{IndexFile}
use Rattle.gix_odb_events.specs.declared.slot.IndexFile.TheVariants.{Single, Multi}
use Rattle.gix_odb_core.proofs.ApartLaws.{publish_keeps_slots_apart}
use Rattle.gix_odb_core.proofs.ApartLemmas.{apart_at, apart_from, each_at, each_from}
use Rattle.gix_odb_core.proofs.PublishLaws.{IsDistinct-list_after, listed_slots_are_filled}
use Rattle.gix_odb_core.proofs.SameIndexLemmas.{same_filled, same_filled_flip}
use Rattle.gix_odb_core.proofs.SlotTurnLemmas.{CameFrom, SlotTurn, came_from, confirmed_list_is_the_same, entry_gives, publish_gives, publish_turns, set_turn, slots_by, stored_gives}
use Rattle.gix_odb_core.proofs.SlotsAfterLemmas.{slot_at-get_or}
use Rattle.gix_odb_core.proofs.FileStepLemmas.{FilledStep, IndexStep, SlotStep, slot-passed, slot-same, slot-with_index, slot-with_pack}

-- ---- what a step keeps of a slot

-- it holds the same index
alike : (happens : Event) (place : ℕ) (before after other : Filled) → FilledStep happens place before after → same_filled after other ≡ same_filled before other
alike happens place before after other step = by before.index after.index other.index before.time after.time step.index step.time
  where
    by : (b a o : IndexFile) (then now : ℕ) → IndexStep happens place b a → now ≡ then → same_index a now o other.time ≡ same_index b then o other.time
    by (Single b) (Single a) (Single o) then now is time = λ i. same_path (is.path i) o.path
    by (Single b) (Single a) (Multi o) then now is time = refl
    by (Multi b) (Multi a) (Single o) then now is time = refl
    by (Multi b) (Multi a) (Multi o) then now is time = λ i. same_path (is.path i) o.path && nat_eq (time i) other.time
    by (Single b) (Multi a) o then now is time = absurd is
    by (Multi b) (Single a) o then now is time = absurd is

module _ {A : Type 0} where
  read_file : (state : FileState A) → is_loaded state ≡ true → (file : A) × (loaded state ≡ Some file)
  read_file Unloaded is = absurd cc
  read_file (Loaded file) is = (file, refl)
  read_file (Garbage file) is = (file, refl)
  read_file Missing is = absurd cc

  is_loaded-from : (state : FileState A) (file : A) → loaded state ≡ Some file → is_loaded state ≡ true
  is_loaded-from Unloaded file is = absurd cc
  is_loaded-from (Loaded old) file is = refl
  is_loaded-from (Garbage old) file is = refl
  is_loaded-from Missing file is = absurd cc

-- a multi-index stays read
stays_read : (happens : Event) (place : ℕ) (before after : Filled) → FilledStep happens place before after → is_read before.index ≡ true → is_read after.index ≡ true
stays_read happens place before after step = by before.index after.index step.index
  where
    by : (b a : IndexFile) → IndexStep happens place b a → is_read b ≡ true → is_read a ≡ true
    by (Single b) (Single a) is read = refl
    by (Multi b) (Multi a) is read = let had = read_file b.state read in is_loaded-from a.state had.0 (is.state.kept had.0 had.1)
    by (Single b) (Multi a) is read = absurd is
    by (Multi b) (Single a) is read = absurd is

stays_filled : (happens : Event) (place : ℕ) (before after : Slot) → SlotStep happens place before after → is_some before ≡ true → is_some after ≡ true
stays_filled happens place None None step is = is
stays_filled happens place (Some before) (Some after) step is = refl
stays_filled happens place None (Some after) step is = absurd step
stays_filled happens place (Some before) None step is = absurd step

-- ---- slots that all take a step

module _ (happens : Event) (slots now : List Slot) (steps : (place : ℕ) → SlotStep happens place (slot_at slots place) (slot_at now place)) where
  was : (place : ℕ) (filled : Filled) → slot_at now place ≡ Some filled → (old : Filled) × (slot_at slots place ≡ Some old) × FilledStep happens place old filled
  was place filled is = by (slot_at slots place) (subst (SlotStep happens place (slot_at slots place)) is (steps place))
    where
      by : (slot : Slot) → SlotStep happens place slot (Some filled) → (old : Filled) × (slot ≡ Some old) × FilledStep happens place old filled
      by None step = absurd step
      by (Some old) step = (old, refl, step)

  apart-steps : IsApart slots → IsApart now
  apart-steps apart = apart_from same_filled now (λ i j one other order is its. by i j one other order (was i one is) (was j other its))
    where
      by : (i j : ℕ) (one other : Filled) → i < j → (old : Filled) × (slot_at slots i ≡ Some old) × FilledStep happens i old one
          → (old : Filled) × (slot_at slots j ≡ Some old) × FilledStep happens j old other → same_filled one other ≡ false
      by i j one other order (old, is, step) (older, its, turn) =
          alike happens i old one other step
          ∙ same_filled_flip other old (alike happens j older other old turn ∙ same_filled_flip old older (apart_at same_filled slots apart i j old older order is its))

  multis-steps : AllPass (λ filled. is_read filled.index) (filter_map (λ slot. slot) slots) → AllPass (λ filled. is_read filled.index) (filter_map (λ slot. slot) now)
  multis-steps read =
      All-from_recursion (λ (filled : Filled). is_read filled.index ≡ true) (filter_map (λ slot. slot) now)
      (each_from (λ filled. is_read filled.index ≡ true) now (λ place filled is. by place filled (was place filled is)))
    where
      by : (place : ℕ) (filled : Filled) → (old : Filled) × (slot_at slots place ≡ Some old) × FilledStep happens place old filled → is_read filled.index ≡ true
      by place filled (old, is, step) =
          stays_read happens place old filled step
          (each_at (λ f. is_read f.index ≡ true) slots (recursion_from_All (λ (f : Filled). is_read f.index ≡ true) (filter_map (λ slot. slot) slots) read) place old is)

  listed-steps : (list : List ℕ) → AllPass (λ place. is_some (slot_at slots place)) list → AllPass (λ place. is_some (slot_at now place)) list
  listed-steps list filled k d within = stays_filled happens (get_or list k d) (slot_at slots (get_or list k d)) (slot_at now (get_or list k d)) (steps (get_or list k d)) (filled k d within)

-- a shape whose slots take a step and whose state number doesn't fall
shape-steps : (happens : Event) (shape : Shape) (now : List Slot) (state : ℕ) → IsShape shape → ((place : ℕ) → SlotStep happens place (slot_at shape.slots place) (slot_at now place))
    → shape.state_id ≤ state → IsShape (record shape { slots = now; state_id = state })
shape-steps happens shape now state is steps order =
    record {
      apart = apart-steps happens shape.slots now steps is.apart;
      listed = listed-steps happens shape.slots now steps shape.list is.listed;
      distinct = is.distinct;
      multis = multis-steps happens shape.slots now steps is.multis;
      numbered = let below = is.numbered in omega arith;
    }

-- ---- slots after a publish

module _ (shape : Shape) (listing : Listing) (is : IsShape shape) where
  new_is_read : (row : ListingRow) → is_read (new_index row.path row.multi) ≡ true
  new_is_read row = by row.multi
    where
      by : (multi : Option (List ℕ)) → is_read (new_index row.path multi) ≡ true
      by None = refl
      by (Some multi) = refl

  multis-publish : AllPass (λ filled. is_read filled.index) (filter_map (λ slot. slot) (slots_by shape listing.rows))
  multis-publish =
      All-from_recursion (λ (filled : Filled). is_read filled.index ≡ true) (filter_map (λ slot. slot) (slots_by shape listing.rows))
      (each_from (λ filled. is_read filled.index ≡ true) (slots_by shape listing.rows) (λ place filled at. by place filled
      (came_from shape (event.Publish listing) place (slot_at shape.slots place) filled
      (subst (SlotTurn shape (event.Publish listing) place (slot_at shape.slots place)) at (publish_turns shape listing place)))))
    where
      by : (place : ℕ) (filled : Filled)
          → CameFrom shape (event.Publish listing) place filled
          → is_read filled.index ≡ true
      by place filled (inl taken) =
          let same : filled ≡ new_filled taken.row = (let h = taken.holds_it in cc) in
          subst (λ (f : Filled). is_read f.index ≡ true) (sym same) (new_is_read taken.row)
      by place filled (inr (old, at, step)) =
          stays_read (event.Publish listing) place old filled step
          (each_at (λ f. is_read f.index ≡ true) shape.slots (recursion_from_All (λ (f : Filled). is_read f.index ≡ true) (filter_map (λ slot. slot) shape.slots) is.multis) place old at)

  publish_is_shape : HasDifferentPaths listing.rows → IsShape (after shape 0 (event.Publish listing))
  publish_is_shape differ =
      publish_gives (λ p. IsShape (shape_published shape p)) shape listing is (λ _. is) is
      (λ room confirmed. record {
        apart = publish_keeps_slots_apart (is_any_stable shape.handles) listing.rows shape.slots shape.list differ is.apart;
        listed =
            subst (λ list. AllPass (λ place. is_some (slot_at (slots_by shape listing.rows) place)) list) (confirmed_list_is_the_same shape listing.rows confirmed)
            (listed_slots_are_filled listing.rows (slots_by shape listing.rows));
        distinct = is.distinct;
        multis = multis-publish;
        numbered = is.numbered;
      })
      (λ room confirmed. record {
        apart = publish_keeps_slots_apart (is_any_stable shape.handles) listing.rows shape.slots shape.list differ is.apart;
        listed = listed_slots_are_filled listing.rows (slots_by shape listing.rows);
        distinct = IsDistinct-list_after listing.rows (slots_by shape listing.rows) differ;
        multis = multis-publish;
        numbered = let below = is.numbered in omega arith;
      })

-- ---- the laws

none : (count place : ℕ) → ◌≡◌ {A = Slot} (get_or (replicate count None) place None) None
none zero place = refl
none (suc count) zero = refl
none (suc count) (suc place) = none count place

opening_slots_are_empty : (count place : ℕ) → slot_at (replicate count None) place ≡ None
opening_slots_are_empty count place = slot_at-get_or (replicate count None) place ∙ none count place

pub opened_slots_are_empty : (opening : Shape) → IsOpened opening → (place : ℕ) → slot_at opening.slots place ≡ None
opened_slots_are_empty opening opened place = ap (λ (s : Shape). slot_at s.slots place) opened.is ∙ opening_slots_are_empty opened.slots place

-- the invariant of every shape holds of the one that a core is made with
pub opening_shape_is_a_shape : (slots folders generation state : ℕ) → IsShape (opening_shape slots folders generation state)
unfolding IsDistinct
opening_shape_is_a_shape slots folders generation state =
    record {
      apart = apart_from same_filled (replicate slots None) (λ i j one other order is its. let no = sym (opening_slots_are_empty slots i) ∙ is in absurd cc);
      listed = All-nil (λ (place : ℕ). is_some (slot_at (replicate slots None) place) ≡ true);
      distinct = tt;
      multis = All-from_recursion (λ (f : Filled). is_read f.index ≡ true) (filter_map (λ slot. slot) (replicate slots None))
          (each_from (λ f. is_read f.index ≡ true) (replicate slots None) (λ place filled is. let no = sym (opening_slots_are_empty slots place) ∙ is in absurd cc));
      numbered = omega arith;
    }

-- and is kept by each event that can happen
pub event_keeps_a_shape : (shape : Shape) (seat : ℕ) (happens : Event) → CanHappen shape seat happens → IsShape shape → IsShape (after shape seat happens)
event_keeps_a_shape shape seat (event.Register stable) can is = record { apart = is.apart; listed = is.listed; distinct = is.distinct; multis = is.multis; numbered = is.numbered }
event_keeps_a_shape shape seat event.Upgrade can is = record { apart = is.apart; listed = is.listed; distinct = is.distinct; multis = is.multis; numbered = is.numbered }
event_keeps_a_shape shape seat event.Remove can is = record { apart = is.apart; listed = is.listed; distinct = is.distinct; multis = is.multis; numbered = is.numbered }
event_keeps_a_shape shape seat event.Look can is = is
event_keeps_a_shape shape seat event.Report can is = is
event_keeps_a_shape shape seat (event.PutIndex slot path file) can is =
    stored_gives IsShape shape slot (slot_with_index path file (slot_at shape.slots slot)) is
    (λ now at. shape-steps (event.PutIndex slot path file) shape (set shape.slots slot (Some now)) (shape.state_id + 1) is
    (set_turn (SlotStep (event.PutIndex slot path file)) (slot-same (event.PutIndex slot path file)) shape.slots slot (Some now)
    (slot-with_index (event.PutIndex slot path file) slot path file refl (slot_at shape.slots slot) now at))
    (omega arith))
event_keeps_a_shape shape seat (event.PutPack pack path file) can is =
    stored_gives IsShape shape pack.index (slot_with_pack path file (slot_at shape.slots pack.index)) is
    (λ now at. shape-steps (event.PutPack pack path file) shape (set shape.slots pack.index (Some now)) (shape.state_id + 1) is
    (set_turn (SlotStep (event.PutPack pack path file)) (slot-same (event.PutPack pack path file)) shape.slots pack.index (Some now)
    (slot-with_pack (event.PutPack pack path file) pack.index path file (pack, refl, refl) (slot_at shape.slots pack.index) now at))
    (omega arith))
event_keeps_a_shape shape seat (event.PassOver slot path why) can is =
    shape-steps (event.PassOver slot path why) shape (set shape.slots slot (slot_passed path (slot_at shape.slots slot))) shape.state_id is
    (set_turn (SlotStep (event.PassOver slot path why)) (slot-same (event.PassOver slot path why)) shape.slots slot (slot_passed path (slot_at shape.slots slot))
    (slot-passed (event.PassOver slot path why) slot path (why, refl) (slot_at shape.slots slot)))
    (omega arith)
event_keeps_a_shape shape seat (event.Publish listing) can is = publish_is_shape shape listing is can

-- so it holds of every shape that a journal replays to, where its events could happen
pub replay_keeps_a_shape : (entries : List Entry) (shape : Shape) → IsPossible shape entries → IsShape shape → IsShape (replay shape entries)
replay_keeps_a_shape [] shape possible is = is
replay_keeps_a_shape (entry ∷ entries) shape possible is =
    replay_keeps_a_shape entries (after_entry shape entry) possible.1 (entry_gives IsShape shape entry is (event_keeps_a_shape shape entry.seat entry.event possible.0 is))

pub journal_comes_to_a_shape : (opening : Shape) → IsOpened opening → (entries : List Entry) → IsPossible opening entries → IsShape (replay opening entries)
journal_comes_to_a_shape opening opened entries possible =
    replay_keeps_a_shape entries opening possible (subst IsShape (sym opened.is) (opening_shape_is_a_shape opened.slots opened.folders opened.generation opened.state))

-- one event more that can happen
pub possible_journal_grows : (entries : List Entry) (shape : Shape) (entry : Entry) → IsPossible shape entries → CanHappen (replay shape entries) entry.seat entry.event
    → IsPossible shape (entries ++ entry ∷ [])
possible_journal_grows [] shape entry possible can = (can, tt)
possible_journal_grows (first ∷ entries) shape entry possible can = (possible.0, possible_journal_grows entries (after_entry shape first) entry possible.1 can)

-- a journal that is possible, from one of its shapes on
pub possible_journal_splits : (past later : List Entry) (shape : Shape) → IsPossible shape (past ++ later) → IsPossible shape past × IsPossible (replay shape past) later
possible_journal_splits [] later shape possible = (tt, possible)
possible_journal_splits (entry ∷ past) later shape possible = let rest = possible_journal_splits past later (after_entry shape entry) possible.1 in ((possible.0, rest.0), rest.1)
