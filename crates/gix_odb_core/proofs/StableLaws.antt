-- Laws of stable handles: what is loaded while a handle is stable stays loaded until it is removed, whatever happens.
use Rattle.std.proofs.Common.{◌≡◌, ℕ, ◌<◌, true, false, ◌&&◌, not, nat_eq, List, [], ◌∷◌, length, get_or, Option, Some, None, option_map, inl, inr, refl, sym, ap, subst, ◌∙◌, arith}
use Rattle.std.specs.List.{AllZip}
use Rattle.std.proofs.lemmas.Bool.{not-true}
use Rattle.std.proofs.lemmas.List.Elements.{All-head, All-tail, AllZip-get_or, length_all_zip}
use Rattle.odb_base.specs.Path.{Path}
use Rattle.gix_pack_read.specs.FileBytes.{FileBytes}
use Rattle.gix_odb_core.specs.Handles.{is_any_stable, registered}
use Rattle.gix_odb_core.specs.Views.{view_of}
use Rattle.gix_odb_events.specs.View.{IsShown}
use Rattle.gix_odb_core.specs.Kept.{KeepsRead, KeepsReadFiles, KeepsReadIndex, ShowsAgain}
use Rattle.gix_odb_events.specs.OnDiskFile.{loaded}
use Rattle.gix_odb_core.specs.Possible.{IsNeverRemoved, IsPossible, is_remove}
use Rattle.gix_odb_core.specs.Publish.{is_kept}
use Rattle.gix_odb_events.specs.Slots.{slot_at, Slot, index_path}
use Rattle.gix_odb_core.specs.Replay.{after_entry, replay}
use Rattle.gix_odb_events.specs.PackFiles.{PackFile}
use Rattle.gix_odb_core.specs.Steps.{after}
use Rattle.gix_odb_events.specs.Shown.{loaded_index, shown_slot}
use Rattle.gix_odb_events.specs.declared.event.Event.{Event}
use Rattle.gix_odb_core.specs.declared.journal.Entry.{Entry}
use Rattle.gix_odb_events.specs.declared.on_disk_file.OnDiskFile.{OnDiskFile}
use Rattle.gix_odb_core.specs.declared.shape.Shape.{Shape}
use Rattle.gix_odb_events.specs.declared.slot.Filled.{Filled}
use Rattle.gix_odb_events.specs.declared.slot.IndexFile.{IndexFile}
use Rattle.gix_odb_events.specs.declared.slot.IndexFile.TheVariants.{Single, Multi}
use Rattle.gix_odb_events.specs.declared.loaded.LoadedIndex.{LoadedIndex}
use Rattle.gix_odb_events.specs.declared.loaded.LoadedIndex.TheVariants as shown
use Rattle.gix_odb_events.specs.declared.loaded.SnapshotIndex.{SnapshotIndex}
use Rattle.gix_odb_core.proofs.HandleLemmas.{stable-after, stable_handle}
use Rattle.gix_odb_core.proofs.ShownLemmas.{shown_by, shown_from}
use Rattle.gix_odb_core.proofs.SlotTurnLemmas.{SlotTurn, entry_gives, slot_turns}
use Rattle.gix_odb_core.proofs.FileStepLemmas.{FileStep, FilledStep, IndexStep}

-- ---- what keeps what was read

module _ {A : Type 0} where
  same_file : (file : OnDiskFile A) → KeepsRead file file
  same_file file = record { path = refl; bytes = λ bytes is. is }

  then_file : (one two three : OnDiskFile A) → KeepsRead one two → KeepsRead two three → KeepsRead one three
  then_file one two three first next = record { path = next.path ∙ first.path; bytes = λ bytes is. next.bytes bytes (first.bytes bytes is) }

  same_files : (files : List (OnDiskFile A)) → AllZip KeepsRead files files
  same_files [] = tt
  same_files (file ∷ files) = (same_file file, same_files files)

  then_files : (ones twos threes : List (OnDiskFile A)) → AllZip KeepsRead ones twos → AllZip KeepsRead twos threes → AllZip KeepsRead ones threes
  then_files [] [] [] first next = tt
  then_files (one ∷ ones) (two ∷ twos) (three ∷ threes) first next = (then_file one two three first.0 next.0, then_files ones twos threes first.1 next.1)
  then_files [] [] (three ∷ threes) first next = absurd next
  then_files [] (two ∷ twos) threes first next = absurd first
  then_files (one ∷ ones) [] threes first next = absurd first
  then_files (one ∷ ones) (two ∷ twos) [] first next = absurd next

  step_file : (puts : Path → A → Type 0) (passes : Path → Type 0) (before after : OnDiskFile A) → FileStep puts passes before after → KeepsRead before after
  step_file puts passes before after step = record { path = step.path; bytes = step.state.kept }

  step_files : (puts : Path → A → Type 0) (passes : Path → Type 0) (before after : List (OnDiskFile A)) → AllZip (FileStep puts passes) before after → AllZip KeepsRead before after
  step_files puts passes [] [] steps = tt
  step_files puts passes (one ∷ before) (two ∷ after) steps = (step_file puts passes one two steps.0, step_files puts passes before after steps.1)
  step_files puts passes [] (two ∷ after) steps = absurd steps
  step_files puts passes (one ∷ before) [] steps = absurd steps

pub slot_keeps_itself : (filled : Filled) → KeepsReadFiles filled filled
slot_keeps_itself filled = record { index = by filled.index; time = refl; packs = same_files filled.packs }
  where
    by : (index : IndexFile) → KeepsReadIndex index index
    by (Single file) = same_file file
    by (Multi file) = same_file file

pub slot_keeps_on : (one two three : Filled) → KeepsReadFiles one two → KeepsReadFiles two three → KeepsReadFiles one three
slot_keeps_on one two three first next =
    record { index = by one.index two.index three.index first.index next.index; time = next.time ∙ first.time; packs = then_files one.packs two.packs three.packs first.packs next.packs }
  where
    by : (a b c : IndexFile) → KeepsReadIndex a b → KeepsReadIndex b c → KeepsReadIndex a c
    by (Single a) (Single b) (Single c) first next = then_file a b c first next
    by (Multi a) (Multi b) (Multi c) first next = then_file a b c first next
    by (Single a) (Multi b) c first next = absurd first
    by (Multi a) (Single b) c first next = absurd first
    by (Single a) (Single b) (Multi c) first next = absurd next
    by (Multi a) (Multi b) (Single c) first next = absurd next

step_keeps : (happens : Event) (place : ℕ) (before after : Filled) → FilledStep happens place before after → KeepsReadFiles before after
step_keeps happens place before after step = record { index = by before.index after.index step.index; time = step.time; packs = step_files _ _ before.packs after.packs step.packs }
  where
    by : (b a : IndexFile) → IndexStep happens place b a → KeepsReadIndex b a
    by (Single b) (Single a) is = step_file _ _ b a is
    by (Multi b) (Multi a) is = step_file _ _ b a is
    by (Single b) (Multi a) is = absurd is
    by (Multi b) (Single a) is = absurd is

-- ---- a slot

-- a filled slot at this place keeps what was read
abbrev pub StaysFilled : Filled → ℕ → Shape → Type 0
StaysFilled before place shape = (now : Filled) × (slot_at shape.slots place ≡ Some now) × KeepsReadFiles before now

-- while a handle is stable, each event leaves each filled slot with its index, and with what was read of its files
pub stable_event_keeps_each_slot : (shape : Shape) (seat : ℕ) (happens : Event) → is_any_stable shape.handles ≡ true → (place : ℕ) (before : Filled) → slot_at shape.slots place ≡ Some before
    → StaysFilled before place (after shape seat happens)
stable_event_keeps_each_slot shape seat happens stable place before was =
    by (slot_at (after shape seat happens).slots place) refl
    (subst (λ (s : Slot). SlotTurn shape happens place s (slot_at (after shape seat happens).slots place)) was (slot_turns shape seat happens place))
  where
    by : (now : Slot) → slot_at (after shape seat happens).slots place ≡ now → SlotTurn shape happens place (Some before) now → StaysFilled before place (after shape seat happens)
    by None is (inl step) = absurd step
    by (Some now) is (inl step) = (now, is, step_keeps happens place before now step)
    by now is (inr (inl taken)) =
        let free = taken.free in
        let wrong : false ≡ true = sym (ap (λ b. not b && not (is_kept taken.listing.rows (Some before))) stable) ∙ free in
        absurd cc
    by now is (inr (inr gone)) = let wrong : true ≡ false = sym stable ∙ gone.unstable in absurd cc

abbrev stays_with : ℕ → Entry → Type 0
stays_with seat entry = not (nat_eq entry.seat seat && is_remove entry.event) ≡ true

-- a stable handle keeps each slot that is filled, with its index and with what was read of its files, over every sequence of events that doesn't remove it
pub stable_handle_keeps_each_slot : (entries : List Entry) (shape : Shape) (seat : ℕ) → registered shape.handles seat ≡ Some true → IsPossible shape entries → IsNeverRemoved seat entries
    → (place : ℕ) (before : Filled) → slot_at shape.slots place ≡ Some before → StaysFilled before place (replay shape entries)
stable_handle_keeps_each_slot [] shape seat stable possible stays place before was = (before, was, slot_keeps_itself before)
stable_handle_keeps_each_slot (entry ∷ entries) shape seat stable possible stays place before was =
    by kept (stable_handle_keeps_each_slot entries (after_entry shape entry) seat stable_then possible.1 (All-tail (stays_with seat) entry entries stays) place)
  where
    stable_then : registered (after_entry shape entry).handles seat ≡ Some true
    stable_then = entry_gives (λ s. registered s.handles seat ≡ Some true) shape entry stable
        (stable-after shape seat entry.seat entry.event possible.0 (not-true (nat_eq entry.seat seat && is_remove entry.event) (All-head (stays_with seat) entry entries stays)) stable)

    kept : StaysFilled before place (after_entry shape entry)
    kept = entry_gives (StaysFilled before place) shape entry (before, was, slot_keeps_itself before)
        (stable_event_keeps_each_slot shape entry.seat entry.event (stable_handle shape.handles seat stable) place before was)

    by : StaysFilled before place (after_entry shape entry)
        → ((filled : Filled) → slot_at (after_entry shape entry).slots place ≡ Some filled → StaysFilled filled place (replay (after_entry shape entry) entries))
        → StaysFilled before place (replay (after_entry shape entry) entries)
    by (now, is, keeps) rest = later (rest now is)
      where
        later : StaysFilled now place (replay (after_entry shape entry) entries) → StaysFilled before place (replay (after_entry shape entry) entries)
        later (last, at, more) = (last, at, slot_keeps_on before now last keeps more)

-- ---- a view

-- a slot that keeps what was read shows the same index
pub shows_again : (place : ℕ) (before now : Filled) (index : SnapshotIndex) → KeepsReadFiles before now → shown_slot place (Some before) ≡ Some index
    → (again : SnapshotIndex) × (shown_slot place (Some now) ≡ Some again) × ShowsAgain index again
shows_again place before now index keeps shows = by (loaded_index before.index) refl shows
  where
    path : (b a : IndexFile) → KeepsReadIndex b a → index_path a ≡ index_path b
    path (Single b) (Single a) is = is.path
    path (Multi b) (Multi a) is = is.path
    path (Single b) (Multi a) is = absurd is
    path (Multi b) (Single a) is = absurd is

    single : (b a : OnDiskFile FileBytes) (o : Option FileBytes) (l : LoadedIndex) → KeepsRead b a → loaded b.state ≡ o → option_map shown.Single o ≡ Some l
        → option_map shown.Single (loaded a.state) ≡ Some l
    single b a None l is at maps = absurd cc
    single b a (Some file) l is at maps = ap (option_map shown.Single) (is.bytes file at) ∙ maps

    multi : (b a : OnDiskFile (List ℕ)) (o : Option (List ℕ)) (l : LoadedIndex) → KeepsRead b a → loaded b.state ≡ o → option_map shown.Multi o ≡ Some l
        → option_map shown.Multi (loaded a.state) ≡ Some l
    multi b a None l is at maps = absurd cc
    multi b a (Some file) l is at maps = ap (option_map shown.Multi) (is.bytes file at) ∙ maps

    bytes : (b a : IndexFile) (l : LoadedIndex) → KeepsReadIndex b a → loaded_index b ≡ Some l → loaded_index a ≡ Some l
    bytes (Single b) (Single a) l is at = single b a (loaded b.state) l is refl at
    bytes (Multi b) (Multi a) l is at = multi b a (loaded b.state) l is refl at
    bytes (Single b) (Multi a) l is at = absurd is
    bytes (Multi b) (Single a) l is at = absurd is

    shown_as : Filled → LoadedIndex → SnapshotIndex
    shown_as filled l = record { slot = place; path = index_path filled.index; index = l; packs = filled.packs }

    by : (o : Option LoadedIndex) → loaded_index before.index ≡ o → option_map (shown_as before) o ≡ Some index
        → (again : SnapshotIndex) × (shown_slot place (Some now) ≡ Some again) × ShowsAgain index again
    by None at maps = absurd cc
    by (Some l) at maps =
        let same : shown_as before l ≡ index = cc in (
          shown_as now l,
          ap (option_map (shown_as now)) (bytes before.index now.index l keeps.index at),
          subst (λ (i : SnapshotIndex). ShowsAgain i (shown_as now l)) same (record { slot = refl; path = path before.index now.index keeps.index; index = refl; packs = keeps.packs }),
        )

-- what a view shows while a handle is stable is shown with the same bytes, listed or kept, in each later view until the handle is removed
pub stable_handle_keeps_what_is_shown : (entries : List Entry) (shape : Shape) (seat : ℕ) → registered shape.handles seat ≡ Some true → IsPossible shape entries → IsNeverRemoved seat entries
    → (number later : ℕ) (index : SnapshotIndex) → IsShown (view_of shape number) index
    → (again : SnapshotIndex) × IsShown (view_of (replay shape entries) later) again × ShowsAgain index again
stable_handle_keeps_what_is_shown entries shape seat stable possible stays number later index is = by (shown_from shape number index is)
  where
    by : (place : ℕ) × (filled : Filled) × (slot_at shape.slots place ≡ Some filled) × (shown_slot place (Some filled) ≡ Some index)
        → (again : SnapshotIndex) × IsShown (view_of (replay shape entries) later) again × ShowsAgain index again
    by (place, filled, was, shows) = at (stable_handle_keeps_each_slot entries shape seat stable possible stays place filled was)
      where
        at : StaysFilled filled place (replay shape entries) → (again : SnapshotIndex) × IsShown (view_of (replay shape entries) later) again × ShowsAgain index again
        at (now, there, keeps) =
            let again = shows_again place filled now index keeps shows in
            (again.0, shown_by (replay shape entries) later place now again.0 there again.1, again.2)

-- so a pack that was read is there, at its place beside its index, with the same path and bytes
pub shown_again_has_its_packs : (before after : SnapshotIndex) → ShowsAgain before after → (place : ℕ) (pack : PackFile) (file : FileBytes) → place < length before.packs
    → loaded (get_or before.packs place pack).state ≡ Some file
    → (place < length after.packs) × ((get_or after.packs place pack).path ≡ (get_or before.packs place pack).path) × (loaded (get_or after.packs place pack).state ≡ Some file)
shown_again_has_its_packs before after again place pack file within is =
    let long = length_all_zip KeepsRead before.packs after.packs again.packs in
    let keeps = AllZip-get_or KeepsRead before.packs after.packs place pack pack again.packs within in
    (omega arith, keeps.path, keeps.bytes file is)
