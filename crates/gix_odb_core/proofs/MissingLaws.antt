-- Laws of missing files: a file that is missing was passed over by an entry, and has been missing since.
use Rattle.std.proofs.Common.{◌≡◌, ℕ, List, [], ◌∷◌, ◌++◌, map, Option, Some, None, Err, ◌⊎◌, inl, inr, refl, sym, ap, subst, ◌∙◌, append_assoc, append-nil}
use Rattle.std.specs.List.{AllZip}
use Rattle.odb_base.specs.Path.{Path}
use Rattle.gix_pack_read.specs.MultiIndex.{told}
use Rattle.gix_odb_core.specs.Misses.{IsIndexMissing, IsMissedSince, IsMissingAt, IsPackMissing, StaysMissing}
use Rattle.gix_odb_core.specs.Origins.{PassesOver, PutsPack}
use Rattle.gix_odb_core.specs.Possible.{IsOpened}
use Rattle.gix_odb_core.specs.Replay.{after_entry, replay}
use Rattle.gix_odb_events.specs.Slots.{Slot, new_filled, new_index}
use Rattle.gix_odb_events.specs.PackFiles.{PackFile, new_pack, new_packs}
use Rattle.gix_odb_events.specs.declared.event.Event.{Event}
use Rattle.gix_odb_events.specs.declared.event.Refusal.TheVariants as refusals
use Rattle.gix_odb_core.specs.declared.journal.Entry.{Entry}
use Rattle.gix_odb_events.specs.declared.listing.ListingRow.{ListingRow}
use Rattle.gix_odb_events.specs.declared.on_disk_file.FileState.TheVariants.{Missing}
use Rattle.gix_odb_events.specs.declared.on_disk_file.OnDiskFile.{OnDiskFile}
use Rattle.gix_odb_core.specs.declared.shape.Shape.{Shape}
use Rattle.gix_odb_events.specs.declared.slot.Filled.{Filled}
use Rattle.gix_odb_events.specs.declared.slot.IndexFile.{IndexFile}
use Rattle.gix_odb_events.specs.declared.slot.IndexFile.TheVariants.{Single, Multi}
use Rattle.gix_odb_core.proofs.OrderLaws.{replay_of_joined_journals}
use Rattle.gix_odb_core.proofs.ReplayLemmas.{replay-push}
use Rattle.gix_odb_core.proofs.ShapeLaws.{opened_slots_are_empty}
use Rattle.gix_odb_core.proofs.SlotTurnLemmas.{CameFrom, entry_cases, filled_came_from}
use Rattle.gix_odb_core.proofs.FileStepLemmas.{FileStep, FilledStep, IndexStep}

-- ---- one event

module _ (happens : Event) (place : ℕ) (path : Path) where
  missed-file : {A : Type 0} (puts : Path → A → Type 0) (before now : OnDiskFile A) → FileStep puts (PassesOver happens place) before now → (now.path ≡ path) × (now.state ≡ Missing)
      → ((before.path ≡ path) × (before.state ≡ Missing)) ⊎ PassesOver happens place path
  missed-file puts before now step is = by (step.state.missed is.1)
    where
      by : (before.state ≡ Missing) ⊎ PassesOver happens place now.path → ((before.path ≡ path) × (before.state ≡ Missing)) ⊎ PassesOver happens place path
      by (inl was) = inl (sym step.path ∙ is.0, was)
      by (inr over) = inr (subst (PassesOver happens place) is.0 over)

  missed-index : (before now : IndexFile) → IndexStep happens place before now → IsIndexMissing path now → IsIndexMissing path before ⊎ PassesOver happens place path
  missed-index (Single before) (Single now) step is = missed-file _ before now step is
  missed-index (Multi before) (Multi now) step is = missed-file _ before now step is
  missed-index (Single before) (Multi now) step is = absurd step
  missed-index (Multi before) (Single now) step is = absurd step

  missed-packs : (before now : List PackFile) → AllZip (FileStep (PutsPack happens place) (PassesOver happens place)) before now → IsPackMissing path now
      → IsPackMissing path before ⊎ PassesOver happens place path
  missed-packs [] [] steps is = absurd is
  missed-packs (one ∷ before) (two ∷ now) steps (inl is) = by (missed-file (PutsPack happens place) one two steps.0 is)
    where
      by : ((one.path ≡ path) × (one.state ≡ Missing)) ⊎ PassesOver happens place path → IsPackMissing path (one ∷ before) ⊎ PassesOver happens place path
      by (inl was) = inl (inl was)
      by (inr over) = inr over
  missed-packs (one ∷ before) (two ∷ now) steps (inr is) = by (missed-packs before now steps.1 is)
    where
      by : IsPackMissing path before ⊎ PassesOver happens place path → IsPackMissing path (one ∷ before) ⊎ PassesOver happens place path
      by (inl was) = inl (inr was)
      by (inr over) = inr over
  missed-packs [] (two ∷ now) steps is = absurd steps
  missed-packs (one ∷ before) [] steps is = absurd steps

  missed-slot : (before now : Filled) → FilledStep happens place before now → IsIndexMissing path now.index ⊎ IsPackMissing path now.packs
      → (IsIndexMissing path before.index ⊎ IsPackMissing path before.packs) ⊎ PassesOver happens place path
  missed-slot before now step (inl is) = by (missed-index before.index now.index step.index is)
    where
      by : IsIndexMissing path before.index ⊎ PassesOver happens place path → (IsIndexMissing path before.index ⊎ IsPackMissing path before.packs) ⊎ PassesOver happens place path
      by (inl was) = inl (inl was)
      by (inr over) = inr over
  missed-slot before now step (inr is) = by (missed-packs before.packs now.packs step.packs is)
    where
      by : IsPackMissing path before.packs ⊎ PassesOver happens place path → (IsIndexMissing path before.index ⊎ IsPackMissing path before.packs) ⊎ PassesOver happens place path
      by (inl was) = inl (inr was)
      by (inr over) = inr over

-- nothing is missing from a slot that a new row takes
new_has_all : (path : Path) (row : ListingRow) → IsIndexMissing path (new_index row.path row.multi) ⊎ IsPackMissing path (new_packs row.path row.multi) → ⊥
new_has_all path row = by row.multi
  where
    each : (folder : Path) (names : List (List ℕ)) → IsPackMissing path (map (new_pack folder) names) → ⊥
    each folder [] is = is
    each folder (name ∷ names) (inl is) = let never = is.1 in cc
    each folder (name ∷ names) (inr is) = each folder names is

    by : (multi : Option (List ℕ)) → IsIndexMissing path (new_index row.path multi) ⊎ IsPackMissing path (new_packs row.path multi) → ⊥
    by None (inl is) = let never = is.1 in cc
    by None (inr (inl is)) = let never = is.1 in cc
    by None (inr (inr is)) = is
    by (Some multi) (inl is) = let never = is.1 in cc
    by (Some multi) (inr is) = each _ (told multi).names is

abbrev Passed : Entry → ℕ → Path → Type 0
Passed entry place path = (entry.answer ≡ Err refusals.NoMemory → ⊥) × PassesOver entry.event place path

-- a file that is missing after an entry was missing before it, or is passed over by it
missing_cases : (shape : Shape) (entry : Entry) (place : ℕ) (path : Path) → IsMissingAt (after_entry shape entry) place path → IsMissingAt shape place path ⊎ Passed entry place path
missing_cases shape entry place path =
    entry_cases (λ s. IsMissingAt s place path → IsMissingAt shape place path ⊎ Passed entry place path) shape entry (λ is. inl is)
    (λ took is. by took is.0 is.2 (filled_came_from shape entry.seat entry.event place is.0 is.1))
  where
    by : (entry.answer ≡ Err refusals.NoMemory → ⊥) → (filled : Filled) → IsIndexMissing path filled.index ⊎ IsPackMissing path filled.packs
        → CameFrom shape entry.event place filled
        → IsMissingAt shape place path ⊎ Passed entry place path
    by took filled is (inl taken) =
        let same : filled ≡ new_filled taken.row = (let h = taken.holds_it in cc) in
        absurd (new_has_all path taken.row (subst (λ (f : Filled). IsIndexMissing path f.index ⊎ IsPackMissing path f.packs) same is))
    by took filled is (inr (old, was, step)) = at (missed-slot entry.event place path old filled step is)
      where
        at : (IsIndexMissing path old.index ⊎ IsPackMissing path old.packs) ⊎ PassesOver entry.event place path → IsMissingAt shape place path ⊎ Passed entry place path
        at (inl missing) = inl (old, was, missing)
        at (inr over) = inr (took, over)

-- ---- journals

stays_missing-push : (entries : List Entry) (shape : Shape) (entry : Entry) (place : ℕ) (path : Path) → StaysMissing shape entries place path
    → IsMissingAt (replay shape (entries ++ entry ∷ [])) place path
    → StaysMissing shape (entries ++ entry ∷ []) place path
stays_missing-push [] shape entry place path stays now = (stays, now)
stays_missing-push (first ∷ entries) shape entry place path stays now = (stays.0, stays_missing-push entries (after_entry shape first) entry place path stays.1 now)

module _ (opening : Shape) where
  -- each file that is missing after these entries has been missed since one of them
  abbrev AreMissed : List Entry → Type 0
  AreMissed entries = (place : ℕ) (path : Path) → IsMissingAt (replay opening entries) place path → IsMissedSince opening entries place path

  missed-push : (past : List Entry) (entry : Entry) → AreMissed past → AreMissed (past ++ entry ∷ [])
  missed-push past entry missed place path is =
      by (missing_cases (replay opening past) entry place path (subst (λ (s : Shape). IsMissingAt s place path) (replay-push opening past entry) is))
    where
      longer : IsMissedSince opening past place path → IsMissedSince opening (past ++ entry ∷ []) place path
      longer since =
          let whole : past ++ entry ∷ [] ≡ since.past ++ since.entry ∷ (since.later ++ entry ∷ []) =
          ap (λ l. l ++ entry ∷ []) since.splits ∙ append_assoc since.past (since.entry ∷ since.later) (entry ∷ []) in
          let joined : since.past ++ since.entry ∷ (since.later ++ entry ∷ []) ≡ (since.past ++ since.entry ∷ []) ++ (since.later ++ entry ∷ []) =
          sym (append_assoc since.past (since.entry ∷ []) (since.later ++ entry ∷ [])) in
          let now : IsMissingAt (replay (replay opening (since.past ++ since.entry ∷ [])) (since.later ++ entry ∷ [])) place path =
          subst (λ (s : Shape). IsMissingAt s place path)
          (ap (replay opening) (whole ∙ joined) ∙ replay_of_joined_journals (since.past ++ since.entry ∷ []) (since.later ++ entry ∷ []) opening) is in
          record {
            past = since.past;
            entry = since.entry;
            later = since.later ++ entry ∷ [];
            splits = whole;
            took = since.took;
            passes = since.passes;
            stays = stays_missing-push since.later (replay opening (since.past ++ since.entry ∷ [])) entry place path since.stays now;
          }

      by : IsMissingAt (replay opening past) place path ⊎ Passed entry place path → IsMissedSince opening (past ++ entry ∷ []) place path
      by (inl was) = longer (missed place path was)
      by (inr (took, over)) = record { past = past; entry = entry; later = []; splits = refl; took = took; passes = over; stays = is }

  missed-all : (entries past : List Entry) → AreMissed past → AreMissed (past ++ entries)
  missed-all [] past missed = subst AreMissed (sym (append-nil past)) missed
  missed-all (entry ∷ entries) past missed = subst AreMissed (append_assoc past (entry ∷ []) entries) (missed-all entries (past ++ entry ∷ []) (missed-push past entry missed))

-- a file that is missing from the shape that a journal replays to was passed over by an entry, and has been missing since
pub missing_file_was_passed_over : (opening : Shape) → IsOpened opening → (entries : List Entry) (place : ℕ) (path : Path) → IsMissingAt (replay opening entries) place path
    → IsMissedSince opening entries place path
missing_file_was_passed_over opening opened entries =
    missed-all opening entries []
    (λ place path is. let wrong : ◌≡◌ {A = Slot} None (Some is.0) = sym (opened_slots_are_empty opening opened place) ∙ is.1 in absurd cc)
