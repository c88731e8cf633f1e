-- Settling a filled slot: what is kept.
use Rattle.std.proofs.Common.{◌≡◌, Bool, true, false, List, [], ◌∷◌, Some, map, ◌⊎◌, inl, inr, refl, subst}
use Rattle.std.specs.List.{AllZip}
use Rattle.gix_odb_events.specs.OnDiskFile.{loaded, put_back, trashed, with_state}
use Rattle.gix_odb_core.specs.Publish.{is_kept, settled}
use Rattle.gix_odb_events.specs.Slots.{KeepsFile, KeepsFiles, KeepsIndex, filled_put_back, filled_trashed, index_path, index_put_back, index_trashed}
use Rattle.gix_odb_events.specs.declared.listing.ListingRow.{ListingRow}
use Rattle.gix_odb_events.specs.declared.on_disk_file.FileState.{FileState}
use Rattle.gix_odb_events.specs.declared.on_disk_file.FileState.TheVariants.{Unloaded, Loaded, Garbage, Missing}
use Rattle.gix_odb_events.specs.declared.on_disk_file.OnDiskFile.{OnDiskFile}
use Rattle.gix_odb_events.specs.declared.slot.Filled.{Filled}
use Rattle.gix_odb_events.specs.declared.slot.IndexFile.{IndexFile}
use Rattle.gix_odb_events.specs.declared.slot.IndexFile.TheVariants.{Single, Multi}
use Rattle.gix_odb_core.proofs.SettledLemmas.{settled_cases}

module _ {A : Type 0} where
  loaded-put_back : (state : FileState A) → loaded (put_back state) ≡ loaded state
  loaded-put_back Unloaded = refl
  loaded-put_back (Loaded file) = refl
  loaded-put_back (Garbage file) = refl
  loaded-put_back Missing = refl

  loaded-trashed : (state : FileState A) → loaded (trashed state) ≡ loaded state
  loaded-trashed Unloaded = refl
  loaded-trashed (Loaded file) = refl
  loaded-trashed (Garbage file) = refl
  loaded-trashed Missing = refl

  -- a change of states that keeps what was read, of a file and of a list of files
  keeps-state : (change : FileState A → FileState A) → ((state : FileState A) → loaded (change state) ≡ loaded state) → (file : OnDiskFile A) → KeepsFile file (with_state change file)
  keeps-state change same file = record { path = refl; bytes = same file.state }

  keeps-states : (change : FileState A → FileState A) → ((state : FileState A) → loaded (change state) ≡ loaded state) → (files : List (OnDiskFile A))
      → AllZip KeepsFile files (map (with_state change) files)
  keeps-states change same [] = tt
  keeps-states change same (file ∷ files) = (keeps-state change same file, keeps-states change same files)

keeps-put_back : (filled : Filled) → KeepsFiles filled (filled_put_back filled)
keeps-put_back filled = record { index = by filled.index; time = refl; packs = keeps-states put_back loaded-put_back filled.packs }
  where
    by : (index : IndexFile) → KeepsIndex index (index_put_back index)
    by (Single file) = keeps-state put_back loaded-put_back file
    by (Multi file) = keeps-state put_back loaded-put_back file

keeps-trashed : (filled : Filled) → KeepsFiles filled (filled_trashed filled)
keeps-trashed filled = record { index = by filled.index; time = refl; packs = keeps-states trashed loaded-trashed filled.packs }
  where
    by : (index : IndexFile) → KeepsIndex index (index_trashed index)
    by (Single file) = keeps-state trashed loaded-trashed file
    by (Multi file) = keeps-state trashed loaded-trashed file

-- a slot that stays filled keeps its files
pub keeps-settled : (stable : Bool) (rows : List ListingRow) (before after : Filled) → settled stable rows (Some before) ≡ Some after → KeepsFiles before after
keeps-settled stable rows before after is = by (settled_cases stable rows before after is)
  where
    by : ((is_kept rows (Some before) ≡ true) × (filled_put_back before ≡ after)) ⊎ ((is_kept rows (Some before) ≡ false) × (filled_trashed before ≡ after)) → KeepsFiles before after
    by (inl (kept, to)) = subst (λ (f : Filled). KeepsFiles before f) to (keeps-put_back before)
    by (inr (kept, to)) = subst (λ (f : Filled). KeepsFiles before f) to (keeps-trashed before)

-- what is kept has the same path
pub keeps_path : (before after : Filled) → KeepsFiles before after → index_path after.index ≡ index_path before.index
keeps_path before after keeps = by before.index after.index keeps.index
  where
    by : (one other : IndexFile) → KeepsIndex one other → index_path other ≡ index_path one
    by (Single one) (Single other) same = same.path
    by (Single one) (Multi other) same = absurd same
    by (Multi one) (Single other) same = absurd same
    by (Multi one) (Multi other) same = same.path
