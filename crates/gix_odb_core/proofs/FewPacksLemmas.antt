-- Slots keep few packs, whatever the files and listings.
use Rattle.std.proofs.Common.{◌≡◌, ℕ, ◌≤◌, inl, inr, Bool, true, false, cond, All, List, length, get_or, map, Option, Some, None, refl, sym, subst, ◌∙◌}
use Rattle.std.specs.List.{list_any}
use Rattle.std.proofs.lemmas.Bool.{cases_lt}
use Rattle.std.proofs.lemmas.List.{get_or_past, length-map}
use Rattle.std.proofs.lemmas.List.Elements.{All-map}
use Rattle.odb_base.specs.Path.{Path}
use Rattle.gix_pack_read.specs.FileBytes.{FileBytes}
use Rattle.gix_odb_core.proofs.SettledLemmas.{settled_cases}
use Rattle.gix_odb_core.proofs.SlotsAfterLemmas.{slot_at-get_or}
use Rattle.gix_odb_core.specs.Files.{index_with, passed_at, slot_passed, slot_with_index, slot_with_pack, stored_at, takes, with_index}
use Rattle.gix_odb_events.specs.OnDiskFile.{put_back, trashed, with_state}
use Rattle.gix_odb_core.specs.Publish.{settled}
use Rattle.gix_odb_events.specs.Slots.{slot_at, Slot, HasFewPacks, IsFewPacks}
use Rattle.gix_odb_events.specs.declared.listing.ListingRow.{ListingRow}
use Rattle.gix_odb_events.specs.declared.slot.Filled.{Filled}
use Rattle.gix_odb_events.specs.declared.slot.IndexFile.{IndexFile}

-- the slot at a place
pub each_few : (slots : List Slot) → All HasFewPacks slots → (place : ℕ) → HasFewPacks (slot_at slots place)
each_few slots all place = elim (cases_lt place (length slots)) [
  | inl within ↦ subst HasFewPacks (sym (slot_at-get_or slots place))
      (all place None within)
  | inr past ↦ subst HasFewPacks (sym (slot_at-get_or slots place ∙ get_or_past slots place None past)) tt
]

-- a slot after a file
pub few-index : (path : Path) (bytes : FileBytes) (slot : Slot) → HasFewPacks slot → HasFewPacks (slot_with_index path bytes slot)
few-index path bytes None few = tt
few-index path bytes (Some filled) few = by (index_with path bytes filled.index)
  where
    by : (index : Option IndexFile) → HasFewPacks (with_index filled index)
    by None = tt
    by (Some index) = few

pub few-pack : (path : Path) (bytes : FileBytes) (slot : Slot) → HasFewPacks slot → HasFewPacks (slot_with_pack path bytes slot)
few-pack path bytes None few = tt
few-pack path bytes (Some filled) few = by (list_any (takes path) filled.packs)
  where
    by : (b : Bool) → HasFewPacks (cond b (Some (record filled { packs = map (stored_at path bytes) filled.packs })) None)
    by true = subst (λ (n : ℕ). n ≤ 4294967296) (sym (length-map filled.packs (stored_at path bytes))) few
    by false = tt

pub few-passed : (path : Path) (slot : Slot) → HasFewPacks slot → HasFewPacks (slot_passed path slot)
few-passed path None few = tt
few-passed path (Some filled) few = subst (λ (n : ℕ). n ≤ 4294967296) (sym (length-map filled.packs (passed_at path))) few

few-settled : (stable : Bool) (rows : List ListingRow) (before after : Filled) → settled stable rows (Some before) ≡ Some after → IsFewPacks before → IsFewPacks after
few-settled stable rows before after is few = elim (settled_cases stable rows before after is) [
  | inl kept ↦ subst IsFewPacks kept.1 (subst (λ (n : ℕ). n ≤ 4294967296) (sym (length-map before.packs (with_state put_back))) few)
  | inr left ↦ subst IsFewPacks left.1 (subst (λ (n : ℕ). n ≤ 4294967296) (sym (length-map before.packs (with_state trashed))) few)
]

few-settled_slot : (stable : Bool) (rows : List ListingRow) (slot : Slot) → HasFewPacks slot → HasFewPacks (settled stable rows slot)
few-settled_slot stable rows None few = tt
few-settled_slot stable rows (Some before) few = by (settled stable rows (Some before)) refl
  where
    by : (slot : Slot) → settled stable rows (Some before) ≡ slot → HasFewPacks slot
    by None is = tt
    by (Some after) is = few-settled stable rows before after is few

-- all slots, each settled
pub few-all_settled : (stable : Bool) (rows : List ListingRow) (slots : List Slot) → All HasFewPacks slots → All HasFewPacks (map (settled stable rows) slots)
few-all_settled stable rows slots few = All-map HasFewPacks (settled stable rows) slots (λ k d within. few-settled_slot stable rows (get_or slots k d) (few k d within))
