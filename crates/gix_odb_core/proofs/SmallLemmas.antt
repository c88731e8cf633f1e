-- The counts over few slots with few packs each are numbers of 64 bits.
use Rattle.std.proofs.Common.{◌≡◌, ℕ, zero, suc, ◌+◌, ◌*◌, ◌≤◌, Bool, true, false, cond, All, List, [], ◌∷◌, length, Some, None, arith}
use Rattle.std.proofs.lemmas.List.Sums.{count_by-le-length}
use Rattle.gix_odb_core.proofs.FewPacksLemmas.{each_few}
use Rattle.gix_odb_core.specs.Tally.{IsSmall, no_tally, with_disposable, with_filled, with_places, with_slot}
use Rattle.gix_odb_events.specs.Slots.{HasFewPacks, is_index_loaded, slot_at, Slot, has_disposable}
use Rattle.gix_odb_core.specs.Counts.{disposable_slot}
use Rattle.gix_odb_events.specs.OnDiskFile.{is_loaded}
use Rattle.gix_odb_events.specs.PackFiles.{PackFile}
use Rattle.gix_odb_core.specs.declared.counts.Tally.{Tally}
use Rattle.gix_odb_events.specs.declared.slot.Filled.{Filled}

-- the counts over n slots
record IsOver (n : ℕ) (tally : Tally) : Type 0 where
  indices : tally.indices ≤ n
  open_indices : tally.open_indices ≤ n
  packs : tally.packs ≤ n * 4294967296
  open_packs : tally.open_packs ≤ n * 4294967296

at_most_one : (b : Bool) → cond b 1 0 ≤ 1
at_most_one true = omega arith
at_most_one false = omega arith

over-filled : (n : ℕ) (tally : Tally) (filled : Filled) → length filled.packs ≤ 4294967296 → IsOver n tally → IsOver (n + 1) (with_filled tally filled)
over-filled n tally filled few over =
    record {
      indices = omega (arith, over.indices);
      open_indices = omega (arith, over.open_indices, at_most_one (is_index_loaded filled.index));
      packs = omega (arith, over.packs);
      open_packs = omega (arith, over.open_packs, count_by-le-length (λ (pack : PackFile). is_loaded pack.state) filled.packs);
    }

over-slot : (n : ℕ) (tally : Tally) (slot : Slot) → HasFewPacks slot → IsOver n tally → IsOver (n + 1) (with_slot tally slot)
over-slot n tally None few over =
    record { indices = omega (arith, over.indices); open_indices = omega (arith, over.open_indices); packs = omega (arith, over.packs); open_packs = omega (arith, over.open_packs) }
over-slot n tally (Some filled) few over = over-filled n tally filled few over

over_more : (n m : ℕ) (tally : Tally) → n ≡ m → IsOver n tally → IsOver m tally
over_more n m tally is over = record {
  indices = omega (arith, over.indices);
  open_indices = omega (arith, over.open_indices);
  packs = omega (arith, over.packs);
  open_packs = omega (arith, over.open_packs);
}

over-places : (slots : List Slot) (n : ℕ) (tally : Tally) (places : List ℕ) → ((place : ℕ) → HasFewPacks (slot_at slots place)) → IsOver n tally
    → IsOver (n + length places) (with_places slots tally places)
over-places slots n tally [] few over = over_more n (n + 0) tally (omega arith) over
over-places slots n tally (place ∷ places) few over =
    over_more (n + 1 + length places) (n + suc (length places)) (with_places slots (with_slot tally (slot_at slots place)) places) (omega arith)
    (over-places slots (n + 1) (with_slot tally (slot_at slots place)) places few (over-slot n tally (slot_at slots place) (few place) over))

few-disposable : (slot : Slot) → HasFewPacks slot → HasFewPacks (disposable_slot slot)
few-disposable None few = few
few-disposable (Some filled) few = by (has_disposable filled)
  where
    by : (b : Bool) → HasFewPacks (cond b (Some filled) None)
    by true = few
    by false = tt

over-disposable : (n : ℕ) (tally : Tally) (slots : List Slot) → ((place : ℕ) → HasFewPacks (slot_at slots place)) → IsOver n tally → IsOver (n + length slots) (with_disposable tally slots)
over-disposable n tally [] few over = over_more n (n + 0) tally (omega arith) over
over-disposable n tally (slot ∷ slots) few over =
    over_more (n + 1 + length slots) (n + suc (length slots)) (with_disposable (with_slot tally (disposable_slot slot)) slots) (omega arith)
    (over-disposable (n + 1) (with_slot tally (disposable_slot slot)) slots (λ place. few (suc place)) (over-slot n tally (disposable_slot slot) (few-disposable slot (few zero)) over))

none : IsOver 0 no_tally
none = record { indices = omega arith; open_indices = omega arith; packs = omega arith; open_packs = omega arith }

over_small : (n : ℕ) (tally : Tally) → n ≤ 32767 → IsOver n tally → IsSmall tally
over_small n tally few over = record {
  indices = omega (arith, over.indices);
  open_indices = omega (arith, over.open_indices);
  packs = omega (arith, over.packs);
  open_packs = omega (arith, over.open_packs);
}

pub listed_small : (slots : List Slot) (list : List ℕ) → All HasFewPacks slots → length list ≤ 32767 → IsSmall (with_places slots no_tally list)
listed_small slots list packs short = over_small (0 + length list) (with_places slots no_tally list) (omega (arith, short)) (over-places slots 0 no_tally list (each_few slots packs) none)

pub disposable_small : (slots : List Slot) → All HasFewPacks slots → length slots ≤ 32767 → IsSmall (with_disposable no_tally slots)
disposable_small slots packs few = over_small (0 + length slots) (with_disposable no_tally slots) (omega (arith, few)) (over-disposable 0 no_tally slots (each_few slots packs) none)
