-- How the counts over slots are summed, one slot at a time.
use Rattle.std.specs.Prelude.{ℕ, ◌+◌, ◌<◌, ◌^◌, List, [], ◌∷◌, length, count_by, sum_by, Some, None, if◌then◌else◌}
use Rattle.gix_odb_core.specs.Counts.{disposable_slot, loaded_packs}
use Rattle.gix_odb_events.specs.Slots.{Slot, is_index_loaded, slot_at}
use Rattle.gix_odb_core.specs.declared.counts.Tally.{Tally}
use Rattle.gix_odb_events.specs.declared.slot.Filled.{Filled}

-- the counts over filled slots
abbrev pub tally_of : List Filled → Tally
tally_of filled =
    record {
      indices = length filled;
      open_indices = count_by (λ f. is_index_loaded f.index) filled;
      packs = sum_by (λ f. length f.packs) filled;
      open_packs = sum_by (λ f. loaded_packs f.packs) filled;
    }

-- ---- one slot at a time. No public clause cites these

abbrev pub no_tally : Tally
no_tally = record { indices = 0; open_indices = 0; packs = 0; open_packs = 0 }

-- one more filled slot
abbrev pub with_filled : Tally → Filled → Tally
with_filled tally filled =
    record {
      indices = tally.indices + 1;
      open_indices = tally.open_indices + (if is_index_loaded filled.index then 1 else 0);
      packs = tally.packs + length filled.packs;
      open_packs = tally.open_packs + loaded_packs filled.packs;
    }

abbrev pub with_slot : Tally → Slot → Tally
with_slot tally None = tally
with_slot tally (Some filled) = with_filled tally filled

-- and the slots of these places
abbrev pub with_places : List Slot → Tally → List ℕ → Tally
with_places slots tally [] = tally
with_places slots tally (place ∷ places) = with_places slots (with_slot tally (slot_at slots place)) places

-- and those of these slots that have a file that is garbage or missing
abbrev pub with_disposable : Tally → List Slot → Tally
with_disposable tally [] = tally
with_disposable tally (slot ∷ slots) = with_disposable (with_slot tally (disposable_slot slot)) slots

-- each count is a number of 64 bits
pub record IsSmall (tally : Tally) : Type 0 where
  pub indices : tally.indices < 2 ^ 64
  pub open_indices : tally.open_indices < 2 ^ 64
  pub packs : tally.packs < 2 ^ 64
  pub open_packs : tally.open_packs < 2 ^ 64
