-- Counts over slots.
use Rattle.std.specs.Prelude.{ℕ, List, count_by, Option, Some, None, if◌then◌else◌}
use Rattle.std.specs.List.{filter_map}
use Rattle.gix_odb_events.specs.OnDiskFile.{is_loaded}
use Rattle.gix_odb_events.specs.Slots.{Slot, has_disposable, slot_at}
use Rattle.gix_odb_events.specs.PackFiles.{PackFile}
use Rattle.gix_odb_events.specs.declared.slot.Filled.{Filled}

-- how many packs are loaded
abbrev pub loaded_packs : List PackFile → ℕ
loaded_packs packs = count_by (λ pack. is_loaded pack.state) packs

-- what the listed slots hold, in the order of the list
abbrev pub listed_in : List Slot → List ℕ → List Filled
listed_in slots list = filter_map (slot_at slots) list

-- the filled slots with a file that is garbage or missing
abbrev pub disposable_slot : Slot → Option Filled
disposable_slot None = None
disposable_slot (Some filled) = if has_disposable filled then Some filled else None

abbrev pub disposable_in : List Slot → List Filled
disposable_in slots = filter_map disposable_slot slots
