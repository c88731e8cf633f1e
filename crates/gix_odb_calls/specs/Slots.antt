-- How many slots for indices a store gets, and the default options of a store.
use Rattle.std.specs.Prelude.{true, None}
use Rattle.gix_odb_calls.specs.declared.init.Options.{Options}
use Rattle.gix_odb_calls.specs.declared.init.Slots.{Slots}
use Rattle.gix_odb_calls.specs.declared.init.Slots.TheVariants.{AsNeededByDiskState}

-- eleven slots for each ten indices that are there when the store is opened, and at least 32
abbrev pub default_slots : Slots
default_slots = AsNeededByDiskState 110 32

abbrev pub default_options : Options
default_options = record { slots = default_slots; use_multi_pack_index = true; alloc_limit_bytes = None; max_changes = 16 }
