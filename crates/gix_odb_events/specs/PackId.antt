-- Numbers of packs, both ways.
use Rattle.std.specs.Prelude.{ℕ, ◌+◌, ◌*◌, ◌/◌, ◌%◌, ◌==◌, Option, Some, None, if◌then◌else◌}
use Rattle.gix_odb_events.specs.declared.pack_id.PackId.{PackId}

-- the most slots that a core may have: 2^15 - 1. A pack's number has 32 bits, and the lowest 15 of them are the slot of its index.
abbrev pub most_slots : ℕ
most_slots = 32767

-- the bit of a pack's number above its slot, which is set for a pack of a multi-pack index: 2^15
abbrev pub multi_index_bit : ℕ
multi_index_bit = 32768

-- the unit of the place of a pack within its multi-pack index in its number: above 16 bits
abbrev pub multi_index_unit : ℕ
multi_index_unit = 65536

-- just the slot, or the slot with the bit and the place within the multi-pack index above it
abbrev pub id_with : ℕ → Option ℕ → ℕ
id_with slot None = slot
id_with slot (Some place) = slot + multi_index_bit + place * multi_index_unit

abbrev pub intrinsic_id_of : PackId → ℕ
intrinsic_id_of pack = id_with pack.index pack.multipack_index

-- with bit 15 the lowest 15 bits are the slot, and the bits above 16 are the place; without it the whole is the slot
abbrev pub pack_id_of : ℕ → PackId
pack_id_of id =
    if id / multi_index_bit % 2 == 1 then record { index = id % multi_index_bit; multipack_index = Some (id / multi_index_unit) }
    else record { index = id; multipack_index = None }
