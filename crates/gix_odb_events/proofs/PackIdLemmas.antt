-- A pack can be read back from its number.
use Rattle.std.proofs.Common.{◌≡◌, ℕ, ◌+◌, ◌*◌, ◌/◌, ◌%◌, ◌<◌, eqb, true, false, Option, Some, None, refl, sym, ap, ◌∙◌, arith, eq-eqb}
use Rattle.std.proofs.lemmas.Bool.Decides.{nat_tests}
use Rattle.gix_odb_events.specs.PackId.{id_with, pack_id_of}
use Rattle.gix_odb_events.specs.declared.pack_id.PackId.{PackId}

bit_off : (slot : ℕ) → slot < 32768 → eqb (slot / 32768 % 2) 1 ≡ false
bit_off slot small = grind (arith, nat_tests)

bit_on : (slot place : ℕ) → slot < 32768 → eqb ((slot + 32768 + place * 65536) / 32768 % 2) 1 ≡ true
bit_on slot place small =
    let odd : (slot + 32768 + place * 65536) / 32768 % 2 ≡ 1 = omega arith in
    eq-eqb _ _ odd

pub pack_id_of-id_with : (slot : ℕ) (place : Option ℕ) → slot < 32768 → pack_id_of (id_with slot place) ≡ record { index = slot; multipack_index = place }
pack_id_of-id_with slot None small = rw (bit_off slot small) refl
pack_id_of-id_with slot (Some place) small =
    let rest : (slot + 32768 + place * 65536) % 32768 ≡ slot = omega arith in
    let above : (slot + 32768 + place * 65536) / 65536 ≡ place = omega arith in
    rw (bit_on slot place small, rest, above) refl

-- the number of a pack is that of its slot and place
pub pack_id_of-intrinsic : (pack : PackId) (place : Option ℕ) → pack.multipack_index ≡ place → pack.index < 32768 → pack_id_of (id_with pack.index place) ≡ pack
pack_id_of-intrinsic pack place is small =
    pack_id_of-id_with pack.index place small ∙ ap (λ (p : Option ℕ). let made : PackId = record { index = pack.index; multipack_index = p } in made) (sym is)
