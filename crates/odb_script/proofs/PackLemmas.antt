-- The test of packs that can be in a multi-index, and what the encoder asks of them.
use Rattle.std.proofs.Common.{◌≡◌, ℕ, ◌^◌, ◌&&◌, ◌↔◌, Bool, true, false, nat_lt, List, length, sum_by, refl, sym}
use Rattle.std.proofs.lemmas.Bool.{and_parts, ltb-true, lt-ltb}
use Rattle.gix_pack_read.specs.MultiIndex.{are_names}
use Rattle.gix_pack_write.specs.WrittenMultiIndex.{CanBeWritten, Named, names_of}
use Rattle.odb_script.specs.Content.{can_be_written}

objects_in : List Named → ℕ
objects_in packs = sum_by (λ (pack : Named). length pack.objects) packs

pub CanBeWritten-tested : (packs : List Named) → can_be_written packs ≡ true → CanBeWritten packs
unfolding can_be_written objects_in
CanBeWritten-tested packs tested =
    let parts = and_parts (are_names (names_of packs) && nat_lt (length packs) (2 ^ 31)) (nat_lt (objects_in packs) (2 ^ 31)) tested in
    let front = and_parts (are_names (names_of packs)) (nat_lt (length packs) (2 ^ 31)) parts.0 in
    record { few_packs = ltb-true (length packs) (2 ^ 31) front.1; few_objects = ltb-true (objects_in packs) (2 ^ 31) parts.1; names = front.0 }

pub can_be_written-true : (packs : List Named) → CanBeWritten packs → can_be_written packs ≡ true
unfolding can_be_written objects_in
can_be_written-true packs can =
    rw (can.names, lt-ltb (length packs) (2 ^ 31) can.few_packs, lt-ltb (objects_in packs) (2 ^ 31) can.few_objects) refl

-- a test that is true exactly if packs can be written is this one
pub can_be_written-same : (b : Bool) (packs : List Named) → ((b ≡ true) ↔ CanBeWritten packs) → b ≡ can_be_written packs
can_be_written-same true packs same = sym (can_be_written-true packs (same.0 refl))
can_be_written-same false packs same = by_test (can_be_written packs) refl
  where
    by_test : (t : Bool) → can_be_written packs ≡ t → false ≡ t
    by_test true tested = same.1 (CanBeWritten-tested packs tested)
    by_test false tested = refl
