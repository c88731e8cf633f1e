-- The bound on a call's turns is a number of 128 bits.
use Rattle.std.proofs.Common.{ℕ, ◌+◌, ◌*◌, ◌^◌, ◌<◌, ◌≤◌, arith}
use Rattle.std.proofs.Math.Nat.{mul-le-mul}
use Rattle.gix_odb.specs.Laps.{turns_of_lap}
use Rattle.gix_odb_world.specs.Bound.{laps_without_change, most_changes}
use Rattle.gix_odb_world.specs.Valid.{most_folders}

pub bound_fits : (slots folders max_changes entries writing : ℕ) → slots < 2 ^ 16 → folders ≤ most_folders + 1 → max_changes ≤ most_changes → entries < 2 ^ 64
    → writing < 2 ^ 113
    → (max_changes + laps_without_change) * turns_of_lap slots folders entries + writing < 2 ^ 128
bound_fits slots folders max_changes entries writing few_slots few_folders few_changes few_entries short =
    let a : 8 * entries + 16 ≤ 2 ^ 68 = omega arith in
    let b : folders * (8 * entries + 16) ≤ (most_folders + 1) * 2 ^ 68 = mul-le-mul few_folders a in
    let c : turns_of_lap slots folders entries ≤ 2 ^ 77 = omega arith in
    let d : max_changes + laps_without_change ≤ 2 ^ 20 = omega arith in
    let e : (max_changes + laps_without_change) * turns_of_lap slots folders entries ≤ 2 ^ 20 * 2 ^ 77 = mul-le-mul d c in
    omega arith
