-- A percentage of the number of indices is a number of 128 bits.
use Rattle.std.proofs.Common.{ℕ, ◌*◌, ◌^◌, ◌<◌, ◌≤◌, arith}
use Rattle.std.proofs.Math.Nat.{mul-le-mul}

pub part_fits : (indices percent : ℕ) → indices < 2 ^ 64 → percent < 2 ^ 32 → indices * percent < 2 ^ 128
part_fits indices percent few small =
    let most : indices ≤ 2 ^ 64 = omega arith in
    let part : percent ≤ 2 ^ 32 = omega arith in
    let both : indices * percent ≤ 2 ^ 64 * 2 ^ 32 = mul-le-mul most part in
    omega arith
