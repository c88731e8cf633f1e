-- The laws of look-ups, for callers: an id takes no step if no row begins with its first byte, and at most one if one row does.
use Rattle.std.proofs.Common.{◌≡◌, ℕ, zero, suc, ◌+◌, ◌-◌, ◌*◌, ◌^◌, ◌<◌, ◌≤◌, arith}
use Rattle.std.proofs.Math.Nat.{pow-succ'}
use Rattle.gix_hash.specs.Steps.{IsSearch}

-- a power of two is above its exponent
above : (d : ℕ) → d < 2 ^ d
above zero = omega arith
above (suc d) =
    let less = above d in
    let more = pow-succ' 2 d in
    omega arith

none : (d : ℕ) → 2 ^ d ≤ 1 → d ≡ 0
none d few = let up = above d in omega arith

one : (d : ℕ) → 2 ^ d ≤ 3 → d ≤ 1
one zero few = omega arith
one (suc d) few =
    let up = above d in
    let more = pow-succ' 2 d in
    omega arith

pub no_step : (n before after : ℕ) → n ≡ 0 → IsSearch n before after → after ≡ before
no_step n before after rows search =
    let counted = search.counted in
    let fits = search.fits in
    let still = none (after - before) (omega arith) in
    omega arith

pub one_step : (n before after : ℕ) → n ≡ 1 → IsSearch n before after → after ≤ before + 1
one_step n before after rows search =
    let counted = search.counted in
    let fits = search.fits in
    let few = one (after - before) (omega arith) in
    omega arith
