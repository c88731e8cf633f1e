-- The laws of binary searches, for callers: each comparison leaves at most half of the rows.
use Rattle.std.proofs.Common.{◌≡◌, ℕ, suc, ◌+◌, ◌-◌, ◌*◌, ◌^◌, ◌<◌, ◌≤◌, ◌⊎◌, inl, inr, ap, ◌∙◌, arith}
use Rattle.std.proofs.Math.Nat.{mul-le-mul_left, pow-succ'}
use Rattle.gix_hash.specs.Steps.{AreTwoSearches, IsSearch}

-- so many rows are left of n when the counter is at `now`
pub record AreLeft (n left before now : ℕ) : Type 0 where
  pub counted : before ≤ now
  pub halved : 2 ^ (now - before) * left ≤ n
  pub fits : 2 ^ (now - before) ≤ 2 * n + 1

-- before the first comparison all are
pub all_left : (n at : ℕ) → AreLeft n n at at
all_left n at =
    let none : at - at ≡ 0 = omega arith in
    record { counted = omega arith; halved = rw none (omega arith); fits = rw none (omega arith) }

doubled : (before now next : ℕ) → before ≤ now → next ≡ now + 1 → 2 ^ (next - before) ≡ 2 * 2 ^ (now - before)
doubled before now next counted one =
    let more : next - before ≡ suc (now - before) = omega arith in
    ap (λ (s : ℕ). 2 ^ s) more ∙ pow-succ' 2 (now - before)

half : (n left rest power : ℕ) → power * left ≤ n → 2 * rest ≤ left → 2 * power * rest ≤ n
half n left rest power are fewer = omega (arith, mul-le-mul_left power fewer)

at_most_all : (n left power : ℕ) → power * left ≤ n → 0 < left → 2 * power ≤ 2 * n + 1
at_most_all n left power are some =
    let one : 1 ≤ left = omega arith in
    omega (arith, mul-le-mul_left power one)

-- a comparison leaves at most half of them
pub half_left : (n left rest before now next : ℕ) → AreLeft n left before now → 0 < left → 2 * rest ≤ left → next ≡ now + 1 → AreLeft n rest before next
half_left n left rest before now next are some fewer one =
    let both = doubled before now next are.counted one in
    let counted = are.counted in
    record {
      counted = omega arith;
      halved = rw both (half n left rest (2 ^ (now - before)) are.halved fewer);
      fits = rw both (at_most_all n left (2 ^ (now - before)) are.halved some);
    }

-- a search ends with those that are left
pub search_ends : (n left before now : ℕ) → AreLeft n left before now → IsSearch n before now
search_ends n left before now are = record { counted = are.counted; fits = are.fits }

-- a search among fewer rows
pub fewer_rows : (few n before after : ℕ) → few ≤ n → IsSearch few before after → IsSearch n before after
fewer_rows few n before after fewer one = let fits = one.fits in record { counted = one.counted; fits = omega arith }

either : (a b : ℕ) → (a ≤ b) ⊎ (b ≤ a)
either a b = grind arith

-- two searches, one after the other
pub two_searches : (n before between after : ℕ) → IsSearch n before between → IsSearch n between after → AreTwoSearches n before after
two_searches n before between after one other =
    let first = one.counted in
    let second = other.counted in
    elim (either (between - before) (after - between)) [
      | inl more ↦ record { counted = omega arith; each = after - between; fits = other.fits; at_most = omega arith }
      | inr fewer ↦ record { counted = omega arith; each = between - before; fits = one.fits; at_most = omega arith }
    ]
