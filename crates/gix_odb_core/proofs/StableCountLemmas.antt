-- How many handles are stable.
use Rattle.std.proofs.Common.{◌≡◌, ℕ, ◌+◌, ◌-◌, ◌≤◌, Bool, true, false, cond, ◌||◌, [], ◌∷◌, Some, ltb, nat_cmp, refl, ◌∙◌, ap, arith}
use Rattle.std.specs.BTreeMap.{is_at}
use Rattle.std.specs.Cmp.{nat_cmp_total}
use Rattle.std.specs.List.Sorted.{IsStrictlySortedBy}
use Rattle.std.specs.Map.{keys_of, values_of}
use Rattle.std.proofs.lemmas.Bool.{lt-ltb}
use Rattle.std.proofs.lemmas.List.Sums.{sum_by-cons}
use Rattle.std.proofs.lemmas.Map.Entries.{sum_by-insert_entry, sum_by-remove_entry}
use Rattle.gix_odb_core.specs.Handles.{Handles, is_any_stable, registered, stable_at, stable_count, with_seat, without_seat}

-- a handle is stable where their count is above zero
pub stable_count-tells : (handles : Handles) → ltb 0 (stable_count handles) ≡ is_any_stable handles
stable_count-tells [] = refl
stable_count-tells (first ∷ handles) = ap (ltb 0) (sum_by-cons (λ stable. cond stable 1 0) first.1 (values_of handles)) ∙ by first.1 (stable_count handles) (stable_count-tells handles)
  where
    by : (stable : Bool) (n : ℕ) → ltb 0 n ≡ is_any_stable handles → ltb 0 (cond stable 1 0 + n) ≡ (stable || is_any_stable handles)
    by true n rest = lt-ltb 0 (1 + n) (omega arith)
    by false n rest = let none : 0 + n ≡ n = omega arith in rw none rest

-- how many are stable once a seat is removed
stable_count-without : (handles : Handles) (seat : ℕ) → stable_count (without_seat handles seat) + stable_at (registered handles seat) ≡ stable_count handles
stable_count-without handles seat = sum_by-remove_entry (λ stable. cond stable 1 0) (is_at (nat_cmp seat)) handles

-- how many are stable once a seat is set
stable_count-with : (handles : Handles) (seat : ℕ) (stable : Bool) → IsStrictlySortedBy nat_cmp (keys_of handles)
    → stable_count (with_seat handles seat stable) + stable_at (registered handles seat) ≡ stable_count handles + stable_at (Some stable)
stable_count-with handles seat stable sorted = sum_by-insert_entry (λ stable. cond stable 1 0) nat_cmp_total handles seat stable sorted

-- a count of the stable ones loses what is removed
pub count_without : (old new : Handles) (seat count gone : ℕ) → count ≡ stable_count old → gone ≡ stable_at (registered old seat) → new ≡ without_seat old seat
    → (gone ≤ count) × (count - gone ≡ stable_count new)
count_without old new seat count gone counted left removed =
    let total = stable_count-without old seat in
    let after : stable_count new ≡ stable_count (without_seat old seat) = ap stable_count removed in
    (omega arith, omega arith)

-- and where a seat is set, it loses the old registration, and gains the new one
pub count_with : (old new : Handles) (seat : ℕ) (stable : Bool) (count gone : ℕ) → count ≡ stable_count old → gone ≡ stable_at (registered old seat)
    → IsStrictlySortedBy nat_cmp (keys_of old) → new ≡ with_seat old seat stable
    → (gone ≤ count) × (count - gone + stable_at (Some stable) ≡ stable_count new)
count_with old new seat stable count gone counted left sorted set =
    let within = stable_count-without old seat in
    let total = stable_count-with old seat stable sorted in
    let after : stable_count new ≡ stable_count (with_seat old seat stable) = ap stable_count set in
    (omega arith, omega arith)
