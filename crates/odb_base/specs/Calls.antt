-- The calls of something that is made to fail at some of them: how many it has had, which fail, and how many failed.
use Rattle.std.specs.Prelude.{ℕ, Bool, if◌then◌else◌, refl}
use Rattle.std.specs.Ordering.{nat_cmp}
use Rattle.std.specs.FinSet as set
use Rattle.std.specs.Coded.{Coded, code_by, coded×, coded_ℕ}
use Rattle.odb_base.specs.Faults.{risen}

pub record Calls : Type 0 where
  -- the number of calls; it saturates
  pub made : ℕ
  -- the numbers of the calls that fail
  pub listed : set.FinSet nat_cmp
  pub faults : ℕ

abbrev pub coded_calls : Coded Calls
coded_calls =
    code_by (ℕ × (set.FinSet nat_cmp × ℕ)) (coded× coded_ℕ (coded× (set.code coded_ℕ) coded_ℕ)) (λ c. (c.made, (c.listed, c.faults)))
    (λ p. record { made = p.0; listed = p.1.0; faults = p.1.1 }) (λ _. refl)

-- no calls yet, and those that will fail
abbrev pub no_calls : set.FinSet nat_cmp → Calls
no_calls listed = record { made = 0; listed = listed; faults = 0 }

-- the number of the next call: calls are numbered from 1, and each later one has the greatest number
abbrev pub next_call : Calls → ℕ
next_call calls = risen calls.made

-- whether the next call will fail
abbrev pub next_fails : Calls → Bool
next_fails calls = set.contains calls.listed (next_call calls)

-- the calls after one more, which failed or didn't
unfoldable pub after_call : Bool → Calls → Calls
after_call failed calls = record calls { made = next_call calls; faults = if failed then risen calls.faults else calls.faults }
