-- The registered handles of a core: their seats in rising order, each with whether the handle is stable.
use Rattle.std.specs.Prelude.{ℕ, Bool, List, Option, IsSome, cond}
use Rattle.std.specs.List.{count_by, list_any}
use Rattle.std.specs.BTreeMap.{insert_entry, is_at}
use Rattle.std.specs.Map.{lookup, remove_entry, values_of}
use Rattle.std.specs.Option.{option_map, unwrap_or}
use Rattle.std.specs.Ordering.{nat_cmp}

abbrev pub Handles : Type 0
Handles = List (ℕ × Bool)

-- whether the handle of a seat is stable, if it is registered
abbrev pub registered : Handles → ℕ → Option Bool
registered handles seat = lookup (is_at (nat_cmp seat)) handles

abbrev pub IsRegistered : Handles → ℕ → Type 0
IsRegistered handles seat = IsSome (registered handles seat)

abbrev pub with_seat : Handles → ℕ → Bool → Handles
with_seat handles seat stable = insert_entry nat_cmp handles seat stable

abbrev pub without_seat : Handles → ℕ → Handles
without_seat handles seat = remove_entry (is_at (nat_cmp seat)) handles

abbrev pub is_any_stable : Handles → Bool
is_any_stable handles = list_any (λ handle. handle.1) handles

-- how many handles are stable
abbrev pub stable_count : Handles → ℕ
stable_count handles = count_by (λ stable. stable) (values_of handles)

-- how many of them are at a seat with this registration
abbrev pub stable_at : Option Bool → ℕ
stable_at handle = unwrap_or (option_map (λ stable. cond stable 1 0) handle) 0
