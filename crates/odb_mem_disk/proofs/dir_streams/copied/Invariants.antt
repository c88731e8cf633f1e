use Rattle.std.proofs.Common.{◌≡◌, ℕ}
use Rattle.std.specs.Option.{option_or}
use Rattle.std.specs.Map.{lookup}
use Rattle.std.specs.BTreeMap.{is_at}
use Rattle.std.specs.FinMap as finite
use Rattle.std.specs.Ordering.{nat_cmp}
use Rattle.odb_mem_disk.proofs.dir_streams.copied.Given as goal

-- each stream is copied already, or is still to come
abbrev pub invariant-loop-number : goal.invariant-loop-number
invariant-loop-number l =
    (q : ℕ) → finite.get (finite.from_entries {R = nat_cmp} l.lists.entries) q
    ≡ option_or (finite.get (finite.from_entries {R = nat_cmp} l.copy.entries) q) (lookup (is_at (nat_cmp q)) l.number-iterator)
