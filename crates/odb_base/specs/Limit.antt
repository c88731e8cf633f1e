-- Limits of the sizes of objects and files that are read.
use Rattle.std.specs.Prelude.{ℕ, Bool, true, nat_le, Option, Some, None}

-- whether a size is within a limit, if there is one
abbrev pub is_within : Option ℕ → ℕ → Bool
is_within None size = true
is_within (Some limit) size = nat_le size limit
