-- The names of a multi-pack index, one after another. No public clause cites this module.
use Rattle.std.specs.Prelude.{ℕ, ◌==◌, ◌&&◌, Bool, true, List, [], ◌∷◌, length, take, drop, nat_lt}
use Rattle.std.specs.List.{list_all}
use Rattle.std.specs.Ordering.{is_lt}
use Rattle.odb_base.specs.Path.{name_cmp}
use Rattle.gix_pack_read.specs.MultiIndex.Held.{is_index_name, name_parts}

-- whether names rise, from one that came before
abbrev pub rise_from : List ℕ → List (List ℕ) → Bool
rise_from last [] = true
rise_from last (name ∷ names) = is_lt (name_cmp last name) && rise_from name names

-- whether n names follow a last one, and then only NULs
unfoldable pub go_on : List ℕ → ℕ → List ℕ → Bool
go_on last left rest =
    nat_lt left (length (name_parts rest)) && (list_all is_index_name (take left (name_parts rest)) && rise_from last (take left (name_parts rest)))
    && list_all (λ part. length part == 0) (drop left (name_parts rest))
