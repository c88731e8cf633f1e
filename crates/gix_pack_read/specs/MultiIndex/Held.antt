-- The contents of the chunks of a multi-pack index: the names of packs, and offsets.
use Rattle.std.specs.Prelude.{ℕ, ◌/◌, ◌==◌, ◌&&◌, Bool, true, not, List, [], ◌∷◌, length, take, drop, codes, nat_eq, nat_lt, Option, Some, None}
use Rattle.std.specs.List.{list_all, list_any, slice_split, ends_with}
use Rattle.std.specs.Ordering.{is_lt}
use Rattle.std.specs.Str.{is_utf8}
use Rattle.odb_base.specs.Path.{name_cmp}
use Rattle.gix_pack_read.specs.Bytes.{long_numbers}
use Rattle.gix_pack_read.specs.Rows.{offset_in, is_named_below, wide_len}

-- ---- the contents of a chunk

-- the parts between the NULs: the names come first
abbrev pub name_parts : List ℕ → List (List ℕ)
name_parts names = slice_split (λ b. b == 0) names

-- the ending of an index's name
abbrev pub index_ending : List ℕ
index_ending = codes ".idx"

-- whether bytes have neither NUL nor a slash, and end as the name of an index, with more before that
abbrev pub has_form : List ℕ → Bool
has_form name =
    not (list_any (λ b. b == 0) name) && not (list_any (λ b. b == 47) name)
    && nat_lt (length index_ending) (length name) && ends_with nat_eq name index_ending

-- whether bytes are the name of an index: text of that form
unfoldable pub is_index_name : List ℕ → Bool
is_index_name name = is_utf8 name && has_form name

-- whether each name is below the next, by their bytes
unfoldable pub names_rise : List (List ℕ) → Bool
names_rise [] = true
names_rise (name ∷ []) = true
names_rise (name ∷ next ∷ names) = is_lt (name_cmp name next) && names_rise (next ∷ names)

-- whether these are the names of packs: each is one, and they rise strictly
abbrev pub are_names : List (List ℕ) → Bool
are_names names = list_all is_index_name names && names_rise names

-- whether a chunk holds p names, each ended by NUL, and then only NULs
unfoldable pub holds_names : ℕ → List ℕ → Bool
holds_names p names =
    nat_lt p (length (name_parts names)) && are_names (take p (name_parts names))
    && list_all (λ rest. length rest == 0) (drop p (name_parts names))

-- whether four bytes are an offset: if there are wide ones, those with the high bit refer to one of them
abbrev pub has_offset : Option (List ℕ) → ℕ → Bool
has_offset None narrow = true
has_offset (Some wides) narrow = is_named_below (length wides / wide_len) narrow

-- the offset in four bytes
abbrev pub offset_of_bytes : Option (List ℕ) → ℕ → ℕ
offset_of_bytes None narrow = narrow
offset_of_bytes (Some wides) narrow = offset_in (long_numbers (length wides / wide_len) wides) narrow
