-- Parts of a file's bytes: numbers of four and eight bytes, big-endian, tables of rows of equal length, and the trailing hash.
use Rattle.std.specs.Prelude.{ℕ, zero, suc, ◌-◌, Bool, List, [], ◌∷◌, length, take, drop, map, nat_eq}
use Rattle.std.specs.Int.{w32, w64, from_be_bytes}
use lib.Pointwise.{pointwise}
use Rattle.gix_hash.specs.Kind.{len_in_bytes_of}
use Rattle.gix_hash.specs.declared.kind.Kind.{Kind}
pub use Rattle.odb_base.specs.Limit.{is_within}

-- whether two lists have the same bytes
abbrev pub same : List ℕ → List ℕ → Bool
same = pointwise nat_eq

-- `size` bytes from a place on
abbrev pub part : ℕ → ℕ → List ℕ → List ℕ
part place size bytes = take size (drop place bytes)

-- a table of n rows of `size` bytes each
unfoldable pub table : ℕ → ℕ → List ℕ → List (List ℕ)
table size zero bytes = []
table size (suc n) bytes = take size bytes ∷ table size n (drop size bytes)

-- the number of four bytes at a place, and below that of eight
abbrev pub number_at : ℕ → List ℕ → ℕ
number_at place bytes = from_be_bytes w32 (part place 4 bytes)

abbrev pub long_number_at : ℕ → List ℕ → ℕ
long_number_at place bytes = from_be_bytes w64 (part place 8 bytes)

-- a table of n such numbers
abbrev pub numbers : ℕ → List ℕ → List ℕ
numbers n bytes = map (from_be_bytes w32) (table 4 n bytes)

abbrev pub long_numbers : ℕ → List ℕ → List ℕ
long_numbers n bytes = map (from_be_bytes w64) (table 8 n bytes)

-- the offset of the trailing hash of a file
abbrev pub trailer_place : Kind → List ℕ → ℕ
trailer_place kind bytes = length bytes - len_in_bytes_of kind
