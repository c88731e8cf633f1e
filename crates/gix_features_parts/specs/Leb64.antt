-- Numbers of variable length, as Git's packs write them. A byte has seven bits of the number, the highest first, and says
-- whether another byte follows. A longer spelling begins where the shorter ones end.
use Rattle.std.specs.Prelude.{◌≡◌, ℕ, zero, suc, ◌+◌, ◌*◌, ◌%◌, ◌^◌, ◌<◌, Bool, true, nat_le, List, [], ◌∷◌, length}
use Rattle.std.specs.List.{list_all}

-- a byte's seven bits of the number
abbrev pub low_bits : ℕ → ℕ
low_bits byte = byte % 128

-- whether a byte says that another one follows
abbrev pub goes_on : ℕ → Bool
goes_on byte = nat_le 128 byte

-- the bits of these bytes as one number, the first ones the highest
unfoldable pub in_base_128 : List ℕ → ℕ
in_base_128 [] = 0
in_base_128 (byte ∷ bytes) = low_bits byte * 128 ^ length bytes + in_base_128 bytes

-- the number with which spellings of so many bytes begin: as many numbers have a shorter spelling
unfoldable pub first_of_length : ℕ → ℕ
first_of_length zero = 0
first_of_length (suc zero) = 0
first_of_length (suc (suc n)) = 128 ^ suc n + first_of_length (suc n)

-- the number that bytes spell
unfoldable pub value_of : List ℕ → ℕ
value_of bytes = first_of_length (length bytes) + in_base_128 bytes

-- bytes that need one more: each says that another follows, and they are within 64 bits
pub record WantsMore (bytes : List ℕ) : Type 0 where
  pub going : list_all goes_on bytes ≡ true
  pub fits : value_of bytes < 2 ^ 64
