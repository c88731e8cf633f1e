-- Ids of objects: their kind, their bytes and their hex text.
use Rattle.std.specs.Prelude.{◌≡◌, ◌==◌, ◌&&◌, ◌||◌, ◌⊎◌, nat_le, ℕ, Bool, List, length, slice_index, if◌then◌else◌, Option, Some, None, Result, Ok, Err}
use Rattle.std.specs.List.{list_all}
use Rattle.std.specs.Ordering.{nat_cmp, on, then_cmp}
use Rattle.std.specs.Cmp.Lexicographic.{slice_cmp}
use Rattle.std.specs.declared.cmp.Ordering.{Ordering}
use Rattle.hex.specs.Hex.{decode_of, encode_lower, IsBytes}
use Rattle.hex.specs.declared.error.FromHexError.{FromHexError}
use Rattle.gix_hash.specs.Kind.{digits_in, len_in_bytes_of}
use Rattle.gix_hash.specs.declared.kind.Kind.{Kind}
use Rattle.gix_hash.specs.declared.kind.Kind.TheVariants as kind
use Rattle.gix_hash.specs.declared.object_id.ObjectId.{ObjectId}
use Rattle.gix_hash.specs.declared.object_id.ObjectId.TheVariants.{Sha1, Sha256}

-- the kind of an id
abbrev pub kind_of : ObjectId → Kind
kind_of (Sha1 bytes) = kind.Sha1
kind_of (Sha256 bytes) = kind.Sha256

-- the bytes of an id
abbrev pub bytes_of : ObjectId → List ℕ
bytes_of (Sha1 bytes) = bytes
bytes_of (Sha256 bytes) = bytes

-- the first of them
abbrev pub first_byte_of : ObjectId → ℕ
first_byte_of id = slice_index (bytes_of id) 0

-- what holds of every value of the type: its bytes are bytes, and their number is that of its kind
pub record IsId (id : ObjectId) : Type 0 where
  pub bytes : IsBytes (bytes_of id)
  pub size : length (bytes_of id) ≡ len_in_bytes_of (kind_of id)

-- the hex text of an id, in lower case
abbrev pub hex_of : ObjectId → List ℕ
hex_of id = encode_lower (bytes_of id)

-- a text is the hex text of this id
abbrev pub IsHexOf : List ℕ → ObjectId → Type 0
IsHexOf text id = hex_of id ≡ text

-- whether a byte is a hex digit in lower case, `0` to `9` or `a` to `f`
abbrev pub is_lower_digit : ℕ → Bool
is_lower_digit c = (nat_le 48 c && nat_le c 57) || (nat_le 97 c && nat_le c 102)

-- whether a text has lower-case hex digits alone
abbrev pub is_lower_text : List ℕ → Bool
is_lower_text text = list_all is_lower_digit text

-- as many digits as an id of some kind has
abbrev pub IsIdLength : ℕ → Type 0
IsIdLength digits = (digits ≡ digits_in kind.Sha1) ⊎ (digits ≡ digits_in kind.Sha256)

-- the id of decoded bytes
abbrev pub made_by : (List ℕ → ObjectId) → Result (List ℕ) FromHexError → Option ObjectId
made_by id (Ok bytes) = Some (id bytes)
made_by id (Err e) = None

-- the id whose hex text this is, if any: digits in lower case, whose number is that of a kind
unfoldable pub id_of : List ℕ → Option ObjectId
id_of text =
    if is_lower_text text then
    (if length text == digits_in kind.Sha1 then made_by Sha1 (decode_of text)
    else if length text == digits_in kind.Sha256 then made_by Sha256 (decode_of text)
    else None)
    else None

-- the place of a kind in the order of kinds
abbrev pub rank_of : Kind → ℕ
rank_of kind.Sha1 = 0
rank_of kind.Sha256 = 1

-- the order of ids: that of their kinds, and then of their bytes
abbrev pub id_cmp : ObjectId → ObjectId → Ordering
id_cmp a b = then_cmp (on (λ id. rank_of (kind_of id)) nat_cmp) (on bytes_of (slice_cmp nat_cmp)) a b
