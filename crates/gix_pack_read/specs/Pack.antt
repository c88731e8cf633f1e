-- A pack, and the entries in it.
--
--     part                                bytes
--     `PACK`                              4
--     version, 2 or 3                     4
--     number of objects                   4
--     entries                             as they say
--     trailing hash                       h
--
-- An entry is a header and as many bytes of data as the header's size says.
use Rattle.std.specs.Prelude.{ℕ, ◌+◌, ◌*◌, ◌/◌, ◌%◌, ◌^◌, ◌==◌, ◌&&◌, ◌||◌, Bool, not, List, [], ◌∷◌, length, take, drop, codes}
use Rattle.std.specs.Prelude.{slice_index, nat_eq, nat_le, nat_lt, Option, Some, None, Result, Ok, Err, if◌then◌else◌}
use Rattle.std.specs.List.{position_or_len, starts_with}
use Rattle.gix_hash.specs.Kind.{len_in_bytes_of}
use Rattle.gix_hash.specs.declared.kind.Kind.{Kind as HashKind}
use Rattle.gix_object.specs.declared.kind.Kind.{Kind}
use Rattle.gix_object.specs.declared.kind.Kind.TheVariants.{Commit, Tree, Blob, Tag}
use Rattle.gix_pack_read.specs.Bytes.{is_within, part, number_at, trailer_place}
use Rattle.gix_pack_read.specs.declared.data.entry.Header.{Header}
use Rattle.gix_pack_read.specs.declared.data.entry.Entry as found
use Rattle.gix_pack_read.specs.declared.data.Error.{Error}
use Rattle.gix_pack_read.specs.declared.data.Error.TheVariants.{BadEntry, DeltaEntry, OutOfMemory, EntryType}

-- the offset of the version: after `PACK`
abbrev pub version_place : ℕ
version_place = 4

-- the offset of the number of objects: after the version
abbrev pub count_place : ℕ
count_place = 8

-- the offset of the entries: after `PACK`, the version and the number of objects, of four bytes each
abbrev pub entries_place : ℕ
entries_place = 12

abbrev pub version_in : List ℕ → ℕ
version_in bytes = number_at version_place bytes

abbrev pub objects_in : List ℕ → ℕ
objects_in bytes = number_at count_place bytes

abbrev pub is_version : ℕ → Bool
is_version number = number == 2 || number == 3

-- whether bytes are a pack: they begin as one, have room for a header and a trailing hash, and have a known version
unfoldable pub is_pack : HashKind → List ℕ → Bool
is_pack kind bytes =
    starts_with nat_eq bytes (codes "PACK") && nat_le (entries_place + len_in_bytes_of kind) (length bytes) && is_version (version_in bytes)

-- the bytes from a place on, up to the trailing hash
abbrev pub rest_at : HashKind → List ℕ → ℕ → List ℕ
rest_at kind bytes offset = drop offset (take (trailer_place kind bytes) bytes)

-- ---- the header of an entry

-- the most bytes of seven bits that a size has: four of its 64 bits are in the first byte of the header, and 60 are left
abbrev pub most_size_bytes : ℕ
most_size_bytes = 9

-- the length of the longest header: its first byte, and those
abbrev pub longest_header : ℕ
longest_header = 10

-- it ends with the first byte whose bit 7 is clear
abbrev pub header_len : List ℕ → ℕ
header_len rest = position_or_len (λ b. nat_lt b 128) rest + 1

-- the number in bytes of seven bits, the lowest first; bit 7 says that a byte follows
unfoldable pub size_bits : List ℕ → ℕ
size_bits [] = 0
size_bits (b ∷ bytes) = b % 128 + 128 * size_bits bytes

-- the type: bits 6 to 4 of the first byte
abbrev pub code_of : List ℕ → ℕ
code_of header = slice_index header 0 / 16 % 8

-- the size: bits 3 to 0 of the first byte are the lowest, and each further byte adds seven
abbrev pub size_of : List ℕ → ℕ
size_of header = slice_index header 0 % 16 + 16 * size_bits (drop 1 header)

-- a header that was read
pub record Head : Type 0 where
  pub code : ℕ
  pub size : ℕ
  pub header_len : ℕ

-- whether bytes begin with a header: it ends among them, is not longer than the longest, and has a size below 2^64
abbrev pub begins_with_header : List ℕ → Bool
begins_with_header rest =
    nat_le (header_len rest) (length rest) && nat_le (header_len rest) longest_header && nat_lt (size_of (take (header_len rest) rest)) (2 ^ 64)

abbrev pub head_of : List ℕ → Head
head_of rest = record { code = code_of rest; size = size_of (take (header_len rest) rest); header_len = header_len rest }

-- the header at an offset among the entries; it ends before the trailing hash too
unfoldable pub head_at : HashKind → List ℕ → ℕ → Result Head Error
head_at kind bytes offset =
    if nat_le entries_place offset && nat_lt offset (trailer_place kind bytes) && begins_with_header (rest_at kind bytes offset)
    then Ok (head_of (rest_at kind bytes offset))
    else Err BadEntry

-- ---- entries

-- the kind of a type: 1 to 4 are the four kinds, 6 and 7 are deltas, and 0 and 5 are no kind
unfoldable pub kind_of_code : ℕ → Result Kind Error
kind_of_code code =
    if code == 1 then Ok Commit
    else if code == 2 then Ok Tree
    else if code == 3 then Ok Blob
    else if code == 4 then Ok Tag
    else if code == 6 || code == 7 then Err DeltaEntry
    else Err (EntryType code)

-- an object in a pack
pub record Entry : Type 0 where
  pub kind : Kind
  pub size : ℕ
  pub header_len : ℕ
  pub bytes : List ℕ

infixl 10 ◌>>=◌
abbrev ◌>>=◌ : {A B : Type 0} → Result A Error → (A → Result B Error) → Result B Error
(Ok read) >>= f = f read
(Err error) >>= f = Err error

-- the header of the object at an offset: a bad header is found first, and then a delta or a type that is no kind
unfoldable pub header_at : HashKind → List ℕ → ℕ → Result Header Error
header_at kind bytes offset = do
  head ← head_at kind bytes offset
  object ← kind_of_code head.code
  Ok (record { kind = object; size = head.size; header_len = head.header_len })

-- the data of the entry at an offset, after its header
abbrev pub data_behind : List ℕ → ℕ → Header → List ℕ
data_behind bytes offset header = part (offset + header.header_len) header.size bytes

-- the object whose header was read at an offset: the limit is tested first, and then whether the data end before the trailing hash
unfoldable pub object_behind : HashKind → List ℕ → ℕ → Option ℕ → Header → Result Entry Error
object_behind kind bytes offset limit header =
    if not (is_within limit header.size) then Err (OutOfMemory header.size)
    else if nat_lt (trailer_place kind bytes) (offset + header.header_len + header.size) then Err BadEntry
    else Ok (record { kind = header.kind; size = header.size; header_len = header.header_len; bytes = data_behind bytes offset header })

-- the object at an offset: its header is read first
unfoldable pub entry_at : HashKind → List ℕ → ℕ → Option ℕ → Result Entry Error
entry_at kind bytes offset limit = do
  header ← header_at kind bytes offset
  object_behind kind bytes offset limit header

-- `len` bytes of entries from an offset on, or None if they extend beyond the entries
abbrev pub slice_at : HashKind → List ℕ → ℕ → ℕ → Option (List ℕ)
slice_at kind bytes offset size =
    if nat_le entries_place offset && nat_le (offset + size) (trailer_place kind bytes) then Some (part offset size bytes) else None

-- the model of an entry, with its data in place of their address in memory
abbrev pub entry_seen : Result found.Entry Error → Result Entry Error
entry_seen (Ok entry) = Ok (record { kind = entry.kind; size = entry.size; header_len = entry.header_len; bytes = entry.bytes.now })
entry_seen (Err error) = Err error
