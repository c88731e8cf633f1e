-- No public clause cites this module: a header as the code reads it.
use Rattle.std.specs.Prelude.{ℕ, ◌^◌, List, length, nat_lt, Result, Ok, Err, if◌then◌else◌}
use Rattle.gix_pack_read.specs.Pack.{Head, begins_with_header, code_of, head_of, size_of}
use Rattle.gix_pack_read.specs.declared.data.entry_head.Head as read
use Rattle.gix_pack_read.specs.declared.data.Error.{Error}
use Rattle.gix_pack_read.specs.declared.data.Error.TheVariants.{BadEntry}

abbrev pub head_seen : Result read.Head Error → Result Head Error
head_seen (Ok head) = Ok (record { code = head.code; size = head.size; header_len = head.header_len })
head_seen (Err error) = Err error

-- the header at the start of bytes
unfoldable pub head_from : List ℕ → Result Head Error
head_from rest = if begins_with_header rest then Ok (head_of rest) else Err BadEntry

-- a header of these bytes, with a code and a length
abbrev pub sized : List ℕ → ℕ → ℕ → Result Head Error
sized header code len =
    if nat_lt (size_of header) (2 ^ 64) then Ok (record { code = code; size = size_of header; header_len = len }) else Err BadEntry

-- the header in exactly these bytes
unfoldable pub head_whole : List ℕ → Result Head Error
head_whole header = sized header (code_of header) (length header)
