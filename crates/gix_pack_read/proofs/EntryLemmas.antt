-- Entries of packs: how a header is read, where it is, and the object after it.
pub mod Objects
use Rattle.std.proofs.Common.{◌≡◌, ℕ, zero, suc, ◌+◌, ◌-◌, ◌*◌, ◌/◌, ◌%◌, ◌^◌, ◌<◌, ◌≤◌, ◌&&◌, nat_le, nat_lt, Bool, true, false, cond, List}
use Rattle.std.proofs.Common.{length, take, drop, get_or, slice_index, Some, None, Ok, Err, length-take-le, refl, sym, ap, ◌∙◌, arith}
use Rattle.std.proofs.lemmas.Bool.{le-leb, le-ltb, leb-true, lt-leb, lt-ltb, ltb-true, ltb-false}
use Rattle.std.specs.List.{position, position_or_len}
use Rattle.std.proofs.lemmas.List.{get_or-take}
use Rattle.std.proofs.lemmas.Option.{same_Some}
use Rattle.std.proofs.Math.Nat.{pow-le-pow_right, pow-suc}
use Rattle.std.proofs.Math.Seq.{drop-cons, drop-length}
use Rattle.gix_hash.specs.declared.kind.Kind.{Kind}
use Rattle.gix_pack_read.specs.Bytes.{part, trailer_place}
use Rattle.gix_pack_read.specs.Pack.{code_of, entries_place, head_at, header_len, rest_at, size_bits, slice_at}
use Rattle.gix_pack_read.specs.PackHead.{head_from, head_whole, sized}
use Rattle.gix_pack_read.specs.declared.data.Error.TheVariants.{BadEntry}

-- ---- tests of numbers

and_false : (b : Bool) → (b && false) ≡ false
and_false true = refl
and_false false = refl

-- ---- the header of an entry

-- the first byte whose bit 7 is clear, by its place or its absence
place_none : (p len : ℕ) → cond (nat_lt p len) (Some p) None ≡ None → len ≤ p
place_none p len h = by (nat_lt p len) refl h
  where
    by : (b : Bool) → b ≡ nat_lt p len → cond b (Some p) None ≡ None → len ≤ p
    by true is none = cc none
    by false is none = ltb-false p len (sym is)

place_some : (p len last : ℕ) → cond (nat_lt p len) (Some p) None ≡ Some last → (p ≡ last) × (p < len)
place_some p len last h = by (nat_lt p len) refl h
  where
    by : (b : Bool) → b ≡ nat_lt p len → cond b (Some p) None ≡ Some last → (p ≡ last) × (p < len)
    by true is some = (same_Some p last some, ltb-true p len (sym is))
    by false is some = cc some

abbrev place : List ℕ → ℕ
place rest = position_or_len (λ b. nat_lt b 128) rest

-- no byte ends the header
pub head_missing : (rest : List ℕ) → position (λ b. nat_lt b 128) rest ≡ None → head_from rest ≡ Err BadEntry
unfolding head_from
head_missing rest none =
    let long : length rest ≤ place rest = place_none (place rest) (length rest) none in
    let no : nat_le (header_len rest) (length rest) ≡ false = lt-leb (header_len rest) (length rest) (omega arith) in
    rw no refl

-- it has more than ten bytes
pub head_long : (rest : List ℕ) (last : ℕ) → position (λ b. nat_lt b 128) rest ≡ Some last → 10 ≤ last → head_from rest ≡ Err BadEntry
unfolding head_from
head_long rest last found long =
    let places = place_some (place rest) (length rest) last found in
    let same : place rest ≡ last = places.0 in
    let within : place rest < length rest = places.1 in
    let no : nat_le (header_len rest) 10 ≡ false = lt-leb (header_len rest) 10 (omega arith) in
    rw (no, and_false (nat_le (header_len rest) (length rest))) refl

-- it ends with this byte
pub head_found : (rest : List ℕ) (last : ℕ) → position (λ b. nat_lt b 128) rest ≡ Some last → last < 10 → head_from rest ≡ head_whole (take (last + 1) rest)
unfolding head_from head_whole
head_found rest last found short =
    let places = place_some (place rest) (length rest) last found in
    let same : place rest ≡ last = places.0 in
    let within : place rest < length rest = places.1 in
    let whole : header_len rest ≡ last + 1 = omega arith in
    let fits : nat_le (header_len rest) (length rest) ≡ true = le-leb (header_len rest) (length rest) (omega arith) in
    let ten : nat_le (header_len rest) 10 ≡ true = le-leb (header_len rest) 10 (omega arith) in
    let code : code_of rest ≡ code_of (take (last + 1) rest) = ap (λ (b : ℕ). b / 16 % 8) (sym (get_or-take (last + 1) rest 0 0 (omega arith))) in
    let long : last + 1 ≡ length (take (last + 1) rest) = sym (length-take-le (last + 1) rest (omega arith)) in
    rw (fits, ten) (ap (λ (n : ℕ). sized (take n rest) (code_of rest) n) whole ∙ ap (λ (c : ℕ). sized (take (last + 1) rest) c (last + 1)) code
    ∙ ap (λ (n : ℕ). sized (take (last + 1) rest) (code_of (take (last + 1) rest)) n) long)

large : (low high : ℕ) → 2 ^ 60 ≤ high → nat_lt (low % 16 + 16 * high) (2 ^ 64) ≡ false
large low high h = le-ltb (low % 16 + 16 * high) (2 ^ 64) (omega arith)

small : (low high : ℕ) → high < 2 ^ 60 → nat_lt (low % 16 + 16 * high) (2 ^ 64) ≡ true
small low high h = lt-ltb (low % 16 + 16 * high) (2 ^ 64) (omega arith)

-- its size is 2^64 or more
pub head_too_large : (header : List ℕ) → 2 ^ 60 ≤ size_bits (drop 1 header) → head_whole header ≡ Err BadEntry
unfolding head_whole
head_too_large header h = rw (large (slice_index header 0) (size_bits (drop 1 header)) h) refl

pub head_that_fits : (header : List ℕ) → size_bits (drop 1 header) < 2 ^ 60
    → head_whole header ≡ Ok (record { code = slice_index header 0 / 16 % 8; size = slice_index header 0 % 16 + 16 * size_bits (drop 1 header); header_len = length header })
unfolding head_whole
head_that_fits header h = rw (small (slice_index header 0) (size_bits (drop 1 header)) h) refl

-- the bytes after the last are the number 0
pub bits_none : (bytes : List ℕ) → size_bits (drop (length bytes) bytes) ≡ 0
unfolding size_bits
bits_none bytes = rw (drop-length bytes) refl

-- a byte before a number is its lowest seven bits
pub bits_before : (bytes : List ℕ) (place : ℕ) → 0 < place → place ≤ length bytes
    → size_bits (drop (place - 1) bytes) ≡ get_or bytes (place - 1) 0 % 128 + 128 * size_bits (drop place bytes)
unfolding size_bits
bits_before bytes zero some within = absurd (omega arith)
bits_before bytes (suc at) some within =
    let less : suc at - 1 ≡ at = omega arith in
    let there : at < length bytes = omega arith in
    rw (less, drop-cons bytes at 0 there) refl

-- `len` bytes of seven bits are a number below that power
pub bits_small : (len place byte value : ℕ) → 0 < place → place ≤ len → value < 128 ^ (len - place) → byte % 128 + 128 * value < 128 ^ (len - (place - 1))
bits_small len place byte value some within below =
    let one : len - (place - 1) ≡ suc (len - place) = omega arith in
    let more : 128 ^ suc (len - place) ≡ 128 ^ (len - place) * 128 = pow-suc 128 (len - place) in
    rw one (omega arith)

-- at most eight of them leave room for one more
pub bits_fit : (len place value : ℕ) → len ≤ 9 → 0 < place → value < 128 ^ (len - place) → value < 2 ^ 56
bits_fit len place value few some below =
    let most : 128 ^ (len - place) ≤ 128 ^ 8 = pow-le-pow_right {n = 128} (omega arith) {i = len - place} {j = 8} (omega arith) in
    omega arith

-- ---- the header at an offset

pub head_before : (kind : Kind) (bytes : List ℕ) (offset : ℕ) → offset < entries_place → head_at kind bytes offset ≡ Err BadEntry
unfolding head_at
head_before kind bytes offset low = rw (lt-leb entries_place offset low) refl

pub head_behind : (kind : Kind) (bytes : List ℕ) (offset : ℕ) → trailer_place kind bytes ≤ offset → head_at kind bytes offset ≡ Err BadEntry
unfolding head_at
head_behind kind bytes offset high = rw (le-ltb offset (trailer_place kind bytes) high, and_false (nat_le entries_place offset)) refl

pub head_within : (kind : Kind) (bytes : List ℕ) (offset : ℕ) → entries_place ≤ offset → offset < trailer_place kind bytes → head_at kind bytes offset ≡ head_from (rest_at kind bytes offset)
unfolding head_at head_from
head_within kind bytes offset low high = rw (le-leb entries_place offset low, lt-ltb offset (trailer_place kind bytes) high) refl
