-- The header of an entry that was written is read back.
use Rattle.std.proofs.Common.{◌≡◌, ℕ, zero, suc, ◌+◌, ◌*◌, ◌/◌, ◌%◌, ◌^◌, ◌<◌, ◌≤◌, inl, inr, nat_lt, true, false, List, [], ◌∷◌, ◌++◌, length, drop, refl, arith}
use Rattle.std.proofs.lemmas.Bool.{cases_lt, le-ltb, lt-ltb}
use Rattle.std.specs.List.{position_or_len}
use Rattle.gix_pack_read.specs.Pack.{code_of, size_bits, size_of}
use Rattle.gix_pack_write.specs.WrittenPack.{header_of, size_bytes}
use Rattle.gix_pack_write.proofs.WrittenPackLemmas.{length_of_size, one_byte_less}

-- a number is read back from its bytes
pub size_read_back : (m number : ℕ) → number < 128 ^ suc m → size_bits (size_bytes (suc m) number) ≡ number
unfolding size_bytes size_bits
size_read_back zero number below =
    let small : number < 128 = omega arith in
    let own : number % 128 + 128 * 0 ≡ number = omega arith in
    rw (lt-ltb number 128 small) own
size_read_back (suc m) number below =
    elim (cases_lt number 128) [
      | inl low ↦ let own : number % 128 + 128 * 0 ≡ number = omega arith in rw (lt-ltb number 128 low) own
      | inr high ↦
          let rest : size_bits (size_bytes (suc m) (number / 128)) ≡ number / 128 = size_read_back m (number / 128) (one_byte_less (suc m) number below) in
          let own : (128 + number % 128) % 128 + 128 * size_bits (size_bytes (suc m) (number / 128)) ≡ number = omega arith in
          rw (le-ltb number 128 high) own
    ]

abbrev place : List ℕ → ℕ
place rest = position_or_len (λ b. nat_lt b 128) rest

-- the last byte of a size is the first below 128
place_of_size : (m number : ℕ) (rest : List ℕ) → number < 128 ^ suc m → place (size_bytes (suc m) number ++ rest) + 1 ≡ length (size_bytes (suc m) number)
unfolding size_bytes
place_of_size zero number rest below =
    let small : number < 128 = omega arith in
    rw (lt-ltb number 128 small, lt-ltb number 128 small) refl
place_of_size (suc m) number rest below =
    elim (cases_lt number 128) [
      | inl low ↦ rw (lt-ltb number 128 low, lt-ltb number 128 low) refl
      | inr high ↦
          let more : place (size_bytes (suc m) (number / 128) ++ rest) + 1 ≡ length (size_bytes (suc m) (number / 128)) = place_of_size m (number / 128) rest (one_byte_less (suc m) number below) in
          let first : nat_lt (128 + number % 128) 128 ≡ false = le-ltb (128 + number % 128) 128 (omega arith) in
          rw (le-ltb number 128 high, first) (omega arith)
    ]

-- what a written header says, whatever follows it
pub record Tells (code size : ℕ) (header : List ℕ) : Type 0 where
  pub code_is : (rest : List ℕ) → code_of (header ++ rest) ≡ code
  pub size_is : size_of header ≡ size
  pub short : length header ≤ 10
  pub place_is : (rest : List ℕ) → place (header ++ rest) + 1 ≡ length header

tells_short : (code size : ℕ) → code < 8 → size < 16 → Tells code size ((16 * code + size) ∷ [])
unfolding size_bits
tells_short code size kind small =
    let none : size_bits (drop 1 ((16 * code + size) ∷ [])) ≡ 0 = refl in
    let below : nat_lt (16 * code + size) 128 ≡ true = lt-ltb (16 * code + size) 128 (omega arith) in
    record {
      code_is = λ rest. omega arith;
      size_is = omega arith;
      short = omega arith;
      place_is = λ rest. rw below refl;
    }

tells_long : (code size : ℕ) → code < 8 → 16 ≤ size → size < 2 ^ 64 → Tells code size ((128 + 16 * code + size % 16) ∷ size_bytes 9 (size / 16))
tells_long code size kind large fits =
    let room : 128 ^ 9 ≡ 2 ^ 63 = refl in
    let less : size / 16 < 128 ^ 9 = omega arith in
    let rest_read : size_bits (size_bytes 9 (size / 16)) ≡ size / 16 = size_read_back 8 (size / 16) less in
    let read : size_bits (drop 1 ((128 + 16 * code + size % 16) ∷ size_bytes 9 (size / 16))) ≡ size / 16 = rest_read in
    let rest_short = length_of_size 8 (size / 16) in
    let more : nat_lt (128 + 16 * code + size % 16) 128 ≡ false = le-ltb (128 + 16 * code + size % 16) 128 (omega arith) in
    record {
      code_is = λ rest. omega arith;
      size_is = omega arith;
      short = omega arith;
      place_is = λ rest. let behind = place_of_size 8 (size / 16) rest less in rw more (omega arith);
    }

pub header_tells : (code size : ℕ) → code < 8 → size < 2 ^ 64 → Tells code size (header_of code size)
unfolding header_of
header_tells code size kind fits =
    elim (cases_lt size 16) [
      | inl small ↦ rw (lt-ltb size 16 small) (tells_short code size kind small)
      | inr large ↦ rw (le-ltb size 16 large) (tells_long code size kind large fits)
    ]
