-- Packs as they are written: sizes by seven bits, headers, and entries one after another.
use Rattle.std.proofs.Common.{◌≡◌, ℕ, zero, suc, ◌+◌, ◌*◌, ◌/◌, ◌%◌, ◌^◌, ◌<◌, ◌≤◌, inl, inr, List, [], ◌∷◌, ◌++◌, length, length-append, append_assoc, refl, sym, ap, ◌∙◌, arith}
use Rattle.std.proofs.lemmas.Bool.{cases_lt, le-ltb, lt-ltb}
use Rattle.std.proofs.Math.Nat.{pow-suc}
use Rattle.gix_object.specs.Data.{Object}
use Rattle.gix_pack_write.specs.WrittenPack.{code_of_kind, entry_of, header_of, size_bytes}

-- ---- sizes

-- seven bits less need one byte less
pub one_byte_less : (m number : ℕ) → number < 128 ^ suc m → number / 128 < 128 ^ m
one_byte_less m number below = let more : 128 ^ suc m ≡ 128 ^ m * 128 = pow-suc 128 m in omega arith

-- a number that fits in `m` + 1 bytes is written the same with room for one more
size_bytes_same : (m number : ℕ) → number < 128 ^ suc m → size_bytes (suc m) number ≡ size_bytes (suc (suc m)) number
unfolding size_bytes
size_bytes_same zero number below =
    let small : number < 128 = omega arith in
    rw (lt-ltb number 128 small) refl
size_bytes_same (suc m) number below =
    elim (cases_lt number 128) [
      | inl low ↦ rw (lt-ltb number 128 low) refl
      | inr high ↦
          rw (le-ltb number 128 high)
          (ap (λ (bytes : List ℕ). (128 + number % 128) ∷ bytes) (size_bytes_same m (number / 128) (one_byte_less (suc m) number below)))
    ]

size_step : (m number : ℕ) → 128 ≤ number → number < 128 ^ suc (suc m) → size_bytes (suc (suc m)) number ≡ (128 + number % 128) ∷ size_bytes (suc (suc m)) (number / 128)
unfolding size_bytes
size_step m number high below =
    rw (le-ltb number 128 high) (ap (λ (bytes : List ℕ). (128 + number % 128) ∷ bytes) (size_bytes_same m (number / 128) (one_byte_less (suc m) number below)))

-- the lowest seven bits, and the others
pub size_more : (number : ℕ) → 128 ≤ number → number < 2 ^ 60 → size_bytes 9 number ≡ (128 + number % 128) ∷ size_bytes 9 (number / 128)
size_more number high below = let room : 128 ^ 9 ≡ 2 ^ 63 = refl in size_step 7 number high (omega arith)

pub size_last : (number : ℕ) → number < 128 → size_bytes 9 number ≡ number ∷ []
unfolding size_bytes
size_last number low = rw (lt-ltb number 128 low) refl

-- one more byte is written
pub size_written : (front list : List ℕ) (number left : ℕ) → front ++ size_bytes 9 number ≡ list ++ size_bytes 9 left → 128 ≤ left → left < 2 ^ 60
    → front ++ size_bytes 9 number ≡ (list ++ (128 + left % 128) ∷ []) ++ size_bytes 9 (left / 128)
size_written front list number left so_far high below =
    so_far ∙ ap (λ (bytes : List ℕ). list ++ bytes) (size_more left high below) ∙ sym (append_assoc list ((128 + left % 128) ∷ []) (size_bytes 9 (left / 128)))

pub length_of_size : (m number : ℕ) → length (size_bytes (suc m) number) ≤ suc m
unfolding size_bytes
length_of_size zero number =
    elim (cases_lt number 128) [
      | inl low ↦ rw (lt-ltb number 128 low) (omega arith)
      | inr high ↦ rw (le-ltb number 128 high) (omega arith)
    ]
length_of_size (suc m) number =
    elim (cases_lt number 128) [
      | inl low ↦ rw (lt-ltb number 128 low) (omega arith)
      | inr high ↦ let less = length_of_size m (number / 128) in rw (le-ltb number 128 high) (omega arith)
    ]

-- ---- the length of a header

pub len_of_more : (number : ℕ) → 128 ≤ number → number < 2 ^ 60 → length (size_bytes 9 number) ≡ 1 + length (size_bytes 9 (number / 128))
len_of_more number high below = ap length (size_more number high below) ∙ omega arith

pub len_of_last : (number : ℕ) → number < 128 → length (size_bytes 9 number) ≡ 1
len_of_last number low = ap length (size_last number low)

pub len_at_most : (number : ℕ) → length (size_bytes 9 number) ≤ 9
len_at_most number = length_of_size 8 number

pub len_of_short : (code size : ℕ) → size < 16 → length (header_of code size) ≡ 1
unfolding header_of
len_of_short code size small = rw (lt-ltb size 16 small) refl

pub len_of_long : (code size : ℕ) → 16 ≤ size → length (header_of code size) ≡ 1 + length (size_bytes 9 (size / 16))
unfolding header_of
len_of_long code size large = rw (le-ltb size 16 large) (omega arith)

-- these under one name
pub ruleset header_lengths = (len_of_more, len_of_last, len_at_most, len_of_short, len_of_long)

-- and of an entry, whose header has the same length for each type
pub len_of_entry : (object : Object) (len : ℕ) → ((code : ℕ) → len ≡ length (header_of code (length object.bytes))) → len + length object.bytes ≡ length (entry_of object)
len_of_entry object len own =
    ap (λ (n : ℕ). n + length object.bytes) (own (code_of_kind object.kind)) ∙ sym (length-append (header_of (code_of_kind object.kind) (length object.bytes)) object.bytes)
