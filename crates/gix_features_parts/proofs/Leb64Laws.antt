-- Laws of numbers of variable length: of the same bytes one number is read, or one reason is given.
use Rattle.std.proofs.Common.{◌≡◌, ℕ, ◌^◌, ◌<◌, ◌≤◌, ◌⊎◌, inl, inr, true, false, List, [], ◌∷◌, ◌++◌, length, Result, Ok, Err, IfOk, refl, sym, ap, subst, ◌∙◌, arith, length-append, append-nil, append_assoc}
use Rattle.std.specs.List.{list_all}
use Rattle.std.proofs.lemmas.Bool.{and_parts, false≢true}
use Rattle.std.proofs.lemmas.List.Folds.{list_all-append}
use Rattle.gix_features_parts.specs.Leb64.{goes_on, value_of}
use Rattle.gix_features_parts.specs.Leb64Reads.{Decodes}
use Rattle.gix_features_parts.specs.declared.decode.Error.{Error}
use Rattle.gix_features_parts.specs.declared.decode.Error.TheVariants.{Overflow, Source, Truncated}
use Rattle.gix_features_parts.proofs.Leb64Lemmas.{value_of-none, value_of-push}

-- of two prefixes of one list one is a prefix of the other
fronts : (a b c d : List ℕ) → a ++ b ≡ c ++ d → ((more : List ℕ) × (c ≡ a ++ more)) ⊎ ((more : List ℕ) × (a ≡ c ++ more))
fronts [] b c d e = inl (c, refl)
fronts (x ∷ a) b [] d e = inr (x ∷ a, refl)
fronts (x ∷ a) b (y ∷ c) d e =
    let tails : a ++ b ≡ c ++ d = cc e in
    let heads : x ≡ y = cc e in
    elim (fronts a b c d tails) [
      | inl longer ↦ inl (longer.0, ap (λ h. h ∷ c) (sym heads) ∙ ap (λ t. x ∷ t) longer.1)
      | inr shorter ↦ inr (shorter.0, ap (λ h. h ∷ a) heads ∙ ap (λ t. y ∷ t) shorter.1)
    ]

-- more bytes never spell less
value_of-more : (bytes more : List ℕ) → value_of bytes ≤ value_of (bytes ++ more)
value_of-more bytes [] = rw append-nil (omega arith)
value_of-more [] (byte ∷ more) = omega (arith, value_of-none)
value_of-more (first ∷ bytes) (byte ∷ more) =
    let next = value_of-push (first ∷ bytes) byte (omega arith) in
    let rest = value_of-more ((first ∷ bytes) ++ byte ∷ []) more in
    let same = ap value_of (append_assoc (first ∷ bytes) (byte ∷ []) more) in
    omega (arith, next, rest, same)

no_bytes : (bytes : List ℕ) → length bytes ≡ 0 → bytes ≡ []
no_bytes [] e = refl
no_bytes (byte ∷ bytes) e = absurd (omega (arith, e))

-- the last byte of a number ends it
ended : (front more : List ℕ) (last : ℕ) → goes_on last ≡ false → list_all goes_on ((front ++ last ∷ []) ++ more) ≡ true → ⊥
ended front more last ends going =
    let whole = (and_parts _ _ (sym (list_all-append goes_on (front ++ last ∷ []) more) ∙ going)).0 in
    let at_last = (and_parts _ _ (sym (list_all-append goes_on front (last ∷ [])) ∙ whole)).1 in
    false≢true (sym ends ∙ (and_parts _ _ at_last).0)

-- bytes that go on to their last one go no further than a number that they begin with
no_longer : (bytes more front : List ℕ) (byte last : ℕ) (number : ℕ × ℕ) → front ++ last ∷ [] ≡ bytes ++ byte ∷ more → list_all goes_on front ≡ true
    → Decodes bytes (Ok number) → ⊥
no_longer bytes more front byte last number is going read =
    elim (fronts front (last ∷ []) bytes (byte ∷ more) is) [
      | inl within ↦
          let whole = ap length is in
          let part = ap length within.1 in
          let a = length-append front (last ∷ []) in
          let b = length-append bytes (byte ∷ more) in
          let d = length-append front within.0 in
          let none : within.0 ≡ [] = no_bytes within.0 (omega (arith, whole, part, a, b, d)) in
          let is_front : (read.0 ++ read.1 ∷ []) ++ [] ≡ front
          = append-nil (read.0 ++ read.1 ∷ []) ∙ sym read.2 ∙ within.1 ∙ ap (λ ws. front ++ ws) none ∙ append-nil front
          in
          ended read.0 [] read.1 read.4 (ap (λ xs. list_all goes_on xs) is_front ∙ going)
      | inr beyond ↦
          let is_front : (read.0 ++ read.1 ∷ []) ++ beyond.0 ≡ front = ap (λ xs. xs ++ beyond.0) (sym read.2) ∙ sym beyond.1 in
          ended read.0 beyond.0 read.1 read.4 (ap (λ xs. list_all goes_on xs) is_front ∙ going)
    ]

-- nor do bytes that go above 64 bits
no_further : (bytes past more : List ℕ) (number : ℕ × ℕ) → past ≡ bytes ++ more → number.0 < 2 ^ 64 → Decodes bytes (Ok number)
    → Decodes past (Err Overflow) → ⊥
no_further bytes past [] number is fits read over =
    let same = ap value_of (is ∙ append-nil bytes) in omega (arith, same, read.5, fits, over.4)
no_further bytes past (byte ∷ more) number is fits read over = no_longer bytes more over.0 byte over.1 number (sym over.2 ∙ is) over.3.going read

same_pair : (number other : ℕ × ℕ) → number.0 ≡ other.0 → number.1 ≡ other.1 → number ≡ other
same_pair (value, count) (other, others) is same = cc (is, same)

-- a number goes no further than one that it begins with
same_number : (bytes past more : List ℕ) (number other : ℕ × ℕ) → past ≡ bytes ++ more → Decodes bytes (Ok number) → Decodes past (Ok other)
    → number ≡ other
same_number bytes past [] number other is read again =
    let same = is ∙ append-nil bytes in
    same_pair number other (sym read.5 ∙ ap value_of (sym same) ∙ again.5) (sym read.6 ∙ ap length (sym same) ∙ again.6)
same_number bytes past (byte ∷ more) number other is read again =
    absurd (no_longer bytes more again.0 byte again.1 number (sym again.2 ∙ is) again.3.going read)

-- Bytes begin with one number.
pub one_number : (bytes rest past others : List ℕ) (number other : ℕ × ℕ) → bytes ++ rest ≡ past ++ others → Decodes bytes (Ok number)
    → Decodes past (Ok other) → number ≡ other
one_number bytes rest past others number other same read again =
    elim (fronts bytes rest past others same) [
      | inl longer ↦ same_number bytes past longer.0 number other longer.1 read again
      | inr shorter ↦ sym (same_number past bytes shorter.0 other number shorter.1 again read)
    ]

-- Bytes that begin with a number don't go above 64 bits.
pub number-no_overflow : (bytes rest past others : List ℕ) (number : ℕ × ℕ) → bytes ++ rest ≡ past ++ others → number.0 < 2 ^ 64 → Decodes bytes (Ok number)
    → Decodes past (Err Overflow) → ⊥
number-no_overflow bytes rest past others number same fits read over =
    elim (fronts bytes rest past others same) [
      | inl longer ↦ no_further bytes past longer.0 number longer.1 fits read over
      | inr shorter ↦
          let less = value_of-more past shorter.0 in
          let whole = ap value_of shorter.1 in
          omega (arith, less, whole, read.5, fits, over.4)
    ]

-- Nor do bytes that end before the number does.
pub truncated-no_overflow : (bytes past others : List ℕ) → bytes ≡ past ++ others → Decodes bytes (Err Truncated) → Decodes past (Err Overflow) → ⊥
truncated-no_overflow bytes past others same cut over =
    let less = value_of-more past others in
    let whole = ap value_of same in
    omega (arith, less, whole, cut.fits, over.4)

-- Bytes that begin with a number don't end before it does.
pub number-not_truncated : (bytes rest : List ℕ) (number : ℕ × ℕ) → Decodes bytes (Ok number) → Decodes (bytes ++ rest) (Err Truncated) → ⊥
number-not_truncated bytes rest number read cut = ended read.0 rest read.1 read.4 (ap (λ xs. list_all goes_on (xs ++ rest)) (sym read.2) ∙ cut.going)

-- What was read of bytes and its result: bytes that were cut off were read to their end, and a number has 64 bits.
pub record Reading (left : List ℕ) (result : Result (ℕ × ℕ) Error) : Type 0 where
  pub bytes : List ℕ
  pub rest : List ℕ
  pub are_left : left ≡ bytes ++ rest
  pub decoded : Decodes bytes result
  pub whole : result ≡ Err Truncated → rest ≡ []
  pub fits : IfOk result (λ number. number.0 < 2 ^ 64)

cut_off : (left : List ℕ) (reading : Reading left (Err Truncated)) → Decodes left (Err Truncated)
cut_off left reading =
    subst (λ bytes. Decodes bytes (Err Truncated)) (sym (reading.are_left ∙ ap (λ rest. reading.bytes ++ rest) (reading.whole refl) ∙ append-nil reading.bytes))
    reading.decoded

number-cut_off : (left : List ℕ) (number : ℕ × ℕ) → Reading left (Ok number) → Reading left (Err Truncated) → ⊥
number-cut_off left number reading cut =
    number-not_truncated reading.bytes reading.rest number reading.decoded
    (subst (λ bytes. Decodes bytes (Err Truncated)) reading.are_left (cut_off left cut))

number-overflow : (left : List ℕ) (number : ℕ × ℕ) → Reading left (Ok number) → Reading left (Err Overflow) → ⊥
number-overflow left number reading over =
    number-no_overflow reading.bytes reading.rest over.bytes over.rest number (sym reading.are_left ∙ over.are_left) reading.fits reading.decoded over.decoded

cut_off-overflow : (left : List ℕ) → Reading left (Err Truncated) → Reading left (Err Overflow) → ⊥
cut_off-overflow left cut over = truncated-no_overflow left over.bytes over.rest over.are_left (cut_off left cut) over.decoded

-- Of the same bytes one number is read, or one reason is given, if no source failed.
pub one_answer : (left : List ℕ) (one other : Result (ℕ × ℕ) Error) → Reading left one → Reading left other → (one ≡ Err Source → ⊥)
    → (other ≡ Err Source → ⊥) → one ≡ other
one_answer left (Ok number) (Ok other) first second read again =
    ap Ok (one_number first.bytes first.rest second.bytes second.rest number other (sym first.are_left ∙ second.are_left) first.decoded second.decoded)
one_answer left (Ok number) (Err Overflow) first second read again = absurd (number-overflow left number first second)
one_answer left (Ok number) (Err Truncated) first second read again = absurd (number-cut_off left number first second)
one_answer left (Err Overflow) (Ok other) first second read again = absurd (number-overflow left other second first)
one_answer left (Err Overflow) (Err Overflow) first second read again = refl
one_answer left (Err Overflow) (Err Truncated) first second read again = absurd (cut_off-overflow left second first)
one_answer left (Err Truncated) (Ok other) first second read again = absurd (number-cut_off left other second first)
one_answer left (Err Truncated) (Err Overflow) first second read again = absurd (cut_off-overflow left first second)
one_answer left (Err Truncated) (Err Truncated) first second read again = refl
one_answer left (Err Source) other first second read again = absurd (read refl)
one_answer left (Ok number) (Err Source) first second read again = absurd (again refl)
one_answer left (Err Overflow) (Err Source) first second read again = absurd (again refl)
one_answer left (Err Truncated) (Err Source) first second read again = absurd (again refl)
