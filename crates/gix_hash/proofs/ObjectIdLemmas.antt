-- Laws of ids and their hex text.
use Rattle.std.proofs.Common.{◌≡◌, ◌≢◌, ℕ, suc, ◌+◌, ◌*◌, ◌/◌, ◌%◌, ◌<◌, ◌==◌, ◌&&◌, nat_lt, is_some, Bool, true, false, List, [], ◌∷◌, length, slice_index}
use Rattle.std.proofs.Common.{Option, Some, None, unwrap_or, if◌then◌else◌, cond, ◌⊎◌, inl, inr, Result, Ok, Err, refl, sym, ap, ◌∙◌, arith}
use Rattle.std.specs.List.{AllPass}
use Rattle.std.specs.Result.{result_unwrap_or}
use Rattle.std.proofs.lemmas.Bool.{agree_below_at, and_parts, eqb-true}
use Rattle.std.proofs.lemmas.List.Sums.{AllPass-from_list_all}
use Rattle.std.proofs.lemmas.List.Elements.{All-weaker}
use Rattle.hex.specs.Hex.{IsBytes, decode_of, decode_pairs, digit_or_error, encode_lower, encode_with, hex_digit_value, is_hex_digit, lower_digits, pair_value, value_at}
use Rattle.hex.specs.declared.error.FromHexError.{FromHexError}
use Rattle.hex.proofs.Pairs.{cons_byte, decode_pairs-ok_pair}
use Rattle.hex.proofs.HexLemmas.{decode_of-encode_lower, decode_of-even, decode_of-ok, length-encode_with}
use Rattle.gix_hash.specs.Kind.{len_in_bytes_of}
use Rattle.gix_hash.specs.ObjectId.{bytes_of, hex_of, id_of, is_lower_digit, is_lower_text, kind_of, made_by, IsId}
use Rattle.gix_hash.specs.declared.object_id.ObjectId.{ObjectId}
use Rattle.gix_hash.specs.declared.object_id.ObjectId.TheVariants.{Sha1, Sha256}

-- ---- lower-case digits

-- the value of a digit
abbrev lower_value : ℕ → ℕ
lower_value c = unwrap_or (hex_digit_value c) 0

-- whether the table has c at its value
abbrev is_at_its_value : ℕ → Bool
is_at_its_value c = nat_lt (lower_value c) 16 && slice_index lower_digits (lower_value c) == c

-- whether c has a value, and the table has it there
abbrev reads_as_its_place : ℕ → Bool
reads_as_its_place c = is_some (hex_digit_value c) && is_at_its_value c

-- a digit in lower case reads as its place in the table
lower_digit-place : (c : ℕ) → is_lower_digit c ≡ true → reads_as_its_place c ≡ true
lower_digit-place c low =
    let small : c < 103 = grind arith in
    let same = agree_below_at is_lower_digit (λ d. is_lower_digit d && reads_as_its_place d) 103 c refl small in
    (and_parts (is_lower_digit c) (reads_as_its_place c) (sym same ∙ low)).1

-- an option that is there
some_of : (o : Option ℕ) → is_some o ≡ true → o ≡ Some (unwrap_or o 0)
some_of (Some v) h = refl
some_of None h = cc h

-- each digit of the table is in lower case
is_lower_digit-digit : (v : ℕ) → v < 16 → is_lower_digit (slice_index lower_digits v) ≡ true
is_lower_digit-digit v fits = agree_below_at (λ d. is_lower_digit (slice_index lower_digits d)) (λ d. true) 16 v refl fits

-- the hex text of some bytes is in lower case
is_lower_text-encode_lower : (xs : List ℕ) → IsBytes xs → is_lower_text (encode_lower xs) ≡ true
unfolding encode_with
is_lower_text-encode_lower [] h = refl
is_lower_text-encode_lower (b ∷ rest) h =
    let fits : b < 256 = h 0 in
    let high = is_lower_digit-digit (b / 16) (omega arith) in
    let low = is_lower_digit-digit (b % 16) (omega arith) in
    let ih = is_lower_text-encode_lower rest (λ k. h (suc k)) in
    rw (high, low, ih) refl

-- the bytes of a result that is `Ok`
abbrev bytes_or_none : Result (List ℕ) FromHexError → List ℕ
bytes_or_none r = result_unwrap_or r []

-- a byte before decoded bytes, split off
cons_byte-ok : (v : ℕ) (r : Result (List ℕ) FromHexError) (bytes : List ℕ) → cons_byte v r ≡ Ok bytes
    → (rest : List ℕ) × (r ≡ Ok rest) × (v ∷ rest ≡ bytes)
cons_byte-ok v (Ok rest) bytes h = (rest, refl, ap bytes_or_none h)
cons_byte-ok v (Err e) bytes h = cc h

-- what a digit in lower case reads as
value_at-lower : (c i : ℕ) → is_lower_digit c ≡ true
    → (value_at c i ≡ Ok (lower_value c)) × (lower_value c < 16) × (slice_index lower_digits (lower_value c) ≡ c)
value_at-lower c i low =
    let place = and_parts (is_some (hex_digit_value c)) (is_at_its_value c) (lower_digit-place c low) in
    let inside = and_parts (nat_lt (lower_value c) 16) (slice_index lower_digits (lower_value c) == c) place.1 in
    let reads : hex_digit_value c ≡ Some (lower_value c) = some_of (hex_digit_value c) place.0 in
    (ap (digit_or_error c i) reads, grind (arith, inside.0), eqb-true _ _ inside.1)

-- lower-case digits that decode are the text of what they decode to
encode_lower-decode_pairs : (i : ℕ) (text bytes : List ℕ) → is_lower_text text ≡ true → decode_pairs i text ≡ Ok bytes
    → encode_lower bytes ≡ text
unfolding encode_with decode_pairs
encode_lower-decode_pairs i [] bytes low h =
    let none : [] ≡ bytes = ap bytes_or_none h in
    rw (← none) refl
encode_lower-decode_pairs i (a ∷ []) bytes low h = cc h
encode_lower-decode_pairs i (a ∷ b ∷ rest) bytes low h =
    let first = and_parts _ _ low in
    let second = and_parts _ _ first.1 in
    let high = value_at-lower a i first.0 in
    let down = value_at-lower b (i + 1) second.0 in
    let pair : pair_value a b i ≡ Ok (lower_value a * 16 + lower_value b) = rw (high.0, down.0) refl in
    let tail = cons_byte-ok _ _ bytes (sym (decode_pairs-ok_pair i a b _ rest pair) ∙ h) in
    let ih = encode_lower-decode_pairs (i + 2) rest tail.0 second.1 tail.1 in
    let quotient : (lower_value a * 16 + lower_value b) / 16 ≡ lower_value a = omega (arith, down.1) in
    let remainder : (lower_value a * 16 + lower_value b) % 16 ≡ lower_value b = omega (arith, down.1) in
    rw (← tail.2, quotient, remainder, high.2, down.2, ih) refl

-- a text in lower case that decodes is the text of what it decodes to
pub encode_lower-decode_of : (text bytes : List ℕ) → is_lower_text text ≡ true → decode_of text ≡ Ok bytes
    → encode_lower bytes ≡ text
encode_lower-decode_of text bytes low h =
    let even = (decode_of-ok text bytes h).0 in
    encode_lower-decode_pairs 0 text bytes low (sym (decode_of-even text even) ∙ h)

-- digits in lower case are digits
lower_digit-is_digit : (c : ℕ) → is_lower_digit c ≡ true → is_hex_digit c ≡ true
lower_digit-is_digit c low = (and_parts (is_some (hex_digit_value c)) (is_at_its_value c) (lower_digit-place c low)).0

-- a text in lower case has digits alone
pub digits-is_lower_text : (text : List ℕ) → is_lower_text text ≡ true → AllPass is_hex_digit text
digits-is_lower_text text low =
    All-weaker (λ c. is_lower_digit c ≡ true) (λ c. is_hex_digit c ≡ true) lower_digit-is_digit text
    (AllPass-from_list_all is_lower_digit text low)

-- ---- which texts are ids

-- a text of forty digits in lower case
pub id_of-Sha1 : (text bytes : List ℕ) → is_lower_text text ≡ true → length text ≡ 40 → decode_of text ≡ Ok bytes
    → id_of text ≡ Some (Sha1 bytes)
unfolding id_of
id_of-Sha1 text bytes low size h =
    let pairs : decode_pairs 0 text ≡ Ok bytes = sym (decode_of-even text (omega arith)) ∙ h in
    rw (low, size, pairs) refl

-- a text of sixty-four digits in lower case
pub id_of-Sha256 : (text bytes : List ℕ) → is_lower_text text ≡ true → length text ≡ 64 → decode_of text ≡ Ok bytes
    → id_of text ≡ Some (Sha256 bytes)
unfolding id_of
id_of-Sha256 text bytes low size h =
    let pairs : decode_pairs 0 text ≡ Ok bytes = sym (decode_of-even text (omega arith)) ∙ h in
    rw (low, size, pairs) refl

-- a text of another length is no id
pub id_of-other_length : (text : List ℕ) → length text ≢ 40 → length text ≢ 64 → id_of text ≡ None
unfolding id_of
id_of-other_length text short long = grind arith

-- a text with another byte is no id
pub id_of-other_byte : (text : List ℕ) → is_lower_text text ≡ false → id_of text ≡ None
unfolding id_of
id_of-other_byte text h = rw h refl

-- ---- the round trip

-- an id has two digits for each of its bytes
pub length-hex_of : (id : ObjectId) → IsId id → length (hex_of id) ≡ 2 * len_in_bytes_of (kind_of id)
length-hex_of id is =
    let twice = length-encode_with lower_digits (bytes_of id) in
    let size = is.size in
    omega (arith, twice, size)

-- the text of an id is in lower case
pub is_lower_text-hex_of : (id : ObjectId) → IsId id → is_lower_text (hex_of id) ≡ true
is_lower_text-hex_of id is = is_lower_text-encode_lower (bytes_of id) is.bytes

-- the text of an id is the hex text of that id
pub id_of-hex_of : (id : ObjectId) → IsId id → id_of (hex_of id) ≡ Some id
id_of-hex_of (Sha1 bytes) is =
    id_of-Sha1 (encode_lower bytes) bytes (is_lower_text-hex_of (Sha1 bytes) is) (length-hex_of (Sha1 bytes) is)
    (decode_of-encode_lower bytes is.bytes)
id_of-hex_of (Sha256 bytes) is =
    id_of-Sha256 (encode_lower bytes) bytes (is_lower_text-hex_of (Sha256 bytes) is) (length-hex_of (Sha256 bytes) is)
    (decode_of-encode_lower bytes is.bytes)

-- what a test chose
chosen : {A : Type 0} (b : Bool) (x y : A) → (b ≡ true) × (cond b x y ≡ x) ⊎ ((b ≡ false) × (cond b x y ≡ y))
chosen true x y = inl (refl, refl)
chosen false x y = inr (refl, refl)

-- an id that was made of decoded bytes
made_by-some : (made : List ℕ → ObjectId) (r : Result (List ℕ) FromHexError) (id : ObjectId) → made_by made r ≡ Some id
    → (bytes : List ℕ) × (r ≡ Ok bytes) × (made bytes ≡ id)
made_by-some made (Ok bytes) id h = (bytes, refl, ap (λ (o : Option ObjectId). unwrap_or o id) h)
made_by-some made (Err e) id h = cc h

-- a text that is the hex text of some id: its digits, its length, and what it decodes to
id_of-cases : (text : List ℕ) (id : ObjectId) → id_of text ≡ Some id
    → (bytes : List ℕ) × (is_lower_text text ≡ true) × (decode_of text ≡ Ok bytes)
    × (((length text ≡ 40) × (Sha1 bytes ≡ id)) ⊎ ((length text ≡ 64) × (Sha256 bytes ≡ id)))
unfolding id_of
id_of-cases text id h =
    elim (chosen (is_lower_text text) (if length text == 40 then made_by Sha1 (decode_of text)
    else if length text == 64 then made_by Sha256 (decode_of text)
    else None) None) [
      | inl low ↦
          elim (chosen (length text == 40) (made_by Sha1 (decode_of text)) (if length text == 64 then made_by Sha256 (decode_of text) else None)) [
            | inl short ↦
                let made = made_by-some Sha1 (decode_of text) id (sym short.1 ∙ sym low.1 ∙ h) in
                (made.0, low.0, made.1, inl (eqb-true _ _ short.0, made.2))
            | inr other ↦
                elim (chosen (length text == 64) (made_by Sha256 (decode_of text)) None) [
                  | inl long ↦
                      let made = made_by-some Sha256 (decode_of text) id (sym long.1 ∙ sym other.1 ∙ sym low.1 ∙ h) in
                      (made.0, low.0, made.1, inr (eqb-true _ _ long.0, made.2))
                  | inr none ↦ cc (sym none.1 ∙ sym other.1 ∙ sym low.1 ∙ h)
                ]
          ]
      | inr bad ↦ cc (sym bad.1 ∙ h)
    ]

-- the id of a text has that text
pub hex_of-id_of : (text : List ℕ) (id : ObjectId) → id_of text ≡ Some id → hex_of id ≡ text
hex_of-id_of text id h =
    let found = id_of-cases text id h in
    let same = encode_lower-decode_of text found.0 found.1 found.2 in
    elim found.3 [
      | inl short ↦ rw (← short.1) same
      | inr long ↦ rw (← long.1) same
    ]

-- the id of a text is one
pub IsId-id_of : (text : List ℕ) (id : ObjectId) → id_of text ≡ Some id → IsId id
IsId-id_of text id h =
    let found = id_of-cases text id h in
    let ok = decode_of-ok text found.0 found.2 in
    let twice = ok.2 in
    elim found.3 [
      | inl short ↦ rw (← short.1) record { bytes = ok.3; size = omega (arith, twice, short.0) }
      | inr long ↦ rw (← long.1) record { bytes = ok.3; size = omega (arith, twice, long.0) }
    ]

-- two ids with one hex text are one
pub hex_of-same : (a b : ObjectId) → IsId a → IsId b → hex_of a ≡ hex_of b → a ≡ b
hex_of-same a b first second same =
    ap (λ (o : Option ObjectId). unwrap_or o a) (sym (id_of-hex_of a first) ∙ ap id_of same ∙ id_of-hex_of b second)
