-- What the calls on ids ensure, over plain variables.
use Rattle.std.proofs.Common.{◌≡◌, ◌≢◌, ℕ, zero, suc, ◌*◌, ◌<◌, nat_lt, true, false, List, length, replicate, Option, Some, None, ◌↔◌}
use Rattle.std.proofs.Common.{MatchOption, is_err, OnOk, IfOk, IsErr, IsOk, IsTrue, Result, Ok, Err, refl, sym, ap, ◌∙◌, arith}
use Rattle.std.proofs.lemmas.Bool.{false_from_ne_true}
use Rattle.std.proofs.lemmas.List.Sums.{AllPass-from_list_all}
use Rattle.std.proofs.lemmas.List.Elements.{All-weaker}
use Rattle.std.specs.Str.{IsAscii, IsUtf8}
use Rattle.std.proofs.lemmas.Str.{IsUtf8-from_ascii}
use Rattle.std.proofs.lemmas.Str.Ascii.{IsAscii-from_all}
use Rattle.hex.specs.Hex.{IsBytes, decode_of, decode_sized, encode_lower, lower_digits}
use Rattle.hex.proofs.HexLemmas.{IsOk-decode_sized, IsAscii-encode_with}
use Rattle.gix_hash.specs.ObjectId.{id_of, is_lower_text, IsHexOf, IsId}
use Rattle.gix_hash.specs.declared.object_id.HexError.{HexError}
use Rattle.gix_hash.specs.declared.object_id.ObjectId.{ObjectId}
use Rattle.gix_hash.specs.declared.object_id.ObjectId.TheVariants.{Sha1, Sha256}
use Rattle.gix_hash.proofs.ObjectIdLemmas.{hex_of-id_of, id_of-Sha1, id_of-Sha256, id_of-hex_of, id_of-other_byte, id_of-other_length, digits-is_lower_text, IsId-id_of}

-- zeros are bytes
pub IsBytes-zeros : (n : ℕ) → IsBytes (replicate n 0)
IsBytes-zeros zero i = grind arith
IsBytes-zeros (suc n) zero = omega arith
IsBytes-zeros (suc n) (suc i) = IsBytes-zeros n i

-- ---- what reading a text answers

-- the answer of reading is the id of the text, or an error if it has none
abbrev pub AnswersIdOf : List ℕ → Result ObjectId HexError → Type 0
AnswersIdOf text answer = MatchOption (id_of text) (IsErr answer) (λ id. answer ≡ Ok id)

-- forty digits were read
pub answers_Sha1 : (text bytes : List ℕ) → is_lower_text text ≡ true → length text ≡ 40 → decode_of text ≡ Ok bytes
    → AnswersIdOf text (Ok (Sha1 bytes))
answers_Sha1 text bytes low size h = rw (id_of-Sha1 text bytes low size h) refl

-- sixty-four digits were read
pub answers_Sha256 : (text bytes : List ℕ) → is_lower_text text ≡ true → length text ≡ 64 → decode_of text ≡ Ok bytes
    → AnswersIdOf text (Ok (Sha256 bytes))
answers_Sha256 text bytes low size h = rw (id_of-Sha256 text bytes low size h) refl

-- a text of another length is refused
pub answers_other_length : (text : List ℕ) (answer : Result ObjectId HexError) → length text ≢ 40 → length text ≢ 64
    → IsErr answer → AnswersIdOf text answer
answers_other_length text answer short long refused = rw (id_of-other_length text short long) refused

-- a text of as many digits that is refused for its digits
pub answers_other_byte : (text : List ℕ) (answer : Result ObjectId HexError) (n : ℕ) → length text ≡ n
    → ((length text ≡ n) × (is_lower_text text ≡ true) → false ≡ true) → IsErr answer → AnswersIdOf text answer
answers_other_byte text answer n size unread refused =
    let bad = false_from_ne_true (is_lower_text text) (λ low. cc (unread (size, low))) in
    rw (id_of-other_byte text bad) refused

-- what was read is the hex text of the answer, which is an id
found_at : (given : Option ObjectId) (text : List ℕ) (answer : Result ObjectId HexError) → id_of text ≡ given
    → MatchOption given (IsErr answer) (λ id. answer ≡ Ok id) → IfOk answer (λ id. IsHexOf text id × IsId id)
found_at (Some id) text answer given exact = rw exact (hex_of-id_of text id given, IsId-id_of text id given)
found_at None text (Ok id) given exact = cc exact
found_at None text (Err e) given exact = tt

pub answer-is_id : (text : List ℕ) (answer : Result ObjectId HexError) → AnswersIdOf text answer
    → IfOk answer (λ id. IsHexOf text id × IsId id)
answer-is_id text answer exact = found_at (id_of text) text answer refl exact

-- the text of an id is read as that id
pub only_that_id : (text : List ℕ) (answer : Result ObjectId HexError) → AnswersIdOf text answer
    → (id : ObjectId) → IsId id → IsHexOf text id → answer ≡ Ok id
only_that_id text answer exact id is same =
    let given : id_of text ≡ Some id = ap id_of (sym same) ∙ id_of-hex_of id is in
    rw given at exact

-- which texts in lower case decode into room for n bytes
pub IsOk-decode_sized-lower : (text : List ℕ) (n : ℕ) → is_lower_text text ≡ true
    → IsOk (decode_sized text n) ↔ ((length text ≡ 2 * n) × IsTrue (is_lower_text text))
IsOk-decode_sized-lower text n low =
    let digits = IsOk-decode_sized text n in
    (λ ok. ((digits.0 ok).0, low), λ h. digits.1 (h.0, digits-is_lower_text text low))

-- the digits of hex text are ASCII
lower_digits-IsAscii : IsAscii lower_digits
lower_digits-IsAscii =
    IsAscii-from_all lower_digits
    (All-weaker (λ b. nat_lt b 128 ≡ true) (λ b. b < 128) (λ b h. grind (arith, h)) lower_digits
    (AllPass-from_list_all (λ b. nat_lt b 128) lower_digits refl))

-- hex text is text
pub IsUtf8-encode_lower : (bytes : List ℕ) → IsUtf8 (encode_lower bytes)
IsUtf8-encode_lower bytes =
    IsUtf8-from_ascii (encode_lower bytes) (IsAscii-encode_with lower_digits bytes lower_digits-IsAscii)

-- what holds on success holds if there was no error
pub on_ok_at_no_error : {T E : Type 0} (r : Result T E) (P : Type 0) → is_err r ≡ false → OnOk r P → P
on_ok_at_no_error (Ok x) P no_error h = h
on_ok_at_no_error (Err e) P no_error h = cc no_error
