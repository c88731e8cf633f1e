-- Digits with zeros after them, and the prefixes that are made of them.
use Rattle.std.proofs.Common.{◌≡◌, ℕ, zero, suc, ◌-◌, ◌*◌, ◌≤◌, true, List, [], ◌∷◌, ◌++◌, length, take, drop, inl, inr, Result, Ok, Err}
use Rattle.std.proofs.Common.{IfOk, IsOk, IsErrOf, IsTrue, IsFalse, ◌↔◌, refl, sym, ap, ◌∙◌, subst, arith, length-append, length-take-le}
use Rattle.std.proofs.lemmas.Bool.{and_parts}
use Rattle.std.proofs.Math.Seq.{take-append_seam, drop-append_seam}
use Rattle.gix_hash.specs.Kind.{digits_in, len_in_bytes_of, most_digits}
use Rattle.gix_hash.specs.ObjectId.{hex_of, is_lower_digit, is_lower_text, kind_of, IsHexOf, IsId, IsIdLength}
use Rattle.gix_hash.specs.Prefix.{fewest_digits, zero_digits, HasPrefix, IsPrefix}
use Rattle.gix_hash.specs.declared.kind.Kind.{Kind}
use Rattle.gix_hash.specs.declared.kind.Kind.TheVariants as kind
use Rattle.gix_hash.specs.declared.object_id.HexError.{HexError}
use Rattle.gix_hash.specs.declared.object_id.HexError.TheVariants.{Length, Invalid}
use Rattle.gix_hash.specs.declared.object_id.ObjectId.{ObjectId}
use Rattle.gix_hash.proofs.ObjectIdLemmas.{is_lower_text-hex_of, length-hex_of}

take-zeros : (n m : ℕ) → n ≤ m → take n (zero_digits m) ≡ zero_digits n
take-zeros zero m h = refl
take-zeros (suc n) zero h = absurd (omega arith)
take-zeros (suc n) (suc m) h = ap (λ (xs : List ℕ). 48 ∷ xs) (take-zeros n m (omega arith))

take-beyond : (n : ℕ) (xs ys : List ℕ) → length xs ≤ n → take n (xs ++ ys) ≡ xs ++ take (n - length xs) ys
take-beyond n [] ys h = let all : n ≡ n - 0 = omega arith in ap (λ (m : ℕ). take m ys) all
take-beyond zero (x ∷ xs) ys h = absurd (omega arith)
take-beyond (suc n) (x ∷ xs) ys h =
    let less : suc n - length (x ∷ xs) ≡ n - length xs = omega arith in
    rw less (ap (λ (zs : List ℕ). x ∷ zs) (take-beyond n xs ys (omega arith)))

pub take-with_zeros : (n : ℕ) (digits : List ℕ) → length digits ≤ n → n ≤ most_digits → take n (digits ++ zero_digits (most_digits - length digits)) ≡ digits ++ zero_digits (n - length digits)
take-with_zeros n digits long short = take-beyond n digits _ long ∙ ap (λ (xs : List ℕ). digits ++ xs) (take-zeros (n - length digits) (most_digits - length digits) (omega arith))

length-zeros : (n : ℕ) → length (zero_digits n) ≡ n
length-zeros zero = refl
length-zeros (suc n) = let less = length-zeros n in omega arith

zeros_are_lower : (n : ℕ) → is_lower_text (zero_digits n) ≡ true
zeros_are_lower zero = refl
zeros_are_lower (suc n) = zeros_are_lower n

is_lower_text-with_zeros : (digits : List ℕ) (n : ℕ) → is_lower_text (digits ++ zero_digits n) ≡ is_lower_text digits
is_lower_text-with_zeros [] n = zeros_are_lower n
is_lower_text-with_zeros (d ∷ digits) n = rw (is_lower_text-with_zeros digits n) refl

kinds_of_length : (a b : Kind) → 2 * len_in_bytes_of a ≡ 2 * len_in_bytes_of b → a ≡ b
kinds_of_length kind.Sha1 kind.Sha1 h = refl
kinds_of_length kind.Sha1 kind.Sha256 h = absurd (omega arith)
kinds_of_length kind.Sha256 kind.Sha1 h = absurd (omega arith)
kinds_of_length kind.Sha256 kind.Sha256 h = refl

-- what reading a text of a kind's length answers, by the clauses of that call
module _ (hash : Kind) (text : List ℕ) (size : length text ≡ digits_in hash) where
  pub kind_read : (answer : Result ObjectId HexError) → IfOk answer (λ id. IsHexOf text id) → IfOk answer IsId → IfOk answer (λ id. kind_of id ≡ hash)
  kind_read (Ok id) found is = let long = length-hex_of id is in kinds_of_length (kind_of id) hash (sym long ∙ ap length found ∙ size)
  kind_read (Err e) found is = tt

  is_length : (k : Kind) → length text ≡ digits_in k → IsIdLength (length text)
  is_length kind.Sha1 h = inl h
  is_length kind.Sha256 h = inr h

  pub digits_read : (answer : Result ObjectId HexError) → IfOk answer (λ id. IsHexOf text id) → IfOk answer IsId
      → (IsErrOf answer Length ↔ ¬ (IsIdLength (length text))) → (IsErrOf answer Invalid ↔ (IsIdLength (length text) × IsFalse (is_lower_text text)))
      → IsOk answer ↔ IsTrue (is_lower_text text)
  digits_read (Ok id) found is short bad = (λ _. ap is_lower_text (sym found) ∙ is_lower_text-hex_of id is, λ _. refl)
  digits_read (Err Length) found is short bad = (λ h. cc h, λ h. absurd (short.0 refl (is_length hash size)))
  digits_read (Err Invalid) found is short bad = (λ h. cc h, λ h. cc (h, (bad.0 refl).1))

-- the text of digits with zeros after them
abbrev pub text_of : Kind → List ℕ → List ℕ
text_of hash digits = digits ++ zero_digits (digits_in hash - length digits)

pub length-text_of : (hash : Kind) (digits : List ℕ) → length digits ≤ digits_in hash → length (text_of hash digits) ≡ digits_in hash
length-text_of hash digits long =
    let sum = length-append digits (zero_digits (digits_in hash - length digits)) in
    let behind = length-zeros (digits_in hash - length digits) in
    omega arith

pub lower_both : (hash : Kind) (digits : List ℕ) → is_lower_text (text_of hash digits) ≡ is_lower_text digits
lower_both hash digits = is_lower_text-with_zeros digits (digits_in hash - length digits)

digits_fit : (kind : Kind) → digits_in kind ≤ most_digits
digits_fit kind.Sha1 = omega arith
digits_fit kind.Sha256 = omega arith

-- what is read of the first digits of a kind's length, with zeros after them
pub front_read : (kind : Kind) (digits : List ℕ) → length digits ≤ digits_in kind → take (digits_in kind) (digits ++ zero_digits (most_digits - length digits)) ≡ text_of kind digits
front_read kind digits long = take-with_zeros (digits_in kind) digits long (digits_fit kind)

-- ---- an id of digits and zeros is a prefix

module _ (id : ObjectId) (digits : List ℕ) (is : IsId id) (text : hex_of id ≡ digits ++ zero_digits (digits_in (kind_of id) - length digits)) where
  pub IsPrefix-padded : fewest_digits ≤ length digits → length digits ≤ digits_in (kind_of id) → IsPrefix (record { id = id; hex_len = length digits })
  IsPrefix-padded not_short not_long =
      record {
        id = is;
        not_short = not_short;
        not_long = not_long;
        zeros = ap (drop (length digits)) text ∙ drop-append_seam digits _;
      }

  pub digits-padded : take (length digits) (hex_of id) ≡ digits
  digits-padded = ap (take (length digits)) text ∙ take-append_seam digits _

-- the first digits of an id are as many, and in lower case
pub length-first : (id : ObjectId) (n : ℕ) → IsId id → n ≤ digits_in (kind_of id) → length (take n (hex_of id)) ≡ n
length-first id n is fits = let whole = length-hex_of id is in length-take-le n (hex_of id) (omega arith)

is_lower_text-take : (n : ℕ) (text : List ℕ) → is_lower_text text ≡ true → is_lower_text (take n text) ≡ true
is_lower_text-take zero text h = refl
is_lower_text-take (suc n) [] h = refl
is_lower_text-take (suc n) (d ∷ text) h = let parts = and_parts (is_lower_digit d) (is_lower_text text) h in rw (parts.0, is_lower_text-take n text parts.1) refl

pub lower_first : (id : ObjectId) (n : ℕ) → IsId id → is_lower_text (take n (hex_of id)) ≡ true
lower_first id n is = is_lower_text-take n (hex_of id) (is_lower_text-hex_of id is)

-- the prefix that is made of the first digits of an id
pub first_of : (id made : ObjectId) (n : ℕ) (digits : List ℕ) → IsId id → fewest_digits ≤ n → n ≤ digits_in (kind_of id) → digits ≡ hex_of id → IsId made → kind_of made ≡ kind_of id
    → hex_of made ≡ take n digits ++ zero_digits (digits_in (kind_of id) - length (take n digits))
    → IsPrefix (record { id = made; hex_len = n }) × HasPrefix (record { id = made; hex_len = n }) id
first_of id made n digits is not_short not_long digits_are is_made kind_is text =
    let long : length (take n digits) ≡ n = ap (λ (xs : List ℕ). length (take n xs)) digits_are ∙ length-first id n is not_long in
    let own : hex_of made ≡ take n digits ++ zero_digits (digits_in (kind_of made) - length (take n digits)) = rw kind_is text in
    let room : length (take n digits) ≤ digits_in (kind_of made) = rw (kind_is, long) not_long in
    let prefix = IsPrefix-padded made (take n digits) is_made own (omega arith) room in
    let P : ℕ → Type 0 = λ m. IsPrefix (record { id = made; hex_len = m }) in
    let front : take n (hex_of made) ≡ take n digits = ap (λ (m : ℕ). take m (hex_of made)) (sym long) ∙ digits-padded made (take n digits) is_made own in
    (subst P long prefix, record { kind = sym kind_is; digits = ap (take n) (sym digits_are) ∙ sym front })

drop-zeros : (n m : ℕ) → drop n (zero_digits m) ≡ zero_digits (m - n)
drop-zeros zero m = let all : m ≡ m - 0 = omega arith in ap zero_digits all
drop-zeros (suc n) zero = let none : 0 ≡ 0 - suc n = omega arith in ap zero_digits none
drop-zeros (suc n) (suc m) = let less : suc m - suc n ≡ m - n = omega arith in rw less (drop-zeros n m)

-- digits written over the front of zeros
pub over_zeros : (digits written : List ℕ) → written ≡ digits → written ++ drop (length digits) (zero_digits most_digits) ≡ digits ++ zero_digits (most_digits - length digits)
over_zeros digits written same_digits = rw same_digits (ap (λ (xs : List ℕ). digits ++ xs) (drop-zeros (length digits) most_digits))
