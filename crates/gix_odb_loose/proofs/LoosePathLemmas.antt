-- The path of an object's file: hex digits are names, and an id's digits may be cut after the first two.
use Rattle.std.proofs.Common.{◌≡◌, ℕ, zero, suc, ◌*◌, ◌^◌, ◌<◌, ◌≤◌, ◌==◌, true, false, List, [], ◌∷◌, ◌++◌, length, take, drop, get_or, sym, ap, ◌∙◌, arith, append_assoc}
use Rattle.std.proofs.Common.{refl}
use Rattle.std.specs.List.{list_any}
use Rattle.std.proofs.lemmas.Bool.{and_parts}
use Rattle.std.proofs.lemmas.Grind.{common_steps}
use Rattle.std.proofs.lemmas.List.{take-append-drop, length-take, length-drop}
use Rattle.std.proofs.lemmas.List.Folds.{list_all-append}
use Rattle.std.specs.Str.{all_ascii_digits}
use Rattle.std.specs.Char.{is_ascii_digit}
use Rattle.std.specs.Fmt.{decimal}
use Rattle.std.proofs.lemmas.Fmt.{digits_decimal}
use Rattle.odb_base.proofs.DecimalLemmas.{own}
use Rattle.odb_base.specs.Path.{Path, is_name}
use Rattle.gix_hash.specs.ObjectId.{IsId, hex_of, kind_of, is_lower_digit, is_lower_text}
use Rattle.gix_hash.specs.Kind.{digits_in, len_in_bytes_of}
use Rattle.gix_hash.specs.declared.kind.Kind as hash
use Rattle.gix_hash.specs.declared.kind.Kind.TheVariants.{Sha1, Sha256}
use Rattle.gix_hash.specs.declared.object_id.ObjectId.{ObjectId}
use Rattle.gix_hash.proofs.ObjectIdLemmas.{is_lower_text-hex_of, length-hex_of}
use Rattle.gix_odb_loose.specs.LooseFile.{loose_path}
use Rattle.gix_odb_loose.specs.WriteOrder.{prefix_path, temp_name, temp_path}

-- ---- hex digits as names

-- hex digits are neither NUL, a dot nor a slash
no_other : (d c : ℕ) → is_lower_digit d ≡ true → c < 48 → (d == c) ≡ false
no_other d c digit low = grind (arith, common_steps, digit, low)

none_other : (c : ℕ) (text : List ℕ) → is_lower_text text ≡ true → c < 48 → list_any (λ b. b == c) text ≡ false
none_other c [] digits low = refl
none_other c (d ∷ ds) digits low =
    let parts = and_parts (is_lower_digit d) (is_lower_text ds) digits in
    rw (no_other d c parts.0 low, none_other c ds parts.1 low) refl

pub is_name-digits : (text : List ℕ) → is_lower_text text ≡ true → 0 < length text → is_name text ≡ true
unfolding is_name
is_name-digits [] digits some = absurd (omega arith)
is_name-digits (d ∷ ds) digits some =
    let parts = and_parts (is_lower_digit d) (is_lower_text ds) digits in
    rw (no_other d 46 parts.0 (omega arith), none_other 0 (d ∷ ds) digits (omega arith), none_other 47 (d ∷ ds) digits (omega arith)) refl

halves : (n : ℕ) (text : List ℕ) → is_lower_text text ≡ true → (is_lower_text (take n text) ≡ true) × (is_lower_text (drop n text) ≡ true)
halves n text digits =
    and_parts (is_lower_text (take n text)) (is_lower_text (drop n text))
    (sym (list_all-append is_lower_digit (take n text) (drop n text)) ∙ ap is_lower_text (take-append-drop n text) ∙ digits)

-- an id has as many hex digits as one of the shorter hash, or more
pub long_hex : (id : ObjectId) → IsId id → digits_in Sha1 ≤ length (hex_of id)
long_hex id is = rw (length-hex_of id is) (twice (kind_of id))
  where
    twice : (kind : hash.Kind) → digits_in Sha1 ≤ 2 * len_in_bytes_of kind
    twice Sha1 = omega arith
    twice Sha256 = omega arith

-- the first two digits are a name, and so are the others
pub is_name-front : (id : ObjectId) (part text : List ℕ) → IsId id → part ≡ take 2 text → text ≡ hex_of id → is_name part ≡ true
is_name-front id part text is cut same =
    let long = long_hex id is in
    rw (cut, same) (is_name-digits (take 2 (hex_of id)) (halves 2 (hex_of id) (is_lower_text-hex_of id is)).0 (omega (arith, length-take 2 (hex_of id))))

pub is_name-rest : (id : ObjectId) (part text : List ℕ) → IsId id → part ≡ drop 2 text → text ≡ hex_of id → is_name part ≡ true
is_name-rest id part text is cut same =
    let long = long_hex id is in
    rw (cut, same) (is_name-digits (drop 2 (hex_of id)) (halves 2 (hex_of id) (is_lower_text-hex_of id is)).1 (omega (arith, length-drop 2 (hex_of id))))

-- any place between hex digits is one where a text may be cut
ascii_at : (i : ℕ) (text : List ℕ) → is_lower_text text ≡ true → get_or text i 0 < 128
ascii_at i [] digits = omega arith
ascii_at zero (d ∷ ds) digits = let parts = and_parts (is_lower_digit d) (is_lower_text ds) digits in grind (arith, common_steps, parts.0)
ascii_at (suc i) (d ∷ ds) digits = ascii_at i ds (and_parts (is_lower_digit d) (is_lower_text ds) digits).1

pub cut_at_two : (id : ObjectId) (text : List ℕ) → IsId id → text ≡ hex_of id → (2 ≤ length text) × (2 < length text → 128 ≤ get_or text 2 0 → 192 ≤ get_or text 2 0)
cut_at_two id text is same =
    let long = long_hex id is in
    let low = ascii_at 2 text (ap is_lower_text same ∙ is_lower_text-hex_of id is) in
    (rw same (omega arith), λ inside high. absurd (omega arith))

pub loose_path-joined : (objects folder : Path) (id : ObjectId) (front rest text : List ℕ) → text ≡ hex_of id → front ≡ take 2 text → rest ≡ drop 2 text
    → folder ≡ objects ++ front ∷ [] → loose_path objects id ≡ folder ++ rest ∷ []
unfolding loose_path
loose_path-joined objects folder id front rest text same first second way = rw (way, first, second, same) (sym (append_assoc objects _ _))

pub prefix_path-joined : (objects : Path) (id : ObjectId) (front text : List ℕ) → text ≡ hex_of id → front ≡ take 2 text → prefix_path objects id ≡ objects ++ front ∷ []
unfolding prefix_path
prefix_path-joined objects id front text same first = rw (first, same) refl

-- ---- temporary names

-- decimal digits are neither NUL nor a slash
no_digit : (d c : ℕ) → is_ascii_digit d ≡ true → c < 48 → (d == c) ≡ false
no_digit d c digit low = grind (arith, common_steps, digit, low)

none_digit : (c : ℕ) (text : List ℕ) → all_ascii_digits text ≡ true → c < 48 → list_any (λ b. b == c) text ≡ false
none_digit c [] digits low = refl
none_digit c (d ∷ ds) digits low =
    let parts = and_parts (is_ascii_digit d) (all_ascii_digits ds) digits in
    rw (no_digit d c parts.0 low, none_digit c ds parts.1 low) refl

pub is_name-temp : (number : ℕ) (name : List ℕ) → number < 2 ^ 64 → name ≡ temp_name number → is_name name ≡ true
unfolding is_name temp_name
is_name-temp number name fits same =
    let digits = digits_decimal own number fits in
    rw (same, none_digit 0 (decimal number) digits (omega arith), none_digit 47 (decimal number) digits (omega arith)) refl

pub temp_path-joined : (objects : Path) (number : ℕ) (name : List ℕ) → name ≡ temp_name number → temp_path objects number ≡ objects ++ name ∷ []
unfolding temp_path
temp_path-joined objects number name same = rw same refl
