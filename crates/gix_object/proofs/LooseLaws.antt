-- The laws of loose objects: `loose_of` finds exactly what the grammar allows, and what is encoded is read back.
use Rattle.std.specs.Prelude.{◌≡◌, ℕ, ◌+◌, ◌<◌, ◌≤◌, ◌^◌, ◌==◌, true, false, not, nat_lt, List, [], ◌∷◌, ◌++◌, length, take, drop, Option, Some, None, option_and_then, refl}
use Rattle.std.proofs.Common.{inl, inr, sym, ap, ◌∙◌, subst, arith, append_assoc}
use Rattle.std.specs.List.{position_or_len, before_first, after_first}
use Rattle.std.specs.Str.{all_ascii_digits}
use Rattle.std.specs.Char.{is_ascii_digit}
use Rattle.std.specs.Fmt.{decimal}
use Rattle.std.proofs.lemmas.Bool.{and_parts, cases_lt, le-ltb, lt-ltb}
use Rattle.std.proofs.lemmas.Grind.{common_steps}
use Rattle.std.proofs.lemmas.Fmt.{digits_decimal, length-decimal-le}
use Rattle.std.proofs.lemmas.List.{drop_all, length-append, length-take, length-take-le}
use Rattle.std.proofs.lemmas.List.Folds.{list_all-append}
use Rattle.std.proofs.Math.Seq.{take-append_seam, drop-append-add}
use Rattle.odb_base.specs.Decimal.{number_of}
use Rattle.odb_base.proofs.DecimalLemmas.{own, IsNumber-number_of, number_of-decimal, decimal-number_of, number_of-fits}
use Rattle.gix_object.specs.Kind.{kind_of_word, kind_word}
use Rattle.gix_object.proofs.KindLaws.{kind_of_word-kind_word, kind_word-kind_of_word}
use Rattle.gix_object.specs.Loose.{IsLoose, LooseObject, header_of, header_room, longest_header, loose_of, spelled}
use Rattle.gix_object.proofs.PlaceLemmas.{lacks, first_place, before_place, after_place, place_in_take, split_at_byte, take_place}
use Rattle.gix_object.specs.declared.kind.Kind.{Kind}
use Rattle.gix_object.specs.declared.kind.Kind.TheVariants.{Commit, Tree, Blob, Tag}

-- ---- a header

-- a word has no space and no NUL
lacks_space : (kind : Kind) → lacks 32 (kind_word kind) ≡ true
lacks_space Commit = refl
lacks_space Tree = refl
lacks_space Blob = refl
lacks_space Tag = refl

lacks_nul : (kind : Kind) → lacks 0 (kind_word kind) ≡ true
lacks_nul Commit = refl
lacks_nul Tree = refl
lacks_nul Blob = refl
lacks_nul Tag = refl

no_digit : (d c : ℕ) → c < 48 → is_ascii_digit d ≡ true → not (d == c) ≡ true
no_digit d c h digit = grind (arith, common_steps, h, digit)

lacks-digits : (c : ℕ) (text : List ℕ) → c < 48 → all_ascii_digits text ≡ true → lacks c text ≡ true
lacks-digits c [] h digits = refl
lacks-digits c (d ∷ ds) h digits =
    let parts = and_parts (is_ascii_digit d) (all_ascii_digits ds) digits in
    rw (no_digit d c h parts.0) (lacks-digits c ds h parts.1)

-- a header without its NUL
abbrev pub front_of : Kind → ℕ → List ℕ
front_of kind size = kind_word kind ++ 32 ∷ decimal size

header_of-front : (kind : Kind) (size : ℕ) (rest : List ℕ) → header_of kind size ++ rest ≡ front_of kind size ++ 0 ∷ rest
unfolding header_of
header_of-front kind size rest = simp append_assoc

length-header_of : (kind : Kind) (size : ℕ) → length (header_of kind size) ≡ length (front_of kind size) + 1
unfolding header_of
length-header_of kind size = simp (append_assoc, length-append) (omega arith)

-- what a header's front spells
pub spelled-front : (kind : Kind) (size : ℕ) (rest : List ℕ) → size < 2 ^ 64 → spelled (front_of kind size) rest ≡ Some (record { kind = kind; size = size; rest = rest })
unfolding spelled
spelled-front kind size rest fits =
    let lack = lacks_space kind in
    rw (before_place 32 (kind_word kind) (decimal size) lack, after_place 32 (kind_word kind) (decimal size) lack, kind_of_word-kind_word kind, number_of-decimal size fits) refl

lacks_nul-front : (kind : Kind) (size : ℕ) → size < 2 ^ 64 → lacks 0 (front_of kind size) ≡ true
lacks_nul-front kind size fits =
    let digits = lacks-digits 0 (decimal size) (omega arith) (digits_decimal own size fits) in
    list_all-append (λ b. not (b == 0)) (kind_word kind) (32 ∷ decimal size) ∙ rw (lacks_nul kind, digits) refl

bound : {A B : Type 0} (x : Option A) (f : A → Option B) (y : B) → option_and_then f x ≡ Some y → (a : A) × (x ≡ Some a) × (f a ≡ Some y)
bound None f y h = cc h
bound (Some a) f y h = (a, refl, h)

no_number : (size : ℕ) → number_of [] ≡ Some size → ⊥
no_number size h = let is = IsNumber-number_of [] size h in cc

-- digits are after some space
pub behind_space : (front : List ℕ) (size : ℕ) → number_of (after_first (λ b. b == 32) front) ≡ Some size → position_or_len (λ b. b == 32) front < length front
behind_space front size h =
    elim (cases_lt (position_or_len (λ b. b == 32) front) (length front)) [
      | inl less ↦ less
      | inr more ↦ absurd (no_number size (ap number_of (sym (drop_all (position_or_len (λ b. b == 32) front + 1) front (omega arith))) ∙ h))
    ]

front_parts : (front rest : List ℕ) (o : LooseObject) (kind : Kind) (size : ℕ) → kind_of_word (before_first (λ b. b == 32) front) ≡ Some kind
    → number_of (after_first (λ b. b == 32) front) ≡ Some size → Some (record { kind = kind; size = size; rest = rest }) ≡ Some o
    → (front_of o.kind o.size ≡ front) × (o.rest ≡ rest) × (o.size < 2 ^ 64)
front_parts front rest o kind size word digits made =
    let same : record { kind = kind; size = size; rest = rest } ≡ o = cc in
    let whole = split_at_byte 32 front (behind_space front size digits) in
    let joined : front_of kind size ≡ front = rw (kind_word-kind_of_word _ kind word, decimal-number_of _ size digits) (sym whole) in
    subst (λ (p : LooseObject). (front_of p.kind p.size ≡ front) × (p.rest ≡ rest) × (p.size < 2 ^ 64)) same (joined, refl, number_of-fits _ size digits)

-- what spells a header is its front
pub front-spelled : (front rest : List ℕ) (o : LooseObject) → spelled front rest ≡ Some o → (front_of o.kind o.size ≡ front) × (o.rest ≡ rest) × (o.size < 2 ^ 64)
unfolding spelled
front-spelled front rest o h =
    let first = bound (kind_of_word (before_first (λ b. b == 32) front)) _ o h in
    let second = bound (number_of (after_first (λ b. b == 32) front)) _ o first.2 in
    front_parts front rest o first.0 second.0 first.1 second.1 second.2

-- ---- a file

-- the object of a file with a NUL where a header may end
pub loose_of-place : (bytes : List ℕ) → position_or_len (λ b. b == 0) (take header_room bytes) < length (take header_room bytes)
    → loose_of bytes ≡ spelled (take (position_or_len (λ b. b == 0) (take header_room bytes)) bytes) (drop (position_or_len (λ b. b == 0) (take header_room bytes) + 1) bytes)
unfolding loose_of
loose_of-place bytes lt = rw (lt-ltb _ _ lt, place_in_take 0 header_room bytes lt) refl

pub loose_of-no_place : (bytes : List ℕ) → length (take header_room bytes) ≤ position_or_len (λ b. b == 0) (take header_room bytes) → loose_of bytes ≡ None
unfolding loose_of
loose_of-no_place bytes h = rw (le-ltb (position_or_len (λ b. b == 0) (take header_room bytes)) (length (take header_room bytes)) h) refl

-- what is found is in the file
pub IsLoose-loose_of : (bytes : List ℕ) (o : LooseObject) → loose_of bytes ≡ Some o → IsLoose bytes o.kind o.size o.rest
IsLoose-loose_of bytes o h =
    elim (cases_lt (position_or_len (λ b. b == 0) (take header_room bytes)) (length (take header_room bytes))) [
      | inl less ↦
          let same = place_in_take 0 header_room bytes less in
          let few = length-take header_room bytes in
          let inside : position_or_len (λ b. b == 0) bytes < length bytes = omega arith in
          let parts = front-spelled (before_first (λ b. b == 0) bytes) (after_first (λ b. b == 0) bytes) o (rw (same) (sym (loose_of-place bytes less) ∙ h)) in
          let size : length (front_of o.kind o.size) ≡ position_or_len (λ b. b == 0) bytes = ap length parts.0 ∙ length-take-le _ bytes (omega arith) in
          record {
            whole = split_at_byte 0 bytes inside ∙ rw (← parts.0, ← parts.1) (sym (header_of-front o.kind o.size o.rest));
            fits = parts.2;
            early = rw (length-header_of) (omega arith);
          }
      | inr more ↦ cc (h, loose_of-no_place bytes more)
    ]

loose_of-front : (kind : Kind) (size : ℕ) (rest : List ℕ) → size < 2 ^ 64 → length (front_of kind size) < header_room
    → loose_of (front_of kind size ++ 0 ∷ rest) ≡ Some (record { kind = kind; size = size; rest = rest })
loose_of-front kind size rest fits early =
    let front = front_of kind size in
    let bytes = front ++ 0 ∷ rest in
    let taken = take_place 0 header_room front rest early in
    let place : position_or_len (λ b. b == 0) (take header_room bytes) ≡ length front =
    ap (λ (xs : List ℕ). position_or_len (λ b. b == 0) xs) taken.1 ∙ first_place 0 front (take taken.0 rest) (lacks_nul-front kind size fits) in
    let long : length (take header_room bytes) ≡ length front + length (0 ∷ take taken.0 rest) = ap length taken.1 ∙ length-append front (0 ∷ take taken.0 rest) in
    loose_of-place bytes (omega arith)
    ∙ ap (λ (n : ℕ). spelled (take n bytes) (drop (n + 1) bytes)) place
    ∙ rw (take-append_seam front (0 ∷ rest), drop-append-add front (0 ∷ rest) 1) (spelled-front kind size rest fits)

-- what is in the file is found
pub loose_of-IsLoose : (bytes : List ℕ) (kind : Kind) (size : ℕ) (rest : List ℕ) → IsLoose bytes kind size rest → loose_of bytes ≡ Some (record { kind = kind; size = size; rest = rest })
loose_of-IsLoose bytes kind size rest is =
    ap loose_of (is.whole ∙ header_of-front kind size rest)
    ∙ loose_of-front kind size rest is.fits (omega (arith, is.early, length-header_of kind size))

-- if nothing is found, no kind, size and rest are in the file
pub none-loose_of : (bytes : List ℕ) → loose_of bytes ≡ None → (kind : Kind) (size : ℕ) (rest : List ℕ) → ¬ (IsLoose bytes kind size rest)
none-loose_of bytes h kind size rest is = cc (h, loose_of-IsLoose bytes kind size rest is)

-- if no kind, size and rest are in the file, nothing is found
pub loose_of-outside : (bytes : List ℕ) → ((kind : Kind) (size : ℕ) (rest : List ℕ) → ¬ (IsLoose bytes kind size rest)) → loose_of bytes ≡ None
loose_of-outside bytes outside = by_found (loose_of bytes) refl
  where
    by_found : (found : Option LooseObject) → loose_of bytes ≡ found → loose_of bytes ≡ None
    by_found None e = e
    by_found (Some o) e = absurd (outside o.kind o.size o.rest (IsLoose-loose_of bytes o e))

-- ---- what is encoded

length-kind_word : (kind : Kind) → length (kind_word kind) ≤ 6
length-kind_word Commit = omega arith
length-kind_word Tree = omega arith
length-kind_word Blob = omega arith
length-kind_word Tag = omega arith

-- no header is longer than the longest
pub length-header_of-fits : (kind : Kind) (size : ℕ) → size < 2 ^ 64 → length (header_of kind size) ≤ longest_header
length-header_of-fits kind size fits =
    let digits = length-decimal-le 20 size (omega arith) (omega arith) fits in
    let word = length-kind_word kind in
    omega (arith, length-header_of kind size, length-append (kind_word kind) (32 ∷ decimal size))

-- a header and what follows it are in the grammar
pub IsLoose-header_of : (kind : Kind) (size : ℕ) (rest : List ℕ) → size < 2 ^ 64 → IsLoose (header_of kind size ++ rest) kind size rest
IsLoose-header_of kind size rest fits =
    record { whole = refl; fits = fits; early = omega (arith, length-header_of-fits kind size fits) }

-- what is encoded is read back, whatever follows
pub loose_of-header_of : (kind : Kind) (size : ℕ) (rest : List ℕ) → size < 2 ^ 64
    → loose_of (header_of kind size ++ rest) ≡ Some (record { kind = kind; size = size; rest = rest })
loose_of-header_of kind size rest fits = loose_of-IsLoose _ kind size rest (IsLoose-header_of kind size rest fits)
