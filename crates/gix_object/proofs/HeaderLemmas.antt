-- What the code reads of a header, in the words of loose objects.
use Rattle.std.proofs.Common.{◌≡◌, ℕ, ◌+◌, ◌<◌, ◌≤◌, ◌^◌, ◌==◌, Bool, true, false, nat_lt, List, [], ◌∷◌, length, take, drop, Option, Some, None, cond, Result}
use Rattle.std.proofs.Common.{Ok, IfOk, IsErr, MatchOption, ◌↔◌, option_map, ok_or, refl, sym, ap, ◌∙◌, subst, arith, length-append, length-drop}
use Rattle.std.specs.Prelude.{option_and_then}
use Rattle.std.specs.List.{list_all, position, position_or_len, before_first, after_first}
use Rattle.std.specs.Fmt.{decimal}
use Rattle.std.specs.Str.{IsAscii, IsUtf8}
use Rattle.std.proofs.lemmas.Bool.{and_parts, ltb-false, ltb-true}
use Rattle.std.proofs.lemmas.Fmt.{IsAscii-decimal}
use Rattle.std.proofs.lemmas.Str.{IsAscii-append, IsUtf8-from_ascii}
use Rattle.std.proofs.lemmas.Str.Ascii.{IsAscii-nil, IsAscii-cons}
use Rattle.odb_base.specs.Decimal.{number_of}
use Rattle.gix_object.specs.declared.kind.Kind.{Kind}
use Rattle.gix_object.specs.declared.kind.Kind.TheVariants.{Commit, Tree, Blob, Tag}
use Rattle.gix_object.specs.Kind.{kind_of_word, kind_word}
use Rattle.std.proofs.Math.Seq.{drop-append_seam}
use Rattle.gix_object.specs.Loose.{IsLoose, LooseObject, head_of, header_of, header_room, loose_of, spelled}
use Rattle.gix_object.proofs.LooseLaws.{IsLoose-loose_of, behind_space, front_of, front-spelled, loose_of-IsLoose, loose_of-no_place, loose_of-place, none-loose_of}

-- ---- a header without its NUL

pub spelled-Some : (front : List ℕ) (kind : Kind) (size : ℕ) (rest : List ℕ) → kind_of_word (before_first (λ b. b == 32) front) ≡ Some kind
    → number_of (after_first (λ b. b == 32) front) ≡ Some size → spelled front rest ≡ Some (record { kind = kind; size = size; rest = rest })
unfolding spelled
spelled-Some front kind size rest word digits = rw (word, digits) refl

pub no_kind : (front : List ℕ) → kind_of_word (before_first (λ b. b == 32) front) ≡ None → (rest : List ℕ) → spelled front rest ≡ None
unfolding spelled
no_kind front word rest = rw word refl

at_none : {A B : Type 0} (x : Option A) → option_and_then {U = B} (λ a. None) x ≡ None
at_none None = refl
at_none (Some a) = refl

pub no_size : (front : List ℕ) → number_of (after_first (λ b. b == 32) front) ≡ None → (rest : List ℕ) → spelled front rest ≡ None
unfolding spelled
no_size front digits rest = rw digits (at_none (kind_of_word (before_first (λ b. b == 32) front)))

no_digits : (front : List ℕ) (found : Option ℕ) → number_of (after_first (λ b. b == 32) front) ≡ found → position_or_len (λ b. b == 32) front ≡ length front
    → found ≡ None
no_digits front None e none = refl
no_digits front (Some size) e none = absurd (omega (arith, behind_space front size e))

pub no_space : (front : List ℕ) → position_or_len (λ b. b == 32) front ≡ length front → (rest : List ℕ) → spelled front rest ≡ None
no_space front none = no_size front (no_digits front _ refl none)

-- each byte of a list is below 128
IsAscii-tested : (cs : List ℕ) → list_all (λ c. nat_lt c 128) cs ≡ true → IsAscii cs
IsAscii-tested [] h = IsAscii-nil
IsAscii-tested (c ∷ cs) h =
    let parts = and_parts (nat_lt c 128) (list_all (λ d. nat_lt d 128) cs) h in
    IsAscii-cons c cs (grind (arith, parts.0)) (IsAscii-tested cs parts.1)

IsAscii-kind_word : (kind : Kind) → IsAscii (kind_word kind)
IsAscii-kind_word Commit = IsAscii-tested (kind_word Commit) refl
IsAscii-kind_word Tree = IsAscii-tested (kind_word Tree) refl
IsAscii-kind_word Blob = IsAscii-tested (kind_word Blob) refl
IsAscii-kind_word Tag = IsAscii-tested (kind_word Tag) refl

IsUtf8-front : (kind : Kind) (size : ℕ) → size < 2 ^ 64 → IsUtf8 (front_of kind size)
IsUtf8-front kind size fits =
    IsUtf8-from_ascii (front_of kind size)
    (IsAscii-append (kind_word kind) (32 ∷ decimal size) (IsAscii-kind_word kind) (IsAscii-cons 32 (decimal size) (omega arith) (IsAscii-decimal size fits)))

not_text : (front rest : List ℕ) (found : Option LooseObject) → ¬ (IsUtf8 front) → spelled front rest ≡ found → found ≡ None
not_text front rest None bad e = refl
not_text front rest (Some o) bad e =
    let parts = front-spelled front rest o e in
    absurd (bad (subst IsUtf8 parts.0 (IsUtf8-front o.kind o.size parts.2)))

pub no_text : (front : List ℕ) → ¬ (IsUtf8 front) → (rest : List ℕ) → spelled front rest ≡ None
no_text front bad rest = not_text front rest _ bad refl

-- the bytes of the parts that the code reads are below 128

pub read-Some : (header text word digits : List ℕ) (kind : Kind) (size : ℕ) → text ≡ header → word ≡ before_first (λ b. b == 32) text → digits ≡ after_first (λ b. b == 32) text
    → kind_of_word word ≡ Some kind → number_of digits ≡ Some size → (rest : List ℕ) → spelled header rest ≡ Some (record { kind = kind; size = size; rest = rest })
read-Some header text word digits kind size same first second names is rest =
    rw (← same) (spelled-Some text kind size rest (ap kind_of_word (sym first) ∙ names) (ap number_of (sym second) ∙ is))

pub read-no_kind : (header text word : List ℕ) → text ≡ header → word ≡ before_first (λ b. b == 32) text → kind_of_word word ≡ None → (rest : List ℕ) → spelled header rest ≡ None
read-no_kind header text word same first none rest = rw (← same) (no_kind text (ap kind_of_word (sym first) ∙ none) rest)

pub read-no_size : (header text digits : List ℕ) → text ≡ header → digits ≡ after_first (λ b. b == 32) text → number_of digits ≡ None → (rest : List ℕ) → spelled header rest ≡ None
read-no_size header text digits same second none rest = rw (← same) (no_size text (ap number_of (sym second) ∙ none) rest)

pub read-no_space : (header text : List ℕ) → text ≡ header → position_or_len (λ b. b == 32) text ≡ length text → (rest : List ℕ) → spelled header rest ≡ None
read-no_space header text same none rest = rw (← same) (no_space text none rest)

-- ---- a file

chosen : (test : Bool) (place found : ℕ) → Some found ≡ cond test (Some place) None → (test ≡ true) × (found ≡ place)
chosen true place found e = (refl, cc e)
chosen false place found e = cc e

-- the place that the code found, if it found one
pub place_of : (bytes : List ℕ) (place : ℕ) → Some place ≡ position (λ b. b == 0) (take header_room bytes) → loose_of bytes ≡ spelled (take place bytes) (drop (place + 1) bytes)
place_of bytes place e =
    let first = position_or_len (λ b. b == 0) (take header_room bytes) in
    let found = chosen (nat_lt first (length (take header_room bytes))) first place e in
    rw found.1 (loose_of-place bytes (ltb-true _ _ found.0))

not_chosen : (test : Bool) (place : ℕ) → None ≡ cond test (Some place) None → test ≡ false
not_chosen true place e = cc e
not_chosen false place e = refl

pub no_place : (bytes : List ℕ) → None ≡ position (λ b. b == 0) (take header_room bytes) → loose_of bytes ≡ None
no_place bytes e =
    let first = position_or_len (λ b. b == 0) (take header_room bytes) in
    loose_of-no_place bytes (ltb-false _ _ (not_chosen (nat_lt first (length (take header_room bytes))) first e))

-- ---- the result of reading a file's header

-- a header that ends where the data begin is as long as the bytes before them
head_at : (bytes : List ℕ) (kind : Kind) (size n : ℕ) → n ≤ length bytes → IsLoose bytes kind size (drop n bytes) → n ≡ length (header_of kind size)
head_at bytes kind size n within is =
    let long : length bytes ≡ length (header_of kind size) + length (drop n bytes) = ap length is.whole ∙ length-append (header_of kind size) (drop n bytes) in
    omega (arith, length-drop n bytes)

pub head_at_place : (bytes : List ℕ) (kind : Kind) (size nul : ℕ) → nul < length bytes
    → loose_of bytes ≡ Some (record { kind = kind; size = size; rest = drop (nul + 1) bytes }) → Some (kind, size, nul + 1) ≡ option_map head_of (loose_of bytes)
head_at_place bytes kind size nul within e =
    rw e (ap (λ (n : ℕ). Some (kind, size, n)) (head_at bytes kind size (nul + 1) (omega arith) (IsLoose-loose_of bytes _ e)))

pub no_head : (found : Option LooseObject) → found ≡ None → None ≡ option_map head_of found
no_head found e = rw e refl

-- the data after the header of an object that was found
rest_is : (bytes : List ℕ) (o : LooseObject) → loose_of bytes ≡ Some o → drop (length (header_of o.kind o.size)) bytes ≡ o.rest
rest_is bytes o e =
    let is = IsLoose-loose_of bytes o e in
    ap (λ (xs : List ℕ). drop (length (header_of o.kind o.size)) xs) is.whole ∙ drop-append_seam (header_of o.kind o.size) o.rest

module _ {E : Type 0} (error : E) (bytes : List ℕ) where
  abbrev Read : Option LooseObject → Result (Kind × ℕ × ℕ) E
  Read found = ok_or (option_map head_of found) error

  found_at : (found : Option LooseObject) → loose_of bytes ≡ found → IfOk (Read found) (λ header. IsLoose bytes header.0 header.1 (drop header.2 bytes))
  found_at None e = tt
  found_at (Some o) e = subst (IsLoose bytes o.kind o.size) (sym (rest_is bytes o e)) (IsLoose-loose_of bytes o e)

  pub read-found : IfOk (Read (loose_of bytes)) (λ header. IsLoose bytes header.0 header.1 (drop header.2 bytes))
  read-found = found_at (loose_of bytes) refl

  length_at : (found : Option LooseObject) → IfOk (Read found) (λ header. header.2 ≡ length (header_of header.0 header.1))
  length_at None = tt
  length_at (Some o) = refl

  pub read-length : IfOk (Read (loose_of bytes)) (λ header. header.2 ≡ length (header_of header.0 header.1))
  read-length = length_at (loose_of bytes)

  within_at : (found : Option LooseObject) → loose_of bytes ≡ found → IfOk (Read found) (λ header. header.2 ≤ length bytes)
  within_at None e = tt
  within_at (Some o) e =
      let long = ap length (IsLoose-loose_of bytes o e).whole ∙ length-append (header_of o.kind o.size) o.rest in
      omega arith

  pub read-within : IfOk (Read (loose_of bytes)) (λ header. header.2 ≤ length bytes)
  read-within = within_at (loose_of bytes) refl

  pub read-only : (kind : Kind) (size : ℕ) (rest : List ℕ) → IsLoose bytes kind size rest → Read (loose_of bytes) ≡ Ok (kind, size, length (header_of kind size))
  read-only kind size rest is = rw (loose_of-IsLoose bytes kind size rest is) refl

  invalid_at : (found : Option LooseObject) → loose_of bytes ≡ found → IsErr (Read found) ↔ ((kind : Kind) (size : ℕ) (rest : List ℕ) → ¬ (IsLoose bytes kind size rest))
  invalid_at None e = (λ _. none-loose_of bytes e, λ _. refl)
  invalid_at (Some o) e = (λ h. cc h, λ none. absurd (none o.kind o.size o.rest (IsLoose-loose_of bytes o e)))

  pub read-invalid : IsErr (Read (loose_of bytes)) ↔ ((kind : Kind) (size : ℕ) (rest : List ℕ) → ¬ (IsLoose bytes kind size rest))
  read-invalid = invalid_at (loose_of bytes) refl

  exact_at : (found : Option LooseObject) → MatchOption found (IsErr (Read found)) (λ object. Read found ≡ Ok (head_of object))
  exact_at None = refl
  exact_at (Some o) = refl

  pub read-exact : MatchOption (loose_of bytes) (IsErr (Read (loose_of bytes))) (λ object. Read (loose_of bytes) ≡ Ok (head_of object))
  read-exact = exact_at (loose_of bytes)
