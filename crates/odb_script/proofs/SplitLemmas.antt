-- Laws of texts that are split at a byte.
use Rattle.std.proofs.Common.{◌≡◌, ℕ, ◌+◌, ◌-◌, ◌==◌, ◌<◌, ◌⊎◌, Bool, true, false, not, List, [], ◌∷◌, ◌++◌, length, take}
use Rattle.std.proofs.Common.{drop, nat_lt, Option, Some, None, if◌then◌else◌, refl, sym, ap, ◌∙◌, inl, inr, eq-eqb, arith}
use Rattle.std.specs.List.{list_all, position, slice_split, onto_first, join_with_byte, before_first, after_first, position_or_len, AllByRecursion}
use Rattle.std.proofs.Math.Seq.{take-append_seam, drop-append-add}
use Rattle.std.proofs.lemmas.Bool.{and_parts, cases_lt, not-true}
use Rattle.std.proofs.lemmas.List.{take_all, length-drop}
use Rattle.std.proofs.lemmas.List.Sums.{fails_before_first, position_or_len_is}
use Rattle.std.proofs.lemmas.List.Quantifiers.{position-Some}
use Rattle.memchr.specs.Find.{IsFirstByte, is_byte}
use Rattle.std.proofs.lemmas.List.Splits.{slice_split-cons_yes, slice_split-cons_no, slice_split_none, slice_split_first, length-slice_split}

-- the text lacks the byte
abbrev pub lacks : ℕ → List ℕ → Bool
lacks c text = list_all (λ b. not (b == c)) text

alone : (c : ℕ) (text : List ℕ) → lacks c text ≡ true → slice_split (λ b. b == c) text ≡ text ∷ []
alone c [] h = refl
alone c (b ∷ text) h =
    let parts = and_parts (not (b == c)) (lacks c text) h in
    slice_split-cons_no (λ d. d == c) b text (not-true _ parts.0) ∙ ap (onto_first b) (alone c text parts.1)

followed : (c : ℕ) (text rest : List ℕ) → lacks c text ≡ true → slice_split (λ b. b == c) (text ++ c ∷ rest) ≡ text ∷ slice_split (λ b. b == c) rest
followed c [] rest h = slice_split-cons_yes (λ b. b == c) c rest (eq-eqb c c refl)
followed c (b ∷ text) rest h =
    let parts = and_parts (not (b == c)) (lacks c text) h in
    slice_split-cons_no (λ d. d == c) b (text ++ c ∷ rest) (not-true _ parts.0) ∙ ap (onto_first b) (followed c text rest parts.1)

-- texts without a byte are the parts of their join at it
pub slice_split-join : (c : ℕ) (text : List ℕ) (texts : List (List ℕ)) → AllByRecursion (λ t. lacks c t ≡ true) (text ∷ texts)
    → slice_split (λ b. b == c) (join_with_byte c (text ∷ texts)) ≡ text ∷ texts
slice_split-join c text [] lack = alone c text lack.0
slice_split-join c text (other ∷ texts) lack =
    followed c text (join_with_byte c (other ∷ texts)) lack.0 ∙ ap (λ rest. text ∷ rest) (slice_split-join c other texts lack.1)

onto_first-push : (b : ℕ) (texts : List (List ℕ)) → 0 < length texts → onto_first b (texts ++ [] ∷ []) ≡ onto_first b texts ++ [] ∷ []
onto_first-push b [] some = absurd (omega arith)
onto_first-push b (text ∷ texts) some = refl

bool_cases : (b : Bool) → (b ≡ true) ⊎ (b ≡ false)
bool_cases true = inl refl
bool_cases false = inr refl

-- a byte at the end leaves nothing after it
pub slice_split-push : (c : ℕ) (text : List ℕ) → slice_split (λ b. b == c) (text ++ c ∷ []) ≡ slice_split (λ b. b == c) text ++ [] ∷ []
slice_split-push c [] = slice_split-cons_yes (λ b. b == c) c [] (eq-eqb c c refl)
slice_split-push c (b ∷ text) =
    let p : ℕ → Bool = λ d. d == c in
    elim (bool_cases (b == c)) [
      | inl same ↦ rw (slice_split-cons_yes p b (text ++ c ∷ []) same, slice_split-cons_yes p b text same, slice_split-push c text) refl
      | inr other ↦ rw (slice_split-cons_no p b (text ++ c ∷ []) other, slice_split-cons_no p b text other, slice_split-push c text)
          (onto_first-push b (slice_split p text) (omega (arith, length-slice_split p text)))
    ]

-- ---- before and after the first

place : (c : ℕ) (text rest : List ℕ) → lacks c text ≡ true → position_or_len (λ b. b == c) (text ++ c ∷ rest) ≡ length text
place c [] rest h = rw (eq-eqb c c refl) refl
place c (b ∷ text) rest h = let parts = and_parts (not (b == c)) (lacks c text) h in rw (parts.0, place c text rest parts.1) (omega arith)

pub before_first-followed : (c : ℕ) (text rest : List ℕ) → lacks c text ≡ true → before_first (λ b. b == c) (text ++ c ∷ rest) ≡ text
before_first-followed c text rest h = ap (λ n. take n (text ++ c ∷ rest)) (place c text rest h) ∙ take-append_seam text (c ∷ rest)

pub after_first-followed : (c : ℕ) (text rest : List ℕ) → lacks c text ≡ true → after_first (λ b. b == c) (text ++ c ∷ rest) ≡ rest
after_first-followed c text rest h = ap (λ n. drop (n + 1) (text ++ c ∷ rest)) (place c text rest h) ∙ drop-append-add text (c ∷ rest) 1

-- ---- the first part

tested : (n limit : ℕ) → n < limit → nat_lt n limit ≡ true
tested n limit h = grind (arith, h)

found_at : (n limit : ℕ) → n < limit → (if nat_lt n limit then Some n else None) ≡ Some n
found_at n limit h = rw (tested n limit h) refl

-- the first part ends at the first such byte
pub slice_split-first : (c : ℕ) (bytes : List ℕ) (end : ℕ) → position (λ b. b == c) bytes ≡ Some end
    → slice_split (λ b. b == c) bytes ≡ take end bytes ∷ slice_split (λ b. b == c) (take (length bytes - (end + 1)) (drop (end + 1) bytes))
slice_split-first c bytes end h =
    let at = position-Some (λ b. b == c) bytes end 0 h in
    let first : position_or_len (λ b. b == c) bytes ≡ end = position_or_len_is (λ b. b == c) bytes end 0 (omega arith) at.2 (λ _. at.1) in
    let rest : length (drop (end + 1) bytes) ≡ length bytes - (end + 1) = length-drop (end + 1) bytes in
    let lt : position_or_len (λ b. b == c) bytes < length bytes = omega arith in
    slice_split_first (λ b. b == c) bytes 0 lt
    ∙ ap (λ n. take n bytes ∷ slice_split (λ b. b == c) (drop (n + 1) bytes)) first
    ∙ ap (λ rest. take end bytes ∷ slice_split (λ b. b == c) rest) (sym (take_all (length bytes - (end + 1)) (drop (end + 1) bytes) (omega arith)))

-- without such a byte there is one part
pub slice_split-last : (c : ℕ) (bytes : List ℕ) → position (λ b. b == c) bytes ≡ None → slice_split (λ b. b == c) bytes ≡ bytes ∷ []
slice_split-last c bytes h =
    elim (cases_lt (position_or_len (λ b. b == c) bytes) (length bytes)) [
      | inl found ↦ cc (h, found_at (position_or_len (λ b. b == c) bytes) (length bytes) found)
      | inr none ↦ slice_split_none (λ b. b == c) bytes (λ k d lt. fails_before_first (λ b. b == c) bytes k d (omega arith))
    ]

-- ---- the first byte, as a search tells it

none_at : (n : ℕ) → (if nat_lt n n then Some n else None) ≡ None
none_at n = rw (untested n) refl
  where
    untested : (n : ℕ) → nat_lt n n ≡ false
    untested n = grind (arith)

fails : (b : Bool) → ¬ (b ≡ true) → b ≡ false
fails true h = absurd (h refl)
fails false h = refl

-- what a search for the first such byte finds is its position
pub first_byte-position : (c : ℕ) (bytes : List ℕ) (found : Option ℕ) → IsFirstByte (is_byte c) bytes found → found ≡ position (λ b. b == c) bytes
first_byte-position c bytes None nowhere =
    let all : position_or_len (λ b. b == c) bytes ≡ length bytes =
    position_or_len_is (λ b. b == c) bytes (length bytes) 0 (omega arith) (λ k lt. fails _ (nowhere k (omega arith) lt)) (λ h. absurd (omega arith)) in
    sym (ap (λ n. if nat_lt n (length bytes) then Some n else None) all ∙ none_at (length bytes))
first_byte-position c bytes (Some k) first =
    let high = first.0.high in
    let at : position_or_len (λ b. b == c) bytes ≡ k =
    position_or_len_is (λ b. b == c) bytes k 0 (omega arith) (λ j lt. fails _ (first.0.before j (omega arith) lt)) (λ _. first.1) in
    sym (ap (λ n. if nat_lt n (length bytes) then Some n else None) at ∙ found_at k (length bytes) high)
