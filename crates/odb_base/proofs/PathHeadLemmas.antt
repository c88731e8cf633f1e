-- The order of texts, by their first bytes as numbers.
use Rattle.std.proofs.Common.{◌≡◌, ◌≢◌, ℕ, zero, suc, ◌+◌, ◌*◌, ◌/◌, ◌%◌, ◌^◌, ◌<◌, Bool, true, false, cond, nat_lt, nat_eq}
use Rattle.std.proofs.Common.{List, [], ◌∷◌, ◌++◌, ◌-◌, length, take, drop, inl, inr, refl, sym, ap, ap₂, subst, ◌∙◌, arith}
use Rattle.std.specs.Ordering.{nat_cmp, ordering_then}
use Rattle.std.specs.declared.cmp.Ordering.{Ordering}
use Rattle.std.specs.declared.cmp.Ordering.TheVariants.{Less, Equal, Greater}
use Rattle.std.specs.Cmp.{nat_cmp_is}
use Rattle.std.specs.Cmp.Lexicographic.{slice_cmp, bytes_decides}
use Rattle.std.specs.Int.{w64, from_be_bytes}
use Rattle.std.specs.Str.{IsUtf8}
use Rattle.std.proofs.lemmas.Bool.{cases_order, cases_Bool, and_parts, ltb-true, ne_eqb}
use Rattle.std.proofs.Math.Nat.{mul_comm, pow-suc}
use Rattle.std.proofs.Math.Utf8.{scalar, scalars, encode, encodes, scalar_cases}
use Rattle.std.proofs.Math.ListN.{replicate}
use Rattle.std.proofs.lemmas.Nat.{mul-add-lt}
use Rattle.std.proofs.lemmas.List.{drop-replicate}
use Rattle.odb_base.specs.Path.{path_cmp, same_name}
use Rattle.odb_base.specs.JoinedPath.{head_of, names_joined, IsJoined}
use Rattle.odb_base.proofs.JoinedPathLemmas.{text_cmp, text_eq}
use lib.Pointwise.{pointwise}

-- ---- the bytes of a text

abbrev AreBytes : List ℕ → Type 0
AreBytes [] = Unit {0}
AreBytes (b ∷ text) = (b < 256) × AreBytes text

bytes-append : (s t : List ℕ) → AreBytes s → AreBytes t → AreBytes (s ++ t)
bytes-append [] t own its = its
bytes-append (x ∷ s) t own its = (own.0, bytes-append s t own.1 its)

-- the bytes of a character, by how many they are
module _ (c : ℕ) (scalar_value : c < 1114112) where
  of_length : (one two three : Bool) → (one ≡ true → c < 128) → (two ≡ true → c < 2048) → (three ≡ true → c < 65536)
      → AreBytes (cond one (c ∷ []) (cond two ((192 + c / 64) ∷ (128 + c % 64) ∷ [])
      (cond three ((224 + c / 4096) ∷ (128 + c / 64 % 64) ∷ (128 + c % 64) ∷ []) ((240 + c / 262144) ∷ (128 + c / 4096 % 64) ∷ (128 + c / 64 % 64) ∷ (128 + c % 64) ∷ []))))
  of_length true two three f g h = let low = f refl in (omega arith, tt)
  of_length false true three f g h = let low = g refl in (omega arith, (omega arith, tt))
  of_length false false true f g h = let low = h refl in (omega arith, (omega arith, (omega arith, tt)))
  of_length false false false f g h = (omega arith, (omega arith, (omega arith, (omega arith, tt))))

char_bytes : (c : ℕ) → scalar c ≡ true → AreBytes (encode c)
unfolding encode
char_bytes c is =
    let limit : c < 1114112 = elim (scalar_cases c is) [ inl low ↦ omega arith | inr high ↦ high.1 ] in
    of_length c limit (nat_lt c 128) (nat_lt c 2048) (nat_lt c 65536) (ltb-true c 128) (ltb-true c 2048) (ltb-true c 65536)

chars_bytes : (cs : List ℕ) → scalars cs ≡ true → AreBytes (encodes cs)
chars_bytes [] are = tt
chars_bytes (c ∷ cs) are = bytes-append (encode c) (encodes cs) (char_bytes c (and_parts _ _ are).0) (chars_bytes cs (and_parts _ _ are).1)

text_bytes : (text : List ℕ) → IsUtf8 text → AreBytes text
text_bytes text utf8 = subst AreBytes utf8.1.1 (chars_bytes utf8.0 utf8.1.0)

-- ---- the number of a text's first bytes

-- the number that the first n bytes are
abbrev head_from : ℕ → List ℕ → ℕ
head_from zero text = 0
head_from (suc n) [] = 0
head_from (suc n) (b ∷ text) = b * 256 ^ n + head_from n text

-- the number that a read of eight bytes gives
from_be_bytes-head : (text : List ℕ) → from_be_bytes w64 text ≡ head_from 8 text
from_be_bytes-head [] = refl
from_be_bytes-head (a ∷ []) = omega arith
from_be_bytes-head (a ∷ b ∷ []) = omega arith
from_be_bytes-head (a ∷ b ∷ c ∷ []) = omega arith
from_be_bytes-head (a ∷ b ∷ c ∷ d ∷ []) = omega arith
from_be_bytes-head (a ∷ b ∷ c ∷ d ∷ e ∷ []) = omega arith
from_be_bytes-head (a ∷ b ∷ c ∷ d ∷ e ∷ f ∷ []) = omega arith
from_be_bytes-head (a ∷ b ∷ c ∷ d ∷ e ∷ f ∷ g ∷ []) = omega arith
from_be_bytes-head (a ∷ b ∷ c ∷ d ∷ e ∷ f ∷ g ∷ h ∷ text) = omega arith

head_of-from : (text : List ℕ) → head_of text ≡ head_from 8 text
unfolding head_of
head_of-from = from_be_bytes-head

head_from-take : (n : ℕ) (text : List ℕ) → head_from n (take n text) ≡ head_from n text
head_from-take zero text = refl
head_from-take (suc n) [] = refl
head_from-take (suc n) (b ∷ text) = ap (λ h. b * 256 ^ n + h) (head_from-take n text)

head_from-zeros : (n k : ℕ) → head_from n (replicate k 0) ≡ 0
head_from-zeros zero k = refl
head_from-zeros (suc n) zero = refl
head_from-zeros (suc n) (suc k) = omega (arith, head_from-zeros n k)

head_from-padded : (n : ℕ) (text : List ℕ) (k : ℕ) → head_from n (text ++ replicate k 0) ≡ head_from n text
head_from-padded zero text k = refl
head_from-padded (suc n) [] k = head_from-zeros (suc n) k
head_from-padded (suc n) (b ∷ text) k = ap (λ h. b * 256 ^ n + h) (head_from-padded n text k)

-- the head of a text of eight bytes and more
pub head_of-take : (text : List ℕ) → from_be_bytes w64 (take 8 text) ≡ head_of text
head_of-take text = from_be_bytes-head (take 8 text) ∙ head_from-take 8 text ∙ sym (head_of-from text)

-- the head of a text that is padded with zeros to eight bytes
pub head_of-padded : (text : List ℕ) → from_be_bytes w64 (text ++ drop (length text) (replicate 8 0)) ≡ head_of text
head_of-padded text =
    ap (λ zeros. from_be_bytes w64 (text ++ zeros)) (drop-replicate (length text) 8 0) ∙ from_be_bytes-head (text ++ replicate (8 - length text) 0)
    ∙ head_from-padded 8 text (8 - length text) ∙ sym (head_of-from text)

-- ---- the order of numbers

less : (x y : ℕ) → x < y → nat_cmp x y ≡ Less
less x y l = sym (nat_cmp_is x y Less l)

greater : (x y : ℕ) → y < x → nat_cmp x y ≡ Greater
greater x y l = sym (nat_cmp_is x y Greater l)

equal : (x y : ℕ) → x ≡ y → nat_cmp x y ≡ Equal
equal x y e = sym (nat_cmp_is x y Equal e)

shifted : (a x y : ℕ) → nat_cmp x y ≡ nat_cmp (a + x) (a + y)
shifted a x y = elim (cases_order x y) [
  | inl same ↦ equal x y same ∙ sym (equal (a + x) (a + y) (omega arith))
  | inr other ↦ elim other [
    | inl l ↦ less x y l ∙ sym (less (a + x) (a + y) (omega arith))
    | inr l ↦ greater x y l ∙ sym (greater (a + x) (a + y) (omega arith))
  ]
]

-- heads that don't compare as equal differ
pub not_Equal : (h k : ℕ) (order : Ordering) → order ≡ nat_cmp h k → order ≢ Equal → h ≢ k
not_Equal h k order is apart e = apart (is ∙ equal h k e)

-- ---- the order of texts

-- a greater first byte outweighs all that follow it
outweighs : (n x y h k : ℕ) → x < y → h < 256 ^ n → x * 256 ^ n + h < y * 256 ^ n + k
outweighs n x y h k l fits = omega (arith, mul-add-lt x (256 ^ n) h y l fits, mul_comm (256 ^ n) y)

head_from-fits : (n : ℕ) (text : List ℕ) → AreBytes text → head_from n text < 256 ^ n
head_from-fits zero text bytes = omega arith
head_from-fits (suc n) [] bytes = omega (arith, head_from-fits n [] bytes, pow-suc 256 n)
head_from-fits (suc n) (b ∷ text) bytes =
    omega (arith, mul-add-lt b (256 ^ n) (head_from n text) 256 bytes.0 (head_from-fits n text bytes.1), pow-suc 256 n)

-- two texts whose first n bytes are different numbers are in the order of these numbers
head_from-order : (n : ℕ) (s t : List ℕ) → AreBytes s → AreBytes t → head_from n s ≢ head_from n t → slice_cmp nat_cmp s t ≡ nat_cmp (head_from n s) (head_from n t)
head_from-order zero s t own its apart = absurd (apart refl)
head_from-order (suc n) [] [] own its apart = absurd (apart refl)
head_from-order (suc n) [] (y ∷ t) own its apart = sym (less 0 (y * 256 ^ n + head_from n t) (omega arith))
head_from-order (suc n) (x ∷ s) [] own its apart = sym (greater (x * 256 ^ n + head_from n s) 0 (omega arith))
head_from-order (suc n) (x ∷ s) (y ∷ t) own its apart =
    let own_rest = head_from-fits n s own.1 in
    let its_rest = head_from-fits n t its.1 in
    elim (cases_order x y) [
      | inl same ↦
          let rest = head_from-order n s t own.1 its.1 (λ e. apart (ap₂ (λ b h. b * 256 ^ n + h) same e)) in
          ap (λ o. ordering_then o (slice_cmp nat_cmp s t)) (equal x y same) ∙ rest ∙ shifted (x * 256 ^ n) _ _ ∙ ap (λ b. nat_cmp (x * 256 ^ n + head_from n s) (b * 256 ^ n + head_from n t)) same
      | inr other ↦ elim other [
        | inl l ↦ ap (λ o. ordering_then o (slice_cmp nat_cmp s t)) (less x y l) ∙ sym (less _ _ (outweighs n x y _ _ l own_rest))
        | inr l ↦ ap (λ o. ordering_then o (slice_cmp nat_cmp s t)) (greater x y l) ∙ sym (greater _ _ (outweighs n y x _ _ l its_rest))
      ]
    ]

-- if the heads of two texts differ, the texts are in the order of their heads
pub head_order : (s t : List ℕ) → IsUtf8 s → IsUtf8 t → head_of s ≢ head_of t → slice_cmp nat_cmp s t ≡ nat_cmp (head_of s) (head_of t)
head_order s t own its apart =
    let order = head_from-order 8 s t (text_bytes s own) (text_bytes t its) (λ e. apart (head_of-from s ∙ e ∙ sym (head_of-from t))) in
    order ∙ ap₂ nat_cmp (sym (head_of-from s)) (sym (head_of-from t))

-- two paths whose heads differ
module _ (h k : ℕ) (s t : List ℕ) (own : IsJoined s × (h ≡ head_of s)) (its : IsJoined t × (k ≡ head_of t)) (apart : h ≢ k) where
  heads_apart : head_of s ≢ head_of t
  heads_apart e = apart (own.1 ∙ e ∙ sym its.1)

  pub heads_cmp : IsUtf8 s → IsUtf8 t → nat_cmp h k ≡ path_cmp (names_joined s) (names_joined t)
  heads_cmp u v = ap₂ nat_cmp own.1 its.1 ∙ sym (head_order s t u v heads_apart) ∙ text_cmp s t own.0 its.0

  pub heads_eq : nat_eq h k ≡ pointwise same_name (names_joined s) (names_joined t)
  heads_eq =
      let other : same_name s t ≡ false = elim (cases_Bool (same_name s t)) [ inl same ↦ absurd (heads_apart (ap head_of ((bytes_decides s t).0 same))) | inr e ↦ e ] in
      ne_eqb h k apart ∙ sym other ∙ text_eq s t own.0 its.0
