-- Lemmas on numbers of variable length.
use Rattle.std.proofs.Common.{◌≡◌, ℕ, zero, suc, ◌+◌, ◌*◌, ◌^◌, ◌<◌, ◌≤◌, Bool, true, List, [], ◌∷◌, ◌++◌, length, Option, Some, None, refl, sym, ap, subst, ◌∙◌, arith, length-append, append-nil, append_assoc, lit<, Result, Err}
use Rattle.std.proofs.Math.Nat.{pow-suc}
use Rattle.std.proofs.lemmas.List.Folds.{list_all-append}
use Rattle.gix_features_parts.specs.Leb64.{low_bits, goes_on, in_base_128, first_of_length, value_of, WantsMore}
use Rattle.gix_features_parts.specs.Leb64Reads.{TakesBytes, Decodes}
use Rattle.gix_features_parts.specs.declared.decode.Error.{Error}
use Rattle.gix_features_parts.specs.declared.decode.Error.TheVariants.{Overflow, Source, Truncated}

in_base_128-push : (bytes : List ℕ) (byte : ℕ) → in_base_128 (bytes ++ byte ∷ []) ≡ in_base_128 bytes * 128 + low_bits byte
unfolding in_base_128
in_base_128-push [] byte = omega arith
in_base_128-push (first ∷ bytes) byte =
    let more = in_base_128-push bytes byte in
    let len : length (bytes ++ byte ∷ []) ≡ suc (length bytes) = omega (arith, length-append bytes (byte ∷ [])) in
    let power = ap (λ n. 128 ^ n) len ∙ pow-suc 128 (length bytes) in
    rw (more, power) (omega arith)

first_of_length-suc : (n : ℕ) → first_of_length (suc (suc n)) ≡ (first_of_length (suc n) + 1) * 128
unfolding first_of_length
first_of_length-suc zero = refl
first_of_length-suc (suc n) =
    let before = first_of_length-suc n in
    let power = pow-suc 128 (suc n) in
    rw before (rw power (omega arith))

pub value_of-none : value_of [] ≡ 0
unfolding value_of first_of_length in_base_128
value_of-none = refl

pub value_of-one : (byte : ℕ) → value_of (byte ∷ []) ≡ low_bits byte
unfolding value_of first_of_length in_base_128
value_of-one byte = omega arith

-- one more byte makes the number this one
pub value_of-push : (bytes : List ℕ) (byte : ℕ) → 0 < length bytes → value_of (bytes ++ byte ∷ []) ≡ (value_of bytes + 1) * 128 + low_bits byte
unfolding value_of
value_of-push [] byte some = absurd (omega arith)
value_of-push (first ∷ bytes) byte some =
    let len : length ((first ∷ bytes) ++ byte ∷ []) ≡ suc (suc (length bytes)) = omega (arith, length-append bytes (byte ∷ [])) in
    let begins = ap first_of_length len ∙ first_of_length-suc (length bytes) in
    let bits = in_base_128-push (first ∷ bytes) byte in
    omega (arith, begins, bits)

-- bytes that were taken one after another were taken
pub TakesBytes-append : (left middle now : Option (List ℕ)) (first second : List ℕ) → TakesBytes left middle first → TakesBytes middle now second
    → TakesBytes left now (first ++ second)
TakesBytes-append None middle now first second a b = subst (λ o. TakesBytes o now second) a b
TakesBytes-append (Some left) middle now first second (rest, is, told) b =
    let more : TakesBytes (Some rest) now second = subst (λ o. TakesBytes o now second) told b in
    (more.0, is ∙ ap (λ r. first ++ r) more.1 ∙ sym (append_assoc first second more.0), more.2)

-- the bytes that were read so far; the last one says whether there are more
pub record ReadSoFar (left now : Option (List ℕ)) (value count : ℕ) (more : Bool) : Type 0 where
  pub front : List ℕ
  pub last : ℕ
  pub taken : TakesBytes left now (front ++ last ∷ [])
  pub wanted : WantsMore front
  pub last_is : goes_on last ≡ more
  pub spells : value_of (front ++ last ∷ []) ≡ value
  pub counts : length (front ++ last ∷ []) ≡ count

pub WantsMore-none : WantsMore []
unfolding value_of first_of_length in_base_128
WantsMore-none = record { going = refl; fits = lit< tt }

-- the answer for the next byte that no byte gets
abbrev IsOverflow : Result ℕ Error → Type 0
IsOverflow result = result ≡ Err Overflow

-- an answer other than that the number is above 64 bits
pub refused : (bytes : List ℕ) (error : Error) → WantsMore bytes → (IsOverflow (Err error) → ⊥) → Decodes bytes (Err error)
refused bytes Overflow more other = absurd (other refl)
refused bytes Source more other = more
refused bytes Truncated more other = more

pub ReadSoFar-first : (left now : Option (List ℕ)) (byte value : ℕ) (more : Bool) → TakesBytes left now (byte ∷ []) → value ≡ low_bits byte
    → more ≡ goes_on byte → ReadSoFar left now value 1 more
ReadSoFar-first left now byte value more taken value_is more_is = record {
  front = [];
  last = byte;
  taken = taken;
  wanted = WantsMore-none;
  last_is = sym more_is;
  spells = value_of-one byte ∙ sym value_is;
  counts = refl;
}

module _ (left middle : Option (List ℕ)) (value count : ℕ) (before : ReadSoFar left middle value count true) (fits : value < 2 ^ 64) where
  bytes : List ℕ
  bytes = before.front ++ before.last ∷ []

  wanted : WantsMore bytes
  unfolding bytes
  wanted = record {
    going = rw (list_all-append goes_on before.front (before.last ∷ []), before.wanted.going, before.last_is) refl;
    fits = rw before.spells fits;
  }

  some : 0 < length bytes
  unfolding bytes
  some = omega (arith, length-append before.front (before.last ∷ []))

  pub ReadSoFar-next : (now : Option (List ℕ)) (byte next : ℕ) (more : Bool) → TakesBytes middle now (byte ∷ []) → next ≡ (value + 1) * 128 + low_bits byte
      → more ≡ goes_on byte → ReadSoFar left now next (count + 1) more
  unfolding bytes
  ReadSoFar-next now byte next more taken is more_is = record {
    front = bytes;
    last = byte;
    taken = TakesBytes-append left middle now bytes (byte ∷ []) before.taken taken;
    wanted = wanted;
    last_is = sym more_is;
    spells = value_of-push bytes byte some ∙ ap (λ n. (n + 1) * 128 + low_bits byte) before.spells ∙ sym is;
    counts = length-append bytes (byte ∷ []) ∙ ap (λ n. n + 1) before.counts;
  }

  pub ReadSoFar-overflow : (now : Option (List ℕ)) (byte : ℕ) → TakesBytes middle now (byte ∷ []) → 2 ^ 64 ≤ (value + 1) * 128 + low_bits byte
      → (all : List ℕ) × TakesBytes left now all × Decodes all (Err Overflow)
  unfolding bytes
  ReadSoFar-overflow now byte taken over =
      let spells = value_of-push bytes byte some ∙ ap (λ n. (n + 1) * 128 + low_bits byte) before.spells in
      let past : 2 ^ 64 ≤ value_of (bytes ++ byte ∷ []) = rw spells over in
      (bytes ++ byte ∷ [], TakesBytes-append left middle now bytes (byte ∷ []) before.taken taken, (bytes, byte, refl, wanted, past))

  pub ReadSoFar-refused : (now : Option (List ℕ)) (error : Error) → TakesBytes middle now [] → (IsOverflow (Err error) → ⊥)
      → (all : List ℕ) × TakesBytes left now all × Decodes all (Err error)
  unfolding bytes
  ReadSoFar-refused now error taken other =
      let all = TakesBytes-append left middle now bytes [] before.taken taken in
      (bytes, subst (λ xs. TakesBytes left now xs) (append-nil bytes) all, refused bytes error wanted other)
