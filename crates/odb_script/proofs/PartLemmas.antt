-- Lemmas on parts by their numbers: after the first part, and if the first is the last.
use Rattle.std.proofs.Common.{◌≡◌, ℕ, zero, suc, ◌+◌, ◌-◌, ◌==◌, ◌<◌, ◌≤◌, false, List, [], ◌∷◌, length, get_or, nat_le, refl, ap, ◌∙◌, arith}
use Rattle.std.specs.List.{slice_split}
use Rattle.std.proofs.lemmas.Bool.Decides.{nat_tests}
use Rattle.std.proofs.lemmas.List.Splits.{length-slice_split}

behind : (part : List ℕ) (parts : List (List ℕ)) (number : ℕ) → 1 < number → get_or (part ∷ parts) (number - 1) [] ≡ get_or parts (number - 1 - 1) []
behind part parts zero more = absurd (omega arith)
behind part parts (suc zero) more = absurd (omega arith)
behind part parts (suc (suc n)) more =
    let one : suc (suc n) - 1 ≡ suc n = omega arith in
    let two : suc (suc n) - 1 - 1 ≡ n = omega arith in
    rw (two, one) refl

fewer : (count number : ℕ) → 1 < number → nat_le (count + 1) number ≡ nat_le count (number - 1)
fewer count number more = grind (arith, nat_tests)

module _ (c : ℕ) (bytes part more : List ℕ) (number : ℕ) (first : slice_split (λ b. b == c) bytes ≡ part ∷ slice_split (λ b. b == c) more) where
  pub get_or-behind : 1 < number → get_or (slice_split (λ b. b == c) bytes) (number - 1) [] ≡ get_or (slice_split (λ b. b == c) more) (number - 1 - 1) []
  get_or-behind far = ap (λ parts. get_or parts (number - 1) []) first ∙ behind part (slice_split (λ b. b == c) more) number far

  pub is_last-behind : 1 < number → nat_le (length (slice_split (λ b. b == c) bytes)) number ≡ nat_le (length (slice_split (λ b. b == c) more)) (number - 1)
  is_last-behind far =
      let count : length (slice_split (λ b. b == c) bytes) ≡ length (slice_split (λ b. b == c) more) + 1 = ap length first ∙ omega arith in
      ap (λ n. nat_le n number) count ∙ fewer (length (slice_split (λ b. b == c) more)) number far

  pub get_or-first : number ≤ 1 → get_or (slice_split (λ b. b == c) bytes) (number - 1) [] ≡ part
  get_or-first near =
      let none : number - 1 ≡ 0 = omega arith in
      ap (λ parts. get_or parts (number - 1) []) first ∙ ap (λ n. get_or (part ∷ slice_split (λ b. b == c) more) n []) none

  pub is_last-first : number ≤ 1 → nat_le (length (slice_split (λ b. b == c) bytes)) number ≡ false
  is_last-first near =
      let some : 0 < length (slice_split (λ b. b == c) more) = omega (arith, length-slice_split (λ b. b == c) more) in
      let count : length (slice_split (λ b. b == c) bytes) ≡ length (slice_split (λ b. b == c) more) + 1 = ap length first ∙ omega arith in
      ap (λ n. nat_le n number) count ∙ above (length (slice_split (λ b. b == c) more) + 1) number (omega arith)
    where
      above : (n limit : ℕ) → limit < n → nat_le n limit ≡ false
      above n limit h = grind (arith, h)

module _ (c : ℕ) (bytes : List ℕ) (number : ℕ) (last : slice_split (λ b. b == c) bytes ≡ bytes ∷ []) where
  pub get_or-last : number ≤ 1 → get_or (slice_split (λ b. b == c) bytes) (number - 1) [] ≡ bytes
  get_or-last near =
      let none : number - 1 ≡ 0 = omega arith in
      ap (λ parts. get_or parts (number - 1) []) last ∙ ap (λ n. get_or (bytes ∷ []) n []) none

  pub get_or-beyond : 1 < number → get_or (slice_split (λ b. b == c) bytes) (number - 1) [] ≡ []
  get_or-beyond far = ap (λ parts. get_or parts (number - 1) []) last ∙ behind bytes [] number far

  pub is_last-last : nat_le (length (slice_split (λ b. b == c) bytes)) number ≡ nat_le 1 number
  is_last-last = ap (λ parts. nat_le (length parts) number) last
