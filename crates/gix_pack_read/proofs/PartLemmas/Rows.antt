-- The rows of the offsets of a multi-pack index, tested one after another: each has a pack and an offset.
use Rattle.std.proofs.Common.{◌≡◌, ℕ, zero, suc, ◌-◌, ◌<◌, ◌≤◌, ◌&&◌, nat_lt, Bool, true, List, take, drop, Option, refl, ap, ◌∙◌, arith}
use Rattle.std.specs.List.{list_all}
use Rattle.std.specs.Int.{w32, from_be_bytes}
use Rattle.std.proofs.lemmas.List.{drop-take, take-take}
use Rattle.gix_pack_read.specs.Bytes.{number_at, table}
use Rattle.gix_pack_read.specs.MultiIndexLayout.{is_offset, is_row}

abbrev first_row : ℕ → Option ℕ → List ℕ → Bool
first_row packs wides rest = nat_lt (number_at 0 rest) packs && is_offset wides (number_at 4 rest)

pub first_of : (packs : ℕ) (wides : Option ℕ) (rest : List ℕ) → is_row packs wides (take 8 rest) ≡ first_row packs wides rest
first_of packs wides rest =
    let front : take 4 (take 8 rest) ≡ take 4 rest = take-take 4 8 rest (omega arith) in
    let behind : take 4 (drop 4 (take 8 rest)) ≡ take 4 (drop 4 rest) = ap (λ (bytes : List ℕ). take 4 bytes) (drop-take 4 4 rest) ∙ take-take 4 4 (drop 4 rest) (omega arith) in
    ap (λ (bytes : List ℕ). nat_lt (from_be_bytes w32 bytes) packs && is_offset wides (number_at 4 (take 8 rest))) front
    ∙ ap (λ (bytes : List ℕ). nat_lt (number_at 0 rest) packs && is_offset wides (from_be_bytes w32 bytes)) behind

pub rows_step : (packs : ℕ) (wides : Option ℕ) (left : ℕ) (rest : List ℕ) → 0 < left
    → list_all (is_row packs wides) (table 8 left rest) ≡ (is_row packs wides (take 8 rest) && list_all (is_row packs wides) (table 8 (left - 1) (drop 8 rest)))
unfolding table
rows_step packs wides zero rest h = absurd (omega arith)
rows_step packs wides (suc left) rest h =
    let less : suc left - 1 ≡ left = omega arith in
    rw less refl

pub rows_none : (packs : ℕ) (wides : Option ℕ) (left : ℕ) (rest : List ℕ) → left ≤ 0 → list_all (is_row packs wides) (table 8 left rest) ≡ true
unfolding table
rows_none packs wides zero rest h = refl
rows_none packs wides (suc left) rest h = absurd (omega arith)
