-- The chunk table of a multi-pack index, row by row.
use Rattle.std.proofs.Common.{◌≡◌, ℕ, zero, suc, ◌+◌, ◌-◌, ◌*◌, ◌<◌, ◌≤◌, ◌==◌, ◌&&◌, ◌||◌, is_some, nat_le, Bool, true, false, cond, List, [], ◌∷◌}
use Rattle.std.proofs.Common.{length, take, drop, map, Option, Some, None, option_map, option_and_then, length-drop, refl, sym, ap, ◌∙◌, arith, add-one}
use Rattle.std.specs.List.{filter, zip}
use Rattle.std.specs.Int.{w64, from_be_bytes}
use Rattle.std.proofs.lemmas.Bool.{and_parts}
use Rattle.std.proofs.lemmas.Bool.Decides.{nat_tests}
use Rattle.std.proofs.lemmas.List.{drop-drop, drop-take, take-take}
use Rattle.gix_hash.specs.Kind.{len_in_bytes_of}
use Rattle.gix_hash.specs.declared.kind.Kind.TheVariants.{Sha1, Sha256}
use Rattle.gix_pack_read.specs.Bytes.{long_number_at, part, same, table}
use Rattle.gix_pack_read.specs.MultiIndex.Chunks.{Chunk, ChunkRow, chunk_at, chunk_row, chunk_rows, chunks_in, ends_at}
use Rattle.gix_pack_read.specs.MultiIndex.Chunks.{has_room, hash_of_number, header_len, kind_in, name_len, named, row_len, the_one}
use Rattle.gix_pack_read.specs.MultiIndex.{at_most_one}
use Rattle.gix_pack_read.specs.ChunkTable.{chunks_left, named_left, rows_left}
use Rattle.gix_pack_read.specs.MultiIndexLayout.{span_of, with_found}
use Rattle.gix_pack_read.specs.declared.multi_index.layout.Span.{Span}

-- ---- a row

abbrev first_row : List ℕ → ChunkRow
first_row rest = chunk_row (take row_len rest)

place_of_first : (rest : List ℕ) → (first_row rest).place ≡ long_number_at name_len rest
place_of_first rest = ap (from_be_bytes w64) (drop-take name_len 8 rest)

place_of_second : (rest : List ℕ) → (first_row (drop row_len rest)).place ≡ long_number_at 16 rest
place_of_second rest = place_of_first (drop row_len rest) ∙ ap (λ (behind : List ℕ). from_be_bytes w64 (take 8 behind)) (drop-drop name_len row_len rest)

name_of_first : (rest : List ℕ) → (first_row rest).name ≡ take name_len rest
name_of_first rest = take-take name_len row_len rest (omega arith)

-- ---- whether the places rise to the end

pub all_rows : (bytes : List ℕ) → chunk_rows bytes ≡ rows_left (chunks_in bytes) (drop header_len bytes)
unfolding rows_left
all_rows bytes = rw add-one refl

ends_step : (end left : ℕ) (rest : List ℕ)
    → ends_at end (rows_left (suc left) rest) ≡ (nat_le (first_row rest).place (first_row (drop row_len rest)).place && ends_at end (rows_left left (drop row_len rest)))
unfolding ends_at rows_left table
ends_step end left rest = refl

pub ends_more : (end left : ℕ) (rest : List ℕ) → 0 < left
    → ends_at end (rows_left left rest) ≡ (nat_le (long_number_at name_len rest) (long_number_at 16 rest) && ends_at end (rows_left (left - 1) (drop row_len rest)))
ends_more end zero rest h = absurd (omega arith)
ends_more end (suc left) rest h =
    let less : suc left - 1 ≡ left = omega arith in
    rw less (ends_step end left rest
    ∙ ap (λ (place : ℕ). nat_le place (first_row (drop row_len rest)).place && ends_at end (rows_left left (drop row_len rest))) (place_of_first rest)
    ∙ ap (λ (place : ℕ). nat_le (long_number_at name_len rest) place && ends_at end (rows_left left (drop row_len rest))) (place_of_second rest))

ends_none : (end : ℕ) (rest : List ℕ) → ends_at end (rows_left 0 rest) ≡ (same (first_row rest).name (0 ∷ 0 ∷ 0 ∷ 0 ∷ []) && (first_row rest).place == end)
unfolding ends_at rows_left table
ends_none end rest = refl

pub ends_last : (end : ℕ) (rest : List ℕ) → ends_at end (rows_left 0 rest) ≡ (same (take name_len rest) (0 ∷ 0 ∷ 0 ∷ 0 ∷ []) && long_number_at name_len rest == end)
ends_last end rest =
    ends_none end rest
    ∙ ap (λ (name : List ℕ). same name (0 ∷ 0 ∷ 0 ∷ 0 ∷ []) && (first_row rest).place == end) (name_of_first rest)
    ∙ ap (λ (place : ℕ). same (take name_len rest) (0 ∷ 0 ∷ 0 ∷ 0 ∷ []) && place == end) (place_of_first rest)

le_of : (a b : ℕ) → nat_le a b ≡ true → a ≤ b
le_of a b h = grind (arith, nat_tests)

same_of : (a b : ℕ) → (a == b) ≡ true → a ≡ b
same_of a b h = grind (arith, nat_tests)

-- no place is after the end
pub first_within : (end left : ℕ) (rest : List ℕ) → ends_at end (rows_left left rest) ≡ true → long_number_at name_len rest ≤ end
first_within end zero rest h =
    let last : long_number_at name_len rest ≡ end = same_of (long_number_at name_len rest) end
    (and_parts (same (take name_len rest) (0 ∷ 0 ∷ 0 ∷ 0 ∷ [])) (long_number_at name_len rest == end) (sym (ends_last end rest) ∙ h)).1 in
    omega arith
first_within end (suc left) rest h =
    let more : suc left - 1 ≡ left = omega arith in
    let step = and_parts (nat_le (long_number_at name_len rest) (long_number_at 16 rest)) (ends_at end (rows_left (suc left - 1) (drop row_len rest)))
    (sym (ends_more end (suc left) rest (omega arith)) ∙ h) in
    let own : long_number_at name_len rest ≤ long_number_at 16 rest = le_of _ _ step.0 in
    let behind : long_number_at name_len (drop row_len rest) ≤ end = first_within end left (drop row_len rest) (rw more at step.1) in
    let same_place : long_number_at name_len (drop row_len rest) ≡ long_number_at 16 rest = sym (place_of_first (drop row_len rest)) ∙ place_of_second rest in
    omega arith

-- the first of the places and the next one rise, and are before the end
pub record IsNext (end left : ℕ) (rest : List ℕ) : Type 0 where
  pub order : long_number_at name_len rest ≤ long_number_at 16 rest
  pub within : long_number_at 16 rest ≤ end
  pub more : ends_at end (rows_left (left - 1) (drop row_len rest)) ≡ true

pub next_row : (end left : ℕ) (rest : List ℕ) → 0 < left → ends_at end (rows_left left rest) ≡ true → IsNext end left rest
next_row end left rest h all =
    let step = and_parts (nat_le (long_number_at name_len rest) (long_number_at 16 rest)) (ends_at end (rows_left (left - 1) (drop row_len rest))) (sym (ends_more end left rest h) ∙ all) in
    let behind : long_number_at name_len (drop row_len rest) ≤ end = first_within end (left - 1) (drop row_len rest) step.1 in
    let same_place : long_number_at name_len (drop row_len rest) ≡ long_number_at 16 rest = sym (place_of_first (drop row_len rest)) ∙ place_of_second rest in
    record { order = le_of _ _ step.0; within = omega arith; more = step.1 }

-- a place that is above the next one
pub falls : (end left : ℕ) (rest : List ℕ) → 0 < left → long_number_at 16 rest < long_number_at name_len rest → ends_at end (rows_left left rest) ≡ false
falls end left rest h above =
    let not_below : nat_le (long_number_at name_len rest) (long_number_at 16 rest) ≡ false = grind (arith, nat_tests) in
    ends_more end left rest h ∙ ap (λ (b : Bool). b && ends_at end (rows_left (left - 1) (drop row_len rest))) not_below

-- a place that is not above the next one
pub goes_on : (end left : ℕ) (rest : List ℕ) → 0 < left → long_number_at name_len rest ≤ long_number_at 16 rest
    → ends_at end (rows_left left rest) ≡ ends_at end (rows_left (left - 1) (drop row_len rest))
goes_on end left rest h order =
    let below : nat_le (long_number_at name_len rest) (long_number_at 16 rest) ≡ true = grind (arith, nat_tests) in
    ends_more end left rest h ∙ ap (λ (b : Bool). b && ends_at end (rows_left (left - 1) (drop row_len rest))) below

-- ---- the chunks of a name

abbrev first_chunk : List ℕ → List ℕ → Chunk
first_chunk bytes rest = chunk_at bytes (first_row rest, first_row (drop row_len rest))

pub all_named : (name bytes : List ℕ) → named name bytes ≡ named_left name bytes (chunks_in bytes) (drop header_len bytes)
unfolding named_left chunks_left
all_named name bytes = ap (λ (rows : List ChunkRow). filter (λ chunk. same chunk.name name) (map (chunk_at bytes) (zip rows (drop 1 rows)))) (all_rows bytes)

named_step : (name bytes : List ℕ) (left : ℕ) (rest : List ℕ)
    → named_left name bytes (suc left) rest ≡ cond (same (first_row rest).name name) (first_chunk bytes rest ∷ named_left name bytes left (drop row_len rest))
    (named_left name bytes left (drop row_len rest))
unfolding named_left chunks_left rows_left table
named_step name bytes left rest = refl

pub named_other : (name bytes : List ℕ) (left : ℕ) (rest : List ℕ) → 0 < left → same (take name_len rest) name ≡ false
    → named_left name bytes left rest ≡ named_left name bytes (left - 1) (drop row_len rest)
named_other name bytes zero rest h other = absurd (omega arith)
named_other name bytes (suc left) rest h other =
    let less : suc left - 1 ≡ left = omega arith in
    let no : same (first_row rest).name name ≡ false = ap (λ (own : List ℕ). same own name) (name_of_first rest) ∙ other in
    rw less (named_step name bytes left rest ∙ ap (λ (b : Bool). cond b (first_chunk bytes rest ∷ named_left name bytes left (drop row_len rest)) (named_left name bytes left (drop row_len rest))) no)

named_own : (name bytes : List ℕ) (left : ℕ) (rest : List ℕ) → 0 < left → same (take name_len rest) name ≡ true
    → named_left name bytes left rest ≡ first_chunk bytes rest ∷ named_left name bytes (left - 1) (drop row_len rest)
named_own name bytes zero rest h own = absurd (omega arith)
named_own name bytes (suc left) rest h own =
    let less : suc left - 1 ≡ left = omega arith in
    let yes : same (first_row rest).name name ≡ true = ap (λ (its : List ℕ). same its name) (name_of_first rest) ∙ own in
    rw less (named_step name bytes left rest ∙ ap (λ (b : Bool). cond b (first_chunk bytes rest ∷ named_left name bytes left (drop row_len rest)) (named_left name bytes left (drop row_len rest))) yes)

-- where the first chunk is
abbrev first_span : List ℕ → Span
first_span rest = record { start = long_number_at name_len rest; len = long_number_at 16 rest - long_number_at name_len rest }

first_bytes : (bytes rest : List ℕ) → (first_chunk bytes rest).bytes ≡ span_of bytes (first_span rest)
first_bytes bytes rest =
    ap (λ (start : ℕ). part start ((first_row (drop row_len rest)).place - start) bytes) (place_of_first rest)
    ∙ ap (λ (end : ℕ). part (long_number_at name_len rest) (end - long_number_at name_len rest) bytes) (place_of_second rest)

one_seen : (bytes : List ℕ) (chunk : Chunk) (place : Span) (chunks : List Chunk) → chunk.bytes ≡ span_of bytes place → at_most_one (chunk ∷ chunks) ≡ with_found bytes (Some place) chunks
one_seen bytes chunk place [] is = ap (λ (own : List ℕ). Some (Some own)) is
one_seen bytes chunk place (other ∷ chunks) is = refl

-- the first chunk of the name
pub found_first : (name bytes : List ℕ) (left : ℕ) (rest : List ℕ) → 0 < left → same (take name_len rest) name ≡ true
    → with_found bytes None (named_left name bytes left rest) ≡ with_found bytes (Some (first_span rest)) (named_left name bytes (left - 1) (drop row_len rest))
found_first name bytes left rest h own =
    ap (with_found bytes None) (named_own name bytes left rest h own) ∙ one_seen bytes (first_chunk bytes rest) (first_span rest) (named_left name bytes (left - 1) (drop row_len rest))
    (first_bytes bytes rest)

-- another chunk
pub found_other : (name bytes : List ℕ) (left : ℕ) (rest : List ℕ) (place : Span) → 0 < left → same (take name_len rest) name ≡ true
    → with_found bytes (Some place) (named_left name bytes left rest) ≡ None
found_other name bytes left rest place h own = ap (with_found bytes (Some place)) (named_own name bytes left rest h own)

named_none : (name bytes rest : List ℕ) → named_left name bytes 0 rest ≡ []
unfolding named_left chunks_left rows_left table
named_none name bytes rest = refl

none_behind : (bytes : List ℕ) (found : Option Span) → with_found bytes found [] ≡ option_map (option_map (span_of bytes)) (Some found)
none_behind bytes None = refl
none_behind bytes (Some place) = refl

pub no_more : (name bytes : List ℕ) (left : ℕ) (rest : List ℕ) (found : Option Span) → left ≤ 0
    → with_found bytes found (named_left name bytes left rest) ≡ option_map (option_map (span_of bytes)) (Some found)
no_more name bytes zero rest found h = ap (with_found bytes found) (named_none name bytes rest) ∙ none_behind bytes found
no_more name bytes (suc left) rest found h = absurd (omega arith)

-- the one chunk, if there is no other
pub one_of : (chunks : List Chunk) → the_one chunks ≡ option_and_then (λ (found : Option (List ℕ)). found) (at_most_one chunks)
one_of [] = refl
one_of (chunk ∷ []) = refl
one_of (chunk ∷ other ∷ chunks) = refl

-- ---- the front

-- fewer bytes than the header has
pub short_front : (bytes : List ℕ) → length bytes < header_len → has_room bytes ≡ false
short_front bytes short = grind (arith, nat_tests)

room_of : (bytes : List ℕ) → has_room bytes ≡ true → header_len + row_len * (chunks_in bytes + 1) + len_in_bytes_of (kind_in bytes) ≤ length bytes
room_of bytes h = le_of _ _ h

pub table_room : (bytes : List ℕ) → has_room bytes ≡ true → row_len * (chunks_in bytes + 1) ≤ length (drop header_len bytes)
table_room bytes h = let all = room_of bytes h in let rest = length-drop header_len bytes in omega arith

pub front_room : (bytes : List ℕ) → has_room bytes ≡ true → header_len ≤ length bytes
front_room bytes h = let all = room_of bytes h in omega arith

pub trailer_room : (bytes : List ℕ) → has_room bytes ≡ true → len_in_bytes_of (kind_in bytes) ≤ length bytes
trailer_room bytes h = let all = room_of bytes h in omega arith

by_tests : (first second : Bool) → is_some (cond first (Some Sha1) (cond second (Some Sha256) None)) ≡ (first || second)
by_tests true second = refl
by_tests false true = refl
by_tests false false = refl

-- the numbers of the hashes
pub known_hash : (number : ℕ) → is_some (hash_of_number number) ≡ (number == 1 || number == 2)
known_hash number = by_tests (number == 1) (number == 2)

-- ---- what a loop over the rows of the table uses

-- whether the table is sound
pub ruleset table_rows = (table_room, trailer_room, all_rows, falls, goes_on)

-- where the chunks of a name are
pub ruleset named_rows = (table_room, all_rows, all_named, next_row, named_other, found_first, found_other, no_more)
