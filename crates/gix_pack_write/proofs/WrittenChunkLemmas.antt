-- The chunk table of a multi-pack index, its chunks and its names, read back as they were written.
use Rattle.std.proofs.Common.{◌≡◌, ℕ, zero, suc, ◌+◌, ◌-◌, ◌*◌, ◌^◌, ◌<◌, ◌==◌, nat_le, nat_lt, true, false, List, [], ◌∷◌, ◌++◌}
use Rattle.std.proofs.Common.{length, map, take, drop, replicate, append_assoc, length-append, refl, sym, ap, ◌∙◌, arith, eq-eqb}
use Rattle.std.specs.List.{AllByRecursion, flat_map, list_all, list_any, zip}
use Rattle.std.specs.Int.{w64, from_be_bytes, to_be_bytes}
use Rattle.std.proofs.lemmas.Bool.{and_parts, not-true, le-leb, lt-ltb}
use Rattle.std.proofs.lemmas.List.{append-nil, drop_at, take_at}
use Rattle.std.proofs.lemmas.List.Splits.{slice_split_at}
use Rattle.std.proofs.lemmas.Nat.{from_be_bytes-to_be_bytes_8}
use Rattle.odb_base.specs.PathLaws.{All_not-list_any}
use Rattle.gix_pack_read.specs.Bytes.{part, table}
use Rattle.gix_pack_read.specs.MultiIndex.Chunks.{Chunk, ChunkRow, chunk_at, chunk_row, ends_at, row_len}
use Rattle.gix_pack_read.specs.MultiIndex.Held.{are_names, holds_names, is_index_name, name_parts, names_rise}
use Rattle.gix_pack_write.specs.WrittenMultiIndex.{chunk_table, name_bytes}

-- ---- the chunk table

abbrev pub whole : List Chunk → List ℕ
whole chunks = flat_map (λ (c : Chunk). c.bytes) chunks

abbrev pub zeros : List ℕ
zeros = 0 ∷ 0 ∷ 0 ∷ 0 ∷ []

-- the rows of a chunk table
abbrev pub rows_from : ℕ → List Chunk → List ChunkRow
rows_from place [] = record { name = zeros; place = place } ∷ []
rows_from place (chunk ∷ chunks) = record { name = chunk.name; place = place } ∷ rows_from (place + length chunk.bytes) chunks

row_bytes : (name : List ℕ) (place : ℕ) → length name ≡ 4 → length (name ++ to_be_bytes w64 place) ≡ row_len
row_bytes name place four =
    let both = length-append name (to_be_bytes w64 place) in
    let eight : length (to_be_bytes w64 place) ≡ 8 = refl in
    omega arith

row_back : (name : List ℕ) (place : ℕ) → length name ≡ 4 → place < 2 ^ 64 → chunk_row (name ++ to_be_bytes w64 place) ≡ record { name = name; place = place }
row_back name place four small =
    let row : ChunkRow = chunk_row (name ++ to_be_bytes w64 place) in
    ap (λ (n : List ℕ). record row { name = n }) (take_at name (to_be_bytes w64 place) 4 four)
    ∙ ap (λ (p : ℕ). record row { name = name; place = p }) (ap (from_be_bytes w64) (drop_at name (to_be_bytes w64 place) 4 four) ∙ from_be_bytes-to_be_bytes_8 place small)

first_row : (name behind : List ℕ) (place : ℕ) → length name ≡ 4 → place < 2 ^ 64 → chunk_row (take row_len ((name ++ to_be_bytes w64 place) ++ behind)) ≡ record { name = name; place = place }
first_row name behind place four small =
    ap chunk_row (take_at (name ++ to_be_bytes w64 place) behind row_len (row_bytes name place four)) ∙ row_back name place four small

abbrev pub HaveNames : List Chunk → Type 0
HaveNames chunks = AllByRecursion (λ (c : Chunk). length c.name ≡ 4) chunks

-- the table is read back
pub rows_back : (place : ℕ) (chunks : List Chunk) (rest : List ℕ) → HaveNames chunks → place + length (whole chunks) < 2 ^ 64
    → map chunk_row (table row_len (suc (length chunks)) (chunk_table place chunks ++ rest)) ≡ rows_from place chunks
unfolding table chunk_table
rows_back place [] rest names small = ap (λ (row : ChunkRow). row ∷ []) (first_row zeros rest place refl (omega arith))
rows_back place (chunk ∷ chunks) rest names small =
    let four = names.0 in
    let both = length-append chunk.bytes (whole chunks) in
    let behind = chunk_table (place + length chunk.bytes) chunks ++ rest in
    let own : ((chunk.name ++ to_be_bytes w64 place) ++ chunk_table (place + length chunk.bytes) chunks) ++ rest ≡ (chunk.name ++ to_be_bytes w64 place) ++ behind =
    append_assoc (chunk.name ++ to_be_bytes w64 place) (chunk_table (place + length chunk.bytes) chunks) rest in
    let left : drop row_len ((chunk.name ++ to_be_bytes w64 place) ++ behind) ≡ behind = drop_at (chunk.name ++ to_be_bytes w64 place) behind row_len (row_bytes chunk.name place four) in
    ap (λ (bytes : List ℕ). chunk_row (take row_len bytes) ∷ map chunk_row (table row_len (suc (length chunks)) (drop row_len bytes))) own
    ∙ ap (λ (row : ChunkRow). row ∷ map chunk_row (table row_len (suc (length chunks)) (drop row_len ((chunk.name ++ to_be_bytes w64 place) ++ behind))))
    (first_row chunk.name behind place four (omega arith))
    ∙ ap (λ (bytes : List ℕ). record { name = chunk.name; place = place } ∷ map chunk_row (table row_len (suc (length chunks)) bytes)) left
    ∙ ap (λ (rows : List ChunkRow). record { name = chunk.name; place = place } ∷ rows) (rows_back (place + length chunk.bytes) chunks rest names.1 (omega arith))

pub length-chunk_table : (place : ℕ) (chunks : List Chunk) → HaveNames chunks → length (chunk_table place chunks) ≡ row_len * (length chunks + 1)
unfolding chunk_table
length-chunk_table place [] names = refl
length-chunk_table place (chunk ∷ chunks) names =
    let own = row_bytes chunk.name place names.0 in
    let both = length-append (chunk.name ++ to_be_bytes w64 place) (chunk_table (place + length chunk.bytes) chunks) in
    let rest = length-chunk_table (place + length chunk.bytes) chunks names.1 in
    omega arith

-- the places never fall, and the last one is the end
pub ends_back : (place end : ℕ) (chunks : List Chunk) → end ≡ place + length (whole chunks) → ends_at end (rows_from place chunks) ≡ true
unfolding ends_at
ends_back place end [] is =
    let here : (place == end) ≡ true = eq-eqb place end (omega arith) in
    rw here refl
ends_back place end (chunk ∷ []) is =
    let both = length-append chunk.bytes (whole []) in
    let up : nat_le place (place + length chunk.bytes) ≡ true = le-leb place (place + length chunk.bytes) (omega arith) in
    let rest : ends_at end (rows_from (place + length chunk.bytes) []) ≡ true = ends_back (place + length chunk.bytes) end [] (omega arith) in
    rw (up, rest) refl
ends_back place end (chunk ∷ next ∷ chunks) is =
    let both = length-append chunk.bytes (whole (next ∷ chunks)) in
    let up : nat_le place (place + length chunk.bytes) ≡ true = le-leb place (place + length chunk.bytes) (omega arith) in
    let rest : ends_at end (rows_from (place + length chunk.bytes) (next ∷ chunks)) ≡ true = ends_back (place + length chunk.bytes) end (next ∷ chunks) (omega arith) in
    rw (up, rest) refl

-- ---- the chunks

part_back : (front piece rest bytes : List ℕ) (place : ℕ) → bytes ≡ front ++ (piece ++ rest) → length front ≡ place → part place ((place + length piece) - place) bytes ≡ piece
part_back front piece rest bytes place is long =
    let size : (place + length piece) - place ≡ length piece = omega arith in
    ap (λ (n : ℕ). take n (drop place bytes)) size ∙ ap (λ (b : List ℕ). take (length piece) (drop place b)) is
    ∙ ap (take (length piece)) (drop_at front (piece ++ rest) place long) ∙ take_at piece rest (length piece) refl

chunk_back : (front rest bytes : List ℕ) (chunk : Chunk) (name : List ℕ) (place : ℕ) → bytes ≡ front ++ (chunk.bytes ++ rest) → length front ≡ place
    → chunk_at bytes (record { name = chunk.name; place = place }, record { name = name; place = place + length chunk.bytes }) ≡ chunk
chunk_back front rest bytes chunk name place is long =
    ap (λ (b : List ℕ). record chunk { bytes = b }) (part_back front chunk.bytes rest bytes place is long)

-- each chunk extends to the next one's place
pub chunks_back : (front : List ℕ) (chunks : List Chunk) (rest bytes : List ℕ) (place : ℕ) → bytes ≡ front ++ (whole chunks ++ rest) → length front ≡ place
    → map (chunk_at bytes) (zip (rows_from place chunks) (drop 1 (rows_from place chunks))) ≡ chunks
chunks_back front [] rest bytes place is long = refl
chunks_back front (chunk ∷ []) rest bytes place is long =
    let own : bytes ≡ front ++ (chunk.bytes ++ rest) = is ∙ ap (λ (b : List ℕ). front ++ (b ++ rest)) (append-nil chunk.bytes) in
    ap (λ (c : Chunk). c ∷ []) (chunk_back front rest bytes chunk zeros place own long)
chunks_back front (chunk ∷ next ∷ chunks) rest bytes place is long =
    let behind = whole (next ∷ chunks) in
    let own : bytes ≡ front ++ (chunk.bytes ++ (behind ++ rest)) = is ∙ ap (λ (b : List ℕ). front ++ b) (append_assoc chunk.bytes behind rest) in
    let moved : bytes ≡ (front ++ chunk.bytes) ++ (behind ++ rest) = own ∙ sym (append_assoc front chunk.bytes (behind ++ rest)) in
    let longer : length (front ++ chunk.bytes) ≡ place + length chunk.bytes = length-append front chunk.bytes ∙ ap (λ (n : ℕ). n + length chunk.bytes) long in
    ap (λ (c : Chunk). c ∷ map (chunk_at bytes) (zip (rows_from (place + length chunk.bytes) (next ∷ chunks)) (drop 1 (rows_from (place + length chunk.bytes) (next ∷ chunks)))))
    (chunk_back front (behind ++ rest) bytes chunk next.name place own long)
    ∙ ap (λ (cs : List Chunk). chunk ∷ cs) (chunks_back (front ++ chunk.bytes) (next ∷ chunks) rest bytes (place + length chunk.bytes) moved longer)

-- ---- the names

no_nul : (name : List ℕ) → is_index_name name ≡ true → list_any (λ b. b == 0) name ≡ false
unfolding is_index_name
no_nul name h =
    not-true _ (and_parts _ _ (and_parts _ _ (and_parts _ _ (and_parts _ _ h).1).0).0).0

pub parts_back : (names : List (List ℕ)) (rest : List ℕ) → list_all is_index_name names ≡ true → name_parts (name_bytes names ++ rest) ≡ names ++ name_parts rest
parts_back [] rest all = refl
parts_back (name ∷ names) rest all =
    let apart = and_parts (is_index_name name) (list_all is_index_name names) all in
    let moved : ((name ++ 0 ∷ []) ++ name_bytes names) ++ rest ≡ name ++ 0 ∷ (name_bytes names ++ rest) = simp append_assoc in
    ap name_parts moved
    ∙ slice_split_at (λ (b : ℕ). b == 0) name 0 (name_bytes names ++ rest) (All_not-list_any (λ (b : ℕ). b == 0) name (no_nul name apart.0)) refl
    ∙ ap (λ (parts : List (List ℕ)). name ∷ parts) (parts_back names rest apart.1)

nuls_back : (n : ℕ) → name_parts (replicate n 0) ≡ [] ∷ replicate n []
nuls_back zero = refl
nuls_back (suc n) = ap (λ (parts : List (List ℕ)). [] ∷ parts) (nuls_back n)

all_empty : (n : ℕ) → list_all (λ (rest : List ℕ). length rest == 0) (replicate n []) ≡ true
all_empty zero = refl
all_empty (suc n) = all_empty n

-- the names are read back, with any number of NULs after them
pub names_held : (names : List (List ℕ)) (n : ℕ) → are_names names ≡ true → holds_names (length names) (name_bytes names ++ replicate n 0) ≡ true
unfolding holds_names
names_held names n are =
    let apart = and_parts (list_all is_index_name names) (names_rise names) are in
    let parts : name_parts (name_bytes names ++ replicate n 0) ≡ names ++ [] ∷ replicate n [] = parts_back names (replicate n 0) apart.0 ∙ ap (λ (rest : List (List ℕ)). names ++ rest) (nuls_back n) in
    let many = length-append names ([] ∷ replicate n []) in
    let more : nat_lt (length names) (length (names ++ [] ∷ replicate n [])) ≡ true = lt-ltb (length names) (length (names ++ [] ∷ replicate n [])) (omega arith) in
    let first : take (length names) (names ++ [] ∷ replicate n []) ≡ names = take_at names ([] ∷ replicate n []) (length names) refl in
    let others : drop (length names) (names ++ [] ∷ replicate n []) ≡ [] ∷ replicate n [] = drop_at names ([] ∷ replicate n []) (length names) refl in
    rw (parts, more, first, others, are, all_empty n) refl

pub names_taken : (names : List (List ℕ)) (n : ℕ) → are_names names ≡ true → take (length names) (name_parts (name_bytes names ++ replicate n 0)) ≡ names
names_taken names n are =
    let apart = and_parts (list_all is_index_name names) (names_rise names) are in
    let parts : name_parts (name_bytes names ++ replicate n 0) ≡ names ++ [] ∷ replicate n [] = parts_back names (replicate n 0) apart.0 ∙ ap (λ (rest : List (List ℕ)). names ++ rest) (nuls_back n) in
    ap (take (length names)) parts ∙ take_at names ([] ∷ replicate n []) (length names) refl
