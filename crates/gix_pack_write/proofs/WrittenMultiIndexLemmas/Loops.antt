-- What is written so far, row by row, chunk by chunk and name by name.
use Rattle.std.proofs.Common.{◌≡◌, ℕ, zero, suc, ◌+◌, ◌^◌, ◌<◌, ◌≤◌, ◌||◌, ◌&&◌, nat_lt, not, Bool, true, false, List, [], ◌∷◌, ◌++◌}
use Rattle.std.proofs.Common.{length, map, drop, get_or, replicate, codes, append_assoc, length-append, refl, sym, ap, subst, ◌∙◌, arith}
use Rattle.std.specs.List.{flat_map, zip}
use Rattle.std.specs.Int.{w32, w64, to_be_bytes}
use Rattle.std.proofs.lemmas.Bool.{or_parts}
use Rattle.std.proofs.lemmas.List.{append-nil, drop_all, drop_more, length-map}
use Rattle.gix_hash.specs.declared.kind.Kind.{Kind}
use Rattle.gix_pack_read.specs.MultiIndex.Chunks.{Chunk}
use Rattle.gix_pack_read.specs.MultiIndex.Held.{are_names, is_index_name}
use Rattle.gix_pack_write.specs.MultiIndexChunks.{below_first, bytes_over, chunk_seen}
use Rattle.gix_pack_write.specs.PlacedRow.{offset_of, pack_of, placed_from}
use Rattle.gix_pack_write.specs.PlacedPackRow.{placed_in}
use Rattle.gix_pack_write.specs.WrittenTables.{is_wide, narrow_from}
use Rattle.gix_pack_write.specs.WrittenMultiIndex.{chunk_table, chunks_place, name_bytes, named_seen, names_of, needs_wide, pack_and_offset}
use Rattle.gix_pack_read.specs.Pack.{entries_place}
use Rattle.gix_pack_write.specs.WrittenPack.{object_seen}
use Rattle.gix_pack_write.specs.declared.multi_index.writing.Chunk as kept
use Rattle.gix_pack_write.specs.declared.multi_index.named_pack.NamedPack as given
use Rattle.gix_pack_write.specs.declared.rows.Placed.{Placed}
use Rattle.gix_pack_write.proofs.WrittenMultiIndexLemmas.{names_more, no_names}

-- ---- loops

-- the first pack that is left, and the others
pub packs_step : (hash : Kind) (number : ℕ) (packs : List given.NamedPack) (i : ℕ) (pack : given.NamedPack) → i < length packs → pack ≡ get_or packs i pack
    → placed_in hash number (map named_seen (drop i packs)) ≡ placed_from hash number entries_place (map object_seen pack.objects) ++ placed_in hash (number + 1) (map named_seen (drop (i + 1) packs))
packs_step hash number packs i pack below is =
    ap (λ (rest : List given.NamedPack). placed_in hash number (map named_seen rest)) (drop_more packs i pack below ∙ ap (λ (p : given.NamedPack). p ∷ drop (i + 1) packs) (sym is))

pub packs_end : (hash : Kind) (number : ℕ) (packs : List given.NamedPack) (i : ℕ) → length packs ≤ i → placed_in hash number (map named_seen (drop i packs)) ≡ []
packs_end hash number packs i past = ap (λ (rest : List given.NamedPack). placed_in hash number (map named_seen rest)) (drop_all i packs past)

pub names_step : (packs : List given.NamedPack) (i : ℕ) (pack : given.NamedPack) → i < length packs → pack ≡ get_or packs i pack
    → name_bytes (names_of (map named_seen (drop i packs))) ≡ (pack.name ++ 0 ∷ []) ++ name_bytes (names_of (map named_seen (drop (i + 1) packs)))
names_step packs i pack below is =
    ap (λ (rest : List given.NamedPack). name_bytes (names_of (map named_seen rest))) (drop_more packs i pack below ∙ ap (λ (p : given.NamedPack). p ∷ drop (i + 1) packs) (sym is))

pub names_end : (packs : List given.NamedPack) (i : ℕ) → length packs ≤ i → name_bytes (names_of (map named_seen (drop i packs))) ≡ []
names_end packs i past = ap (λ (rest : List given.NamedPack). name_bytes (names_of (map named_seen rest))) (drop_all i packs past)

pub chunks_step : (place : ℕ) (chunks : List kept.Chunk) (i : ℕ) (chunk : kept.Chunk) → i < length chunks → chunk ≡ get_or chunks i chunk
    → chunk_table place (map chunk_seen (drop i chunks)) ≡ (chunk.name ++ to_be_bytes w64 place) ++ chunk_table (place + length chunk.bytes) (map chunk_seen (drop (i + 1) chunks))
unfolding chunk_table
chunks_step place chunks i chunk below is =
    ap (λ (rest : List kept.Chunk). chunk_table place (map chunk_seen rest)) (drop_more chunks i chunk below ∙ ap (λ (c : kept.Chunk). c ∷ drop (i + 1) chunks) (sym is))

pub chunks_end : (place : ℕ) (chunks : List kept.Chunk) (i : ℕ) → length chunks ≤ i → chunk_table place (map chunk_seen (drop i chunks)) ≡ replicate 4 0 ++ to_be_bytes w64 place
unfolding chunk_table
chunks_end place chunks i past = ap (λ (rest : List kept.Chunk). chunk_table place (map chunk_seen rest)) (drop_all i chunks past)

pub bytes_step : (chunks : List kept.Chunk) (i : ℕ) (chunk : kept.Chunk) → i < length chunks → chunk ≡ get_or chunks i chunk
    → flat_map (λ (c : Chunk). c.bytes) (map chunk_seen (drop i chunks)) ≡ chunk.bytes ++ flat_map (λ (c : Chunk). c.bytes) (map chunk_seen (drop (i + 1) chunks))
bytes_step chunks i chunk below is =
    ap (λ (rest : List kept.Chunk). flat_map (λ (c : Chunk). c.bytes) (map chunk_seen rest)) (drop_more chunks i chunk below ∙ ap (λ (c : kept.Chunk). c ∷ drop (i + 1) chunks) (sym is))

pub bytes_end : (chunks : List kept.Chunk) (i : ℕ) → length chunks ≤ i → flat_map (λ (c : Chunk). c.bytes) (map chunk_seen (drop i chunks)) ≡ []
bytes_end chunks i past = ap (λ (rest : List kept.Chunk). flat_map (λ (c : Chunk). c.bytes) (map chunk_seen rest)) (drop_all i chunks past)

-- the packs and offsets that are written
abbrev pub wholes : List Placed → List ℕ
wholes rows = flat_map pack_and_offset (zip (map pack_of rows) (map offset_of rows))

abbrev pub narrow_rows : ℕ → List Placed → List ℕ
narrow_rows wide rows = flat_map pack_and_offset (zip (map pack_of rows) (narrow_from wide (map offset_of rows)))

pub narrow_rows_yes : (wide : ℕ) (row : Placed) (rows : List Placed) → is_wide row.offset ≡ true
    → narrow_rows wide (row ∷ rows) ≡ (to_be_bytes w32 row.pack ++ to_be_bytes w32 (2 ^ 31 + wide)) ++ narrow_rows (wide + 1) rows
unfolding narrow_from
narrow_rows_yes wide row rows is = rw is refl

pub narrow_rows_no : (wide : ℕ) (row : Placed) (rows : List Placed) → is_wide row.offset ≡ false
    → narrow_rows wide (row ∷ rows) ≡ (to_be_bytes w32 row.pack ++ to_be_bytes w32 row.offset) ++ narrow_rows wide rows
unfolding narrow_from
narrow_rows_no wide row rows is = rw is refl

-- if no offset needs eight bytes, each fits four
pub fits_four : (rows : List Placed) (i : ℕ) (d : Placed) → i < length rows → needs_wide (map offset_of rows) ≡ false → (get_or rows i d).offset < 2 ^ 32
fits_four [] i d below none = absurd (omega arith)
fits_four (row ∷ rows) zero d below none = by_test row.offset (or_parts (not (nat_lt row.offset (2 ^ 32))) (needs_wide (map offset_of rows)) none).0
  where
    by_test : (offset : ℕ) → not (nat_lt offset (2 ^ 32)) ≡ false → offset < 2 ^ 32
    by_test offset h = grind arith
fits_four (row ∷ rows) (suc i) d below none =
    fits_four rows i d (omega arith) (or_parts (not (nat_lt row.offset (2 ^ 32))) (needs_wide (map offset_of rows)) none).1

-- ---- a loop over rows

regroup : (list one two rest : List ℕ) → ((list ++ one) ++ two) ++ rest ≡ list ++ ((one ++ two) ++ rest)
regroup list one two rest = append_assoc (list ++ one) two rest ∙ append_assoc list one (two ++ rest) ∙ ap (λ (l : List ℕ). list ++ l) (sym (append_assoc one two rest))

narrow_rows_at : (wide : ℕ) (rows : List Placed) (i : ℕ) (d : Placed) → i < length rows → narrow_rows wide (drop i rows) ≡ narrow_rows wide (get_or rows i d ∷ drop (i + 1) rows)
narrow_rows_at wide rows i d below = ap (narrow_rows wide) (drop_more rows i d below)

pub row_on_wide : (list middle new whole : List ℕ) (rows : List Placed) (i wide next : ℕ) (d : Placed) → i < length rows → is_wide (get_or rows i d).offset ≡ true
    → middle ≡ list ++ to_be_bytes w32 (get_or rows i d).pack
    → new ≡ middle ++ to_be_bytes w32 (2 ^ 31 + wide) → next ≡ wide + 1 → list ++ narrow_rows wide (drop i rows) ≡ whole → new ++ narrow_rows next (drop (i + 1) rows) ≡ whole
row_on_wide list middle new whole rows i wide next d below is middle_is new_is next_is so_far =
    let row = get_or rows i d in
    let left = narrow_rows (wide + 1) (drop (i + 1) rows) in
    ap (λ (n : ℕ). new ++ narrow_rows n (drop (i + 1) rows)) next_is
    ∙ ap (λ (l : List ℕ). l ++ left) (new_is ∙ ap (λ (l : List ℕ). l ++ to_be_bytes w32 (2 ^ 31 + wide)) middle_is)
    ∙ regroup list (to_be_bytes w32 row.pack) (to_be_bytes w32 (2 ^ 31 + wide)) left
    ∙ ap (λ (rest : List ℕ). list ++ rest) (sym (narrow_rows_at wide rows i d below ∙ narrow_rows_yes wide row (drop (i + 1) rows) is)) ∙ so_far

pub row_on_low : (list middle new whole : List ℕ) (rows : List Placed) (i wide next : ℕ) (d : Placed) → i < length rows → is_wide (get_or rows i d).offset ≡ false
    → middle ≡ list ++ to_be_bytes w32 (get_or rows i d).pack
    → new ≡ middle ++ to_be_bytes w32 (get_or rows i d).offset → next ≡ wide → list ++ narrow_rows wide (drop i rows) ≡ whole → new ++ narrow_rows next (drop (i + 1) rows) ≡ whole
row_on_low list middle new whole rows i wide next d below is middle_is new_is next_is so_far =
    let row = get_or rows i d in
    let left = narrow_rows wide (drop (i + 1) rows) in
    ap (λ (n : ℕ). new ++ narrow_rows n (drop (i + 1) rows)) next_is
    ∙ ap (λ (l : List ℕ). l ++ left) (new_is ∙ ap (λ (l : List ℕ). l ++ to_be_bytes w32 row.offset) middle_is)
    ∙ regroup list (to_be_bytes w32 row.pack) (to_be_bytes w32 row.offset) left
    ∙ ap (λ (rest : List ℕ). list ++ rest) (sym (narrow_rows_at wide rows i d below ∙ narrow_rows_no wide row (drop (i + 1) rows) is)) ∙ so_far

narrow_rows_none : (wide : ℕ) → narrow_rows wide [] ≡ []
unfolding narrow_from
narrow_rows_none wide = refl

pub rows_end : (list whole : List ℕ) (rows : List Placed) (i wide : ℕ) → length rows ≤ i → list ++ narrow_rows wide (drop i rows) ≡ whole → list ≡ whole
rows_end list whole rows i wide past so_far =
    sym (append-nil list) ∙ ap (λ (rest : List ℕ). list ++ rest) (sym (ap (narrow_rows wide) (drop_all i rows past) ∙ narrow_rows_none wide)) ∙ so_far

-- the header, one part after another
pub front_put : (old l1 l2 l3 : List ℕ) (hash chunks packs : ℕ) → l1 ≡ old ++ codes "MIDX" → l2 ≡ l1 ++ (1 ∷ hash ∷ chunks ∷ 0 ∷ []) → l3 ≡ l2 ++ to_be_bytes w32 packs
    → l3 ≡ old ++ (codes "MIDX" ++ 1 ∷ hash ∷ chunks ∷ 0 ∷ to_be_bytes w32 packs)
front_put old l1 l2 l3 hash chunks packs a b c =
    c ∙ ap (λ (l : List ℕ). l ++ to_be_bytes w32 packs) (b ∙ ap (λ (l : List ℕ). l ++ (1 ∷ hash ∷ chunks ∷ 0 ∷ [])) a)
    ∙ append_assoc (old ++ codes "MIDX") (1 ∷ hash ∷ chunks ∷ 0 ∷ []) (to_be_bytes w32 packs) ∙ append_assoc old (codes "MIDX") (1 ∷ hash ∷ chunks ∷ 0 ∷ to_be_bytes w32 packs)

-- ---- the chunk table, row by row

pub table_on : (list l1 l2 whole : List ℕ) (chunks : List kept.Chunk) (i place next : ℕ) (chunk : kept.Chunk) → i < length chunks → chunk ≡ get_or chunks i chunk
    → l1 ≡ list ++ chunk.name → l2 ≡ l1 ++ to_be_bytes w64 place
    → next ≡ place + length chunk.bytes → list ++ chunk_table place (map chunk_seen (drop i chunks)) ≡ whole → l2 ++ chunk_table next (map chunk_seen (drop (i + 1) chunks)) ≡ whole
table_on list l1 l2 whole chunks i place next chunk below is a b next_is so_far =
    let left = chunk_table (place + length chunk.bytes) (map chunk_seen (drop (i + 1) chunks)) in
    ap (λ (n : ℕ). l2 ++ chunk_table n (map chunk_seen (drop (i + 1) chunks))) next_is
    ∙ ap (λ (l : List ℕ). l ++ left) (b ∙ ap (λ (l : List ℕ). l ++ to_be_bytes w64 place) a) ∙ regroup list chunk.name (to_be_bytes w64 place) left
    ∙ ap (λ (rest : List ℕ). list ++ rest) (sym (chunks_step place chunks i chunk below is)) ∙ so_far

pub end_on : (chunks : List kept.Chunk) (i place next end : ℕ) (chunk : kept.Chunk) → i < length chunks → chunk ≡ get_or chunks i chunk → next ≡ place + length chunk.bytes
    → place + bytes_over (map chunk_seen (drop i chunks)) ≡ end → next + bytes_over (map chunk_seen (drop (i + 1) chunks)) ≡ end
end_on chunks i place next end chunk below is next_is so_far =
    let step : bytes_over (map chunk_seen (drop i chunks)) ≡ length (chunk.bytes ++ flat_map (λ (c : Chunk). c.bytes) (map chunk_seen (drop (i + 1) chunks))) = ap
    (λ (l : List ℕ). length l) (bytes_step chunks i chunk below is) in
    let both = length-append chunk.bytes (flat_map (λ (c : Chunk). c.bytes) (map chunk_seen (drop (i + 1) chunks))) in
    omega arith

pub table_all : (list l1 l2 whole : List ℕ) (chunks : List kept.Chunk) (i place : ℕ) → length chunks ≤ i → l1 ≡ list ++ replicate 4 0 → l2 ≡ l1 ++ to_be_bytes w64 place
    → list ++ chunk_table place (map chunk_seen (drop i chunks)) ≡ whole → l2 ≡ whole
table_all list l1 l2 whole chunks i place past a b so_far =
    b ∙ ap (λ (l : List ℕ). l ++ to_be_bytes w64 place) a ∙ append_assoc list (replicate 4 0) (to_be_bytes w64 place)
    ∙ ap (λ (rest : List ℕ). list ++ rest) (sym (chunks_end place chunks i past)) ∙ so_far

pub end_all : (chunks : List kept.Chunk) (i place end : ℕ) → length chunks ≤ i → place < 2 ^ 64 → place + bytes_over (map chunk_seen (drop i chunks)) ≡ end → end < 2 ^ 64
end_all chunks i place end past small so_far =
    let none : bytes_over (map chunk_seen (drop i chunks)) ≡ 0 = ap (λ (l : List ℕ). length l) (bytes_end chunks i past) in
    omega arith

-- ---- whether an offset doesn't fit four bytes

abbrev wide_in : List Placed → Bool
wide_in rows = needs_wide (map offset_of rows)

wide_here : (offset : ℕ) (rest : Bool) → 2 ^ 32 ≤ offset → (not (nat_lt offset (2 ^ 32)) || rest) ≡ true
wide_here offset rest high = grind arith

fits_here : (offset : ℕ) (rest : Bool) → offset < 2 ^ 32 → (not (nat_lt offset (2 ^ 32)) || rest) ≡ rest
fits_here offset rest low = grind arith

pub wide_found : (rows : List Placed) (i : ℕ) (d : Placed) → i < length rows → 2 ^ 32 ≤ (get_or rows i d).offset → needs_wide (map offset_of (drop i rows)) ≡ true
wide_found rows i d below high = ap wide_in (drop_more rows i d below) ∙ wide_here (get_or rows i d).offset (wide_in (drop (i + 1) rows)) high

pub wide_not_yet : (rows : List Placed) (i : ℕ) (d : Placed) → i < length rows → (get_or rows i d).offset < 2 ^ 32
    → needs_wide (map offset_of (drop i rows)) ≡ needs_wide (map offset_of (drop (i + 1) rows))
wide_not_yet rows i d below low = ap wide_in (drop_more rows i d below) ∙ fits_here (get_or rows i d).offset (wide_in (drop (i + 1) rows)) low

pub wide_nowhere : (rows : List Placed) (i : ℕ) → length rows ≤ i → needs_wide (map offset_of (drop i rows)) ≡ false
wide_nowhere rows i past = ap wide_in (drop_all i rows past)

-- ---- the names, one pack on

names_at : (packs : List given.NamedPack) (i : ℕ) (pack : given.NamedPack) → i < length packs → pack ≡ get_or packs i pack
    → are_names (names_of (map named_seen (drop i packs))) ≡
    ((is_index_name pack.name && below_first pack.name (names_of (map named_seen (drop (i + 1) packs)))) && are_names (names_of (map named_seen (drop (i + 1) packs))))
names_at packs i pack below is =
    ap (λ (rest : List given.NamedPack). are_names (names_of (map named_seen rest))) (drop_more packs i pack below ∙ ap (λ (p : given.NamedPack). p ∷ drop (i + 1) packs) (sym is))
    ∙ names_more pack.name (names_of (map named_seen (drop (i + 1) packs)))

no_name : (a b c : Bool) → a ≡ false → ((a && b) && c) ≡ false
no_name a b c x = rw x refl

no_order : (a b c : Bool) → b ≡ false → ((a && b) && c) ≡ false
no_order true b c x = rw x refl
no_order false b c x = refl

both : (a b c : Bool) → a ≡ true → b ≡ true → ((a && b) && c) ≡ c
both a b c x y = rw (x, y) refl

pub names_bad : (packs : List given.NamedPack) (i : ℕ) (pack : given.NamedPack) → i < length packs → pack ≡ get_or packs i pack → is_index_name pack.name ≡ false
    → are_names (names_of (map named_seen (drop i packs))) ≡ false
names_bad packs i pack below is h = names_at packs i pack below is ∙ no_name (is_index_name pack.name) _ _ h

pub names_out : (packs : List given.NamedPack) (i : ℕ) (pack : given.NamedPack) → i < length packs → pack ≡ get_or packs i pack
    → below_first pack.name (names_of (map named_seen (drop (i + 1) packs))) ≡ false
    → are_names (names_of (map named_seen (drop i packs))) ≡ false
names_out packs i pack below is h = names_at packs i pack below is ∙ no_order (is_index_name pack.name) _ _ h

pub names_good : (packs : List given.NamedPack) (i : ℕ) (pack : given.NamedPack) → i < length packs → pack ≡ get_or packs i pack → is_index_name pack.name ≡ true
    → below_first pack.name (names_of (map named_seen (drop (i + 1) packs))) ≡ true → are_names (names_of (map named_seen (drop i packs))) ≡ are_names (names_of (map named_seen (drop (i + 1) packs)))
names_good packs i pack below is h o = names_at packs i pack below is ∙ both (is_index_name pack.name) _ _ h o

pub names_all : (packs : List given.NamedPack) (i : ℕ) → length packs ≤ i → are_names (names_of (map named_seen (drop i packs))) ≡ true
names_all packs i past = ap (λ (rest : List given.NamedPack). are_names (names_of (map named_seen rest))) (drop_all i packs past) ∙ no_names

-- ---- the chunks at the end of the file

pub bytes_all : (list start : List ℕ) (chunks : List kept.Chunk) (i : ℕ) → length chunks ≤ i
    → list ++ flat_map (λ (c : Chunk). c.bytes) (map chunk_seen (drop i chunks)) ≡ start ++ flat_map (λ (c : Chunk). c.bytes) (map chunk_seen chunks)
    → list ≡ start ++ flat_map (λ (c : Chunk). c.bytes) (map chunk_seen chunks)
bytes_all list start chunks i past so_far = sym (append-nil list) ∙ ap (λ (rest : List ℕ). list ++ rest) (sym (bytes_end chunks i past)) ∙ so_far

pub small_seen : (own chunks : List kept.Chunk) → chunks ≡ own → chunks_place (length chunks) + bytes_over (map chunk_seen chunks) < 2 ^ 64
    → chunks_place (length (map chunk_seen own)) + bytes_over (map chunk_seen own) < 2 ^ 64
small_seen own chunks same small =
    subst (λ (cs : List kept.Chunk). chunks_place (length (map chunk_seen cs)) + bytes_over (map chunk_seen cs) < 2 ^ 64) same
    (subst (λ (n : ℕ). chunks_place n + bytes_over (map chunk_seen chunks) < 2 ^ 64) (sym (length-map chunks chunk_seen)) small)

-- ---- what a loop over packs or rows uses

pub ruleset each_name = (names_bad, names_out, names_good, names_all)

pub ruleset each_offset = (wide_found, wide_not_yet, wide_nowhere)
