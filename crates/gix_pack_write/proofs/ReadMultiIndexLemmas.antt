-- Multi-pack indices, as they are written, are read back as a whole.
use Rattle.std.proofs.Common.{◌≡◌, ℕ, suc, ◌+◌, ◌-◌, ◌^◌, ◌<◌, ◌==◌, ◌&&◌, nat_eq, Bool, true, false, cond, List, [], ◌∷◌, ◌++◌, length, map, drop}
use Rattle.std.proofs.Common.{slice_index, codes, Option, Some, None, unwrap_or, is_some, append_assoc, length-append, refl, sym, ap, subst, ◌∙◌, arith}
use Rattle.std.proofs.lemmas.Bool.{le-leb}
use Rattle.std.specs.Prelude.{option_and_then}
use Rattle.std.specs.List.{AllByRecursion, filter, flat_map, starts_with, zip}
use Rattle.std.specs.Int.{w32, to_be_bytes}
use Rattle.std.proofs.lemmas.List.{drop_at, length-map}
use Rattle.gix_hash.specs.Hash.{hash_of}
use Rattle.gix_hash.specs.Kind.{len_in_bytes_of}
use Rattle.gix_hash.specs.ObjectId.{bytes_of, IsId}
use Rattle.gix_hash.specs.declared.kind.Kind.{Kind}
use Rattle.gix_hash.specs.declared.kind.Kind.TheVariants.{Sha1, Sha256}
use Rattle.gix_hash.specs.declared.object_id.ObjectId.{ObjectId}
use Rattle.gix_object.specs.Data.{Object}
use Rattle.gix_pack_read.specs.Bytes.{same, table}
use Rattle.gix_pack_read.specs.MultiIndex.Chunks.{Chunk, ChunkRow, chunk_at, chunk_row, chunk_rows, chunks_in, chunks_of, ends_at}
use Rattle.gix_pack_read.specs.MultiIndex.Chunks.{has_header, has_room, hash_in, hash_of_number, header_len, kind_in, packs_in, row_len, the_one, trailer_place}
use Rattle.gix_pack_read.specs.MultiIndex.{MultiIndex, Parts, at_most_one, multi_index_from, multi_index_of, parts_of}
use Rattle.gix_pack_write.specs.MultiIndexChunks.{bytes_over, front_with}
use Rattle.gix_pack_write.specs.PlacedRow.{IsPlaced, id_of, offset_of, pack_of, placed_from}
use Rattle.gix_pack_write.specs.PlacedPackRow.{multi_placed, pack_row_of, placed_in}
use Rattle.gix_pack_read.specs.Rows.{PackRow, counts_of}
use Rattle.gix_pack_write.specs.WrittenTables.{is_wide, long_number_bytes, number_bytes, table_of}
use Rattle.gix_pack_write.specs.WrittenMultiIndex.{Named, chunk_table, chunks_written, hash_number, name_bytes, names_of, needs_wide}
use Rattle.gix_pack_write.specs.WrittenMultiIndex.{offsets_written, pack_and_offset, padded, rows_in_packs, CanBeWritten, ReadsMultiIndex, chunks_place}
use Rattle.gix_pack_read.specs.Pack.{entries_place}
use Rattle.gix_pack_write.specs.WrittenPack.{entry_of}
use Rattle.gix_pack_write.specs.declared.rows.Placed.{Placed}
use Rattle.gix_pack_write.proofs.WrittenMultiIndexLemmas.{chunks_seen, multi_each, multi_few, multi_rising, multi_table_seen}
use Rattle.gix_pack_write.proofs.WrittenPartsLemmas.{parts_written, told}
use Rattle.gix_pack_write.proofs.WrittenPartsLemmas.Rows.{IsInPack}
use Rattle.gix_pack_write.proofs.PlacedLemmas.{each_append}
use Rattle.gix_pack_write.proofs.TableLemmas.{each_of_table, is_table}
use Rattle.gix_pack_write.proofs.WrittenChunkLemmas.{chunks_back, ends_back, length-chunk_table, rows_back, rows_from, whole, HaveNames}
use Rattle.gix_pack_write.proofs.WrittenTableLemmas.{length-hash_of, number_back}

number_hash : (hash : Kind) → hash_of_number (hash_number hash) ≡ Some hash
number_hash Sha1 = refl
number_hash Sha256 = refl

all_three : (a b c : Bool) → a ≡ true → b ≡ true → c ≡ true → (a && b && c) ≡ true
all_three a b c x y z = rw (x, y, z) refl

abbrev named_in : List ℕ → List Chunk → List Chunk
named_in name all = filter (λ (chunk : Chunk). same chunk.name name) all

-- the parts among some chunks
abbrev pub parts_among : List Chunk → Option Parts
parts_among all =
    option_and_then (λ (names : List ℕ). option_and_then (λ (counts : List ℕ). option_and_then (λ (ids : List ℕ). option_and_then (λ (offsets : List ℕ). option_and_then (λ (wides : Option (List ℕ)).
    Some (record { names = names; counts = counts; ids = ids; offsets = offsets; wides = wides })) (at_most_one (named_in (codes "LOFF") all)))
    (the_one (named_in (codes "OOFF") all))) (the_one (named_in (codes "OIDL") all))) (the_one (named_in (codes "OIDF") all))) (the_one (named_in (codes "PNAM") all))

-- ---- the frame: header, chunk table, chunks, hash

module _ (hash : Kind) (packs : ℕ) (chunks : List Chunk) (own : List ℕ) (have_names : HaveNames chunks) (small : chunks_place (length chunks) + length (whole chunks) < 2 ^ 64)
    (few : packs < 2 ^ 32) (own_long : length own ≡ len_in_bytes_of hash) where
  abbrev place : ℕ
  place = chunks_place (length chunks)

  abbrev pub head : List ℕ
  head = codes "MIDX" ++ 1 ∷ hash_number hash ∷ length chunks ∷ 0 ∷ to_be_bytes w32 packs

  abbrev pub bytes : List ℕ
  bytes = head ++ (chunk_table place chunks ++ (whole chunks ++ own))

  hash_is : hash_in bytes ≡ Some hash
  hash_is = number_hash hash

  kind_is : kind_in bytes ≡ hash
  kind_is = ap (λ (o : Option Kind). unwrap_or o Sha1) hash_is

  packs_are : packs_in bytes ≡ packs
  packs_are = number_back (codes "MIDX" ++ 1 ∷ hash_number hash ∷ length chunks ∷ 0 ∷ []) packs (chunk_table place chunks ++ (whole chunks ++ own)) 8 refl few

  long : length bytes ≡ place + length (whole chunks) + len_in_bytes_of hash
  long =
      let a = length-append head (chunk_table place chunks ++ (whole chunks ++ own)) in
      let b = length-append (chunk_table place chunks) (whole chunks ++ own) in
      let c = length-append (whole chunks) own in
      let d = length-chunk_table place chunks have_names in
      let e : length head ≡ header_len = refl in
      omega arith

  trailer_is : trailer_place bytes ≡ place + length (whole chunks)
  trailer_is = ap (λ (kind : Kind). length bytes - len_in_bytes_of kind) kind_is ∙ omega (arith, long)

  header_fits : has_header bytes ≡ true
  header_fits = all_three (starts_with nat_eq bytes (codes "MIDX" ++ 1 ∷ [])) (is_some (hash_in bytes)) (slice_index bytes 7 == 0) refl (ap is_some hash_is) refl

  room_fits : has_room bytes ≡ true
  room_fits =
      let size : len_in_bytes_of (kind_in bytes) ≡ len_in_bytes_of hash = ap len_in_bytes_of kind_is in
      let all = long in
      le-leb (chunks_place (chunks_in bytes) + len_in_bytes_of (kind_in bytes)) (length bytes) (omega arith)

  rows_are : chunk_rows bytes ≡ rows_from place chunks
  rows_are =
      let more : length chunks + 1 ≡ suc (length chunks) = omega arith in
      ap (λ (n : ℕ). map chunk_row (table row_len n (drop header_len bytes))) more
      ∙ ap (λ (rest : List ℕ). map chunk_row (table row_len (suc (length chunks)) rest)) (drop_at head (chunk_table place chunks ++ (whole chunks ++ own)) header_len refl)
      ∙ rows_back place chunks (whole chunks ++ own) have_names small

  ends_fit : ends_at (trailer_place bytes) (chunk_rows bytes) ≡ true
  ends_fit = ap (λ (rows : List ChunkRow). ends_at (trailer_place bytes) rows) rows_are ∙ ends_back place (trailer_place bytes) chunks trailer_is

  chunks_are : chunks_of bytes ≡ chunks
  chunks_are =
      let moved : bytes ≡ (head ++ chunk_table place chunks) ++ (whole chunks ++ own) = sym (append_assoc head (chunk_table place chunks) (whole chunks ++ own)) in
      let a = length-append head (chunk_table place chunks) in
      let d = length-chunk_table place chunks have_names in
      let e : length head ≡ header_len = refl in
      ap (λ (rows : List ChunkRow). map (chunk_at bytes) (zip rows (drop 1 rows))) rows_are
      ∙ chunks_back (head ++ chunk_table place chunks) chunks own bytes place moved (omega arith)

  parts_are : parts_of bytes ≡ parts_among chunks
  unfolding parts_of
  parts_are = ap parts_among chunks_are

  pub frame_read : (parts : Parts) (index : MultiIndex) → parts_among chunks ≡ Some parts → multi_index_from hash packs parts ≡ Some index → multi_index_of bytes ≡ Some index
  unfolding multi_index_of
  frame_read parts index found is =
      ap (λ (fits : Bool). cond fits (option_and_then (λ (p : Parts). multi_index_from (kind_in bytes) (packs_in bytes) p) (parts_of bytes)) None) (all_three _ _ _ header_fits room_fits ends_fit)
      ∙ ap (λ (o : Option Parts). option_and_then (λ (p : Parts). multi_index_from (kind_in bytes) (packs_in bytes) p) o) (parts_are ∙ found)
      ∙ ap (λ (kind : Kind). multi_index_from kind (packs_in bytes) parts) kind_is ∙ ap (λ (n : ℕ). multi_index_from hash n parts) packs_are ∙ is

-- ---- the chunks that are written

abbrev five : Bool → List ℕ → List ℕ → List ℕ → List ℕ → List ℕ → List Chunk
five wide names counts ids offsets wides =
    record { name = codes "PNAM"; bytes = names } ∷ record { name = codes "OIDF"; bytes = counts } ∷ record { name = codes "OIDL"; bytes = ids } ∷ record { name = codes "OOFF"; bytes = offsets }
    ∷ cond wide (record { name = codes "LOFF"; bytes = wides } ∷ []) []

found_by : (wide : Bool) (names counts ids offsets wides : List ℕ) → parts_among (five wide names counts ids offsets wides)
    ≡ Some (record { names = names; counts = counts; ids = ids; offsets = offsets; wides = cond wide (Some wides) None })
found_by true names counts ids offsets wides = refl
found_by false names counts ids offsets wides = refl

five_named : (wide : Bool) (names counts ids offsets wides : List ℕ) → HaveNames (five wide names counts ids offsets wides)
five_named true names counts ids offsets wides = (refl, (refl, (refl, (refl, (refl, tt)))))
five_named false names counts ids offsets wides = (refl, (refl, (refl, (refl, tt))))

-- ---- the numbers of the packs

known_from : (hash : Kind) (packs number place : ℕ) (objects : List Object) → number < packs → AllByRecursion (IsInPack packs) (placed_from hash number place objects)
known_from hash packs number place [] below = tt
known_from hash packs number place (object ∷ objects) below = (record { known = below }, known_from hash packs number (place + length (entry_of object)) objects below)

known_in : (hash : Kind) (all number : ℕ) (packs : List Named) → number + length packs ≡ all → AllByRecursion (IsInPack all) (placed_in hash number packs)
known_in hash all number [] is = tt
known_in hash all number (pack ∷ packs) is =
    each_append (IsInPack all) (placed_from hash number entries_place pack.objects) (placed_in hash (number + 1) packs) (known_from hash all number entries_place pack.objects (omega arith))
    (known_in hash all (number + 1) packs (omega arith))

-- ---- the whole

abbrev offsets_in : List Placed → List ℕ
offsets_in rows = map offset_of rows

-- the chunks of some rows
abbrev pub five_of : List (List ℕ) → List Placed → List Chunk
five_of names rows =
    five (needs_wide (offsets_in rows)) (padded (name_bytes names)) (number_bytes (counts_of (map id_of rows))) (flat_map bytes_of (map id_of rows))
    (flat_map pack_and_offset (zip (map pack_of rows) (offsets_written (offsets_in rows)))) (long_number_bytes (filter is_wide (offsets_in rows)))

three_nested : (h t w o : List ℕ) → ((h ++ t) ++ w) ++ o ≡ h ++ (t ++ (w ++ o))
three_nested h t w o = append_assoc (h ++ t) w o ∙ append_assoc h t (w ++ o)

abbrev id_seen : PackRow → ObjectId
id_seen row = row.id

-- the multi-index of packs is read back if their objects' ids are ids, and their offsets and the places of the chunks fit
pub multi_read_back : (hash : Kind) (packs : List Named) (rows : List Placed) (front : List ℕ) → rows ≡ multi_placed hash packs
    → front ≡ front_with hash (length packs) (five_of (names_of packs) rows) → IsId (hash_of hash front)
    → CanBeWritten packs → AllByRecursion (IsPlaced hash) (placed_in hash 0 packs)
    → chunks_place (length (five_of (names_of packs) rows)) + length (whole (five_of (names_of packs) rows)) < 2 ^ 64
    → ReadsMultiIndex hash packs (front ++ bytes_of (hash_of hash front))
multi_read_back hash packs rows front rows_are front_is own_id can placed small =
    let names = names_of packs in
    let chunks = five_of names rows in
    let own = bytes_of (hash_of hash front) in
    let many : length names ≡ length packs = length-map packs (λ (pack : Named). pack.name) in
    let few_packs = can.few_packs in
    let all_placed = multi_each hash packs rows rows_are placed in
    let all_known : AllByRecursion (IsInPack (length names)) rows =
    subst (AllByRecursion (IsInPack (length names))) (sym rows_are) (each_of_table id_of (IsInPack (length names)) (placed_in hash 0 packs) (known_in hash (length names) 0 packs (omega arith))) in
    let rising = multi_rising hash packs rows rows_are in
    let few = multi_few hash packs rows rows_are can.few_objects in
    let few_names : length names < 2 ^ 32 = omega arith in
    let own_long = length-hash_of hash front own_id in
    let have_names = five_named (needs_wide (offsets_in rows)) (padded (name_bytes names)) (number_bytes (counts_of (map id_of rows))) (flat_map bytes_of (map id_of rows))
    (flat_map pack_and_offset (zip (map pack_of rows) (offsets_written (offsets_in rows)))) (long_number_bytes (filter is_wide (offsets_in rows))) in
    let nested = three_nested (codes "MIDX" ++ 1 ∷ hash_number hash ∷ length chunks ∷ 0 ∷ to_be_bytes w32 (length names)) (chunk_table (chunks_place (length chunks)) chunks) (whole chunks) own in
    record {
      rows = table_of id_seen (rows_in_packs hash packs);
      table = is_table id_seen (rows_in_packs hash packs);
      read =
          ap multi_index_of (ap (λ (f : List ℕ). f ++ own) (front_is ∙ ap (λ (n : ℕ). front_with hash n chunks) (sym many)) ∙ nested)
          ∙ frame_read hash (length names) chunks own have_names small few_names own_long
          (parts_written hash names rows all_placed all_known few rising can.names) (record { kind = hash; names = names; rows = map pack_row_of rows })
          (found_by (needs_wide (offsets_in rows)) (padded (name_bytes names)) (number_bytes (counts_of (map id_of rows))) (flat_map bytes_of (map id_of rows))
          (flat_map pack_and_offset (zip (map pack_of rows) (offsets_written (offsets_in rows)))) (long_number_bytes (filter is_wide (offsets_in rows))))
          (told hash names rows all_placed all_known few rising can.names)
          ∙ ap (λ (seen : List PackRow). Some (record { kind = hash; names = names; rows = seen })) (ap (map pack_row_of) rows_are ∙ multi_table_seen hash packs);
    }

-- the multi-index of the chunks as they are written is read back
pub multi_encoded : (hash : Kind) (packs : List Named) (rows : List Placed) (chunks : List Chunk) (front : List ℕ) → rows ≡ multi_placed hash packs
    → chunks ≡ chunks_written (names_of packs) (map pack_row_of rows)
    → front ≡ front_with hash (length packs) chunks → IsId (hash_of hash front) → CanBeWritten packs → AllByRecursion (IsPlaced hash) (placed_in hash 0 packs)
    → chunks_place (length chunks) + bytes_over chunks < 2 ^ 64 → ReadsMultiIndex hash packs (front ++ bytes_of (hash_of hash front))
multi_encoded hash packs rows chunks front rows_are chunks_are front_is own_id can placed small =
    let five_are : chunks ≡ five_of (names_of packs) rows = chunks_are ∙ chunks_seen (names_of packs) rows in
    multi_read_back hash packs rows front rows_are (front_is ∙ ap (front_with hash (length packs)) five_are) own_id can placed
    (subst (λ (cs : List Chunk). chunks_place (length cs) + length (whole cs) < 2 ^ 64) five_are small)
