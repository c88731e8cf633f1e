-- Multi-pack indices on examples, by computation.
use Rattle.std.proofs.Common.{◌≡◌, ◌^◌, ℕ, List, [], ◌∷◌, ◌++◌, take, drop, replicate, codes, true, false, Option, Some, None, Err, refl}
use Rattle.std.specs.Str.{is_utf8, chars}
use lib.Utf8.{encode}
use Rattle.gix_hash.specs.declared.kind.Kind.TheVariants as kind
use Rattle.gix_hash.specs.declared.object_id.ObjectId.TheVariants.{Sha1}
use Rattle.gix_pack_read.specs.Bytes.{table}
use Rattle.gix_pack_read.specs.Rows.{PackRow, is_rising}
use Rattle.gix_pack_read.specs.MultiIndex.Chunks.{Chunk, ends_at}
use Rattle.gix_pack_read.specs.MultiIndex.{MultiIndex, are_parts, multi_index_from, multi_index_of, parts_of, read_of}
use Rattle.gix_pack_read.specs.MultiIndex.Held.{holds_names, is_index_name, names_rise}
use Rattle.gix_pack_read.specs.declared.multi_index.file.Error.TheVariants.{AboveLimit, BadMultiIndex}
use Rattle.gix_pack_write.specs.WrittenTables.{narrow_from}
use Rattle.gix_pack_write.specs.WrittenMultiIndex.{chunk_table, chunks_written, multi_front}
use Rattle.gix_pack_write.proofs.ExampleIds.{first, second}

-- ---- names

name : is_index_name (codes "pack-a.idx") ≡ true
unfolding is_index_name is_utf8 chars encode
name = refl

no_stem : is_index_name (codes ".idx") ≡ false
unfolding is_index_name is_utf8 chars encode
no_stem = refl

other_ending : is_index_name (codes "pack-a.pack") ≡ false
unfolding is_index_name is_utf8 chars encode
other_ending = refl

nul : is_index_name (97 ∷ 0 ∷ codes "b.idx") ≡ false
unfolding is_index_name is_utf8 chars encode
nul = refl

slash : is_index_name (codes "a/b.idx") ≡ false
unfolding is_index_name is_utf8 chars encode
slash = refl

two_names : holds_names 2 (codes "a.idx" ++ 0 ∷ codes "b.idx" ++ 0 ∷ []) ≡ true
unfolding holds_names names_rise is_index_name is_utf8 chars encode
two_names = refl

no_end : holds_names 2 (codes "a.idx" ++ 0 ∷ codes "b.idx") ≡ false
unfolding holds_names names_rise is_index_name is_utf8 chars encode
no_end = refl

padded_names : holds_names 1 (codes "a.idx" ++ 0 ∷ 0 ∷ 0 ∷ []) ≡ true
unfolding holds_names names_rise is_index_name is_utf8 chars encode
padded_names = refl

one_name_too_many : holds_names 1 (codes "a.idx" ++ 0 ∷ codes "b.idx" ++ 0 ∷ []) ≡ false
unfolding holds_names names_rise is_index_name is_utf8 chars encode
one_name_too_many = refl

names_out_of_order : holds_names 2 (codes "b.idx" ++ 0 ∷ codes "a.idx" ++ 0 ∷ []) ≡ false
unfolding holds_names names_rise is_index_name is_utf8 chars encode
names_out_of_order = refl

-- ---- whole files, with a hash of zeros

abbrev two_names_of : List (List ℕ)
two_names_of = codes "pack-a.idx" ∷ codes "pack-b.idx" ∷ []

row : List ℕ → ℕ → ℕ → PackRow
row id pack offset = record { id = Sha1 id; pack = pack; offset = offset }

-- a file of these chunks for two packs
file : List Chunk → List ℕ
unfolding multi_front chunk_table
file chunks = multi_front kind.Sha1 two_names_of chunks ++ replicate 20 0

chunks_for : List PackRow → List Chunk
unfolding chunks_written narrow_from
chunks_for rows = chunks_written two_names_of rows

-- the result of reading a file; its line has the names that reading computes with
read : List ℕ → Option MultiIndex
unfolding multi_index_of parts_of multi_index_from are_parts holds_names names_rise is_index_name is_utf8 chars encode ends_at table is_rising
read bytes = multi_index_of bytes

abbrev Tells : List ℕ → List PackRow → Type 0
Tells bytes rows = read bytes ≡ Some (record { kind = kind.Sha1; names = two_names_of; rows = rows })

-- the versions 2 and 1, each in its own pack
both : Tells (file (chunks_for (row second 1 12 ∷ row first 0 12 ∷ []))) (row second 1 12 ∷ row first 0 12 ∷ [])
unfolding read file chunks_for row first second
both = refl

-- an offset of 2^32 adds the chunk of wide offsets
wide : Tells (file (chunks_for (row second 1 (2 ^ 32) ∷ row first 0 12 ∷ []))) (row second 1 (2 ^ 32) ∷ row first 0 12 ∷ [])
unfolding read file chunks_for row first second
wide = refl

-- without that chunk the high bit is a part of the offset
high : Tells (file (chunks_for (row second 1 (2 ^ 31) ∷ row first 0 12 ∷ []))) (row second 1 (2 ^ 31) ∷ row first 0 12 ∷ [])
unfolding read file chunks_for row first second
high = refl

unknown_chunk : Tells (file (record { name = codes "XXXX"; bytes = 1 ∷ 2 ∷ [] } ∷ chunks_for (row first 0 12 ∷ []))) (row first 0 12 ∷ [])
unfolding read file chunks_for row first second
unknown_chunk = refl

missing_chunk : read (file (drop 1 (chunks_for (row first 0 12 ∷ [])))) ≡ None
unfolding read file chunks_for row first
missing_chunk = refl

chunk_twice : read (file (chunks_for (row first 0 12 ∷ []) ++ take 1 (chunks_for (row first 0 12 ∷ [])))) ≡ None
unfolding read file chunks_for row first
chunk_twice = refl

no_such_pack : read (file (chunks_for (row first 2 12 ∷ []))) ≡ None
unfolding read file chunks_for row first
no_such_pack = refl

ids_out_of_order : read (file (chunks_for (row first 0 12 ∷ row second 1 12 ∷ []))) ≡ None
unfolding read file chunks_for row first second
ids_out_of_order = refl

one_byte_more : read (file (chunks_for (row first 0 12 ∷ [])) ++ 0 ∷ []) ≡ None
unfolding read file chunks_for row first
one_byte_more = refl

header_alone : read (codes "MIDX") ≡ None
unfolding read
header_alone = refl

-- with the chunk of wide offsets the high bit refers to a row of it
row_missing : read (file (chunks_for (row first 0 (2 ^ 31) ∷ []) ++ record { name = codes "LOFF"; bytes = [] } ∷ [])) ≡ None
unfolding read file chunks_for row first second
row_missing = refl

half_a_row : read (file (chunks_for (row first 0 12 ∷ []) ++ record { name = codes "LOFF"; bytes = replicate 12 0 } ∷ [])) ≡ None
unfolding read file chunks_for row first second
half_a_row = refl

-- a row that nothing refers to is allowed
unused_row : Tells (file (chunks_for (row first 0 12 ∷ []) ++ record { name = codes "LOFF"; bytes = replicate 8 0 } ∷ [])) (row first 0 12 ∷ [])
unfolding read file chunks_for row first second
unused_row = refl

-- ---- a limit

at_the_limit : read_of (Some 4) (codes "MIDX") ≡ Err BadMultiIndex
unfolding multi_index_of ends_at table
at_the_limit = refl

above_the_limit : read_of (Some 3) (codes "MIDX") ≡ Err AboveLimit
unfolding multi_index_of ends_at table
above_the_limit = refl
