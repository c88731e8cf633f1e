-- Indices on examples, by computation: the index of the two versions, and bytes that are no index.
use Rattle.std.proofs.Common.{◌≡◌, ◌+◌, ◌-◌, ◌^◌, ◌≤◌, ℕ, List, [], ◌∷◌, ◌++◌, take, replicate, Option, Some, None, refl}
use Rattle.std.specs.List.{flat_map}
use Rattle.gix_hash.specs.declared.kind.Kind.TheVariants as kind
use Rattle.gix_hash.specs.declared.object_id.ObjectId.TheVariants.{Sha1}
use Rattle.gix_pack_read.specs.Bytes.{table}
use Rattle.gix_hash.specs.Steps.{IsSearch}
use Rattle.gix_pack_read.specs.Rows.{Row, begin_with, is_rising}
use Rattle.gix_pack_read.specs.Index.{index_ids, is_index, last_count_place, rows_of_index, signature, tables_agree}
use Rattle.gix_pack_read.proofs.LookUpLaws.{no_step, one_step}
use Rattle.gix_pack_write.specs.WrittenIndex.{index_front}
use Rattle.gix_pack_write.specs.WrittenTables.{narrow_from}
use Rattle.gix_pack_write.proofs.ExampleIds.{first, second}

-- `count` counts of this number, below 256
counts : ℕ → ℕ → List ℕ
counts times count = flat_map (λ n. 0 ∷ 0 ∷ 0 ∷ n ∷ []) (replicate times count)

-- the counts of two ids that begin with 31 and 131
two_counts : List ℕ
unfolding counts
two_counts = counts 31 0 ++ counts 100 1 ++ counts 125 2

-- an index of two rows from its parts, the hashes zeros
two : List ℕ → List ℕ → List ℕ → List ℕ → List ℕ
two fan_out ids offsets wides = signature ++ fan_out ++ ids ++ replicate 8 0 ++ offsets ++ wides ++ replicate 40 0

abbrev Reads : List ℕ → Option (List Row) → Type 0
Reads bytes rows = rows_of_index kind.Sha1 bytes ≡ rows

row : List ℕ → ℕ → Row
row id offset = record { id = Sha1 id; offset = offset }

-- the two rows, and the offsets 23 and 12
offsets : List ℕ
offsets = 0 ∷ 0 ∷ 0 ∷ 23 ∷ 0 ∷ 0 ∷ 0 ∷ 12 ∷ []

whole : List ℕ
unfolding two two_counts counts first second offsets
whole = two two_counts (second ++ first) offsets []

-- ---- indices

none_at_all : Reads (signature ++ counts 256 0 ++ replicate 40 0) (Some [])
unfolding is_index tables_agree counts table is_rising
none_at_all = refl

both : Reads whole (Some (row second 23 ∷ row first 12 ∷ []))
unfolding is_index tables_agree whole two two_counts counts first second offsets table is_rising row
both = refl

-- the high bit refers to a row of the wide offsets, and a row that nothing refers to is allowed
wide : Reads (two two_counts (second ++ first) (128 ∷ 0 ∷ 0 ∷ 1 ∷ 0 ∷ 0 ∷ 0 ∷ 12 ∷ []) (replicate 8 0 ++ 0 ∷ 0 ∷ 0 ∷ 1 ∷ 0 ∷ 0 ∷ 0 ∷ 0 ∷ [])) (Some (row second (2 ^ 32) ∷ row first 12 ∷ []))
unfolding is_index tables_agree two two_counts counts first second table is_rising row
wide = refl

-- the CRC values don't matter
other_checks : Reads (signature ++ two_counts ++ second ++ first ++ replicate 8 7 ++ offsets ++ replicate 40 0) (Some (row second 23 ∷ row first 12 ∷ []))
unfolding is_index tables_agree two_counts counts first second offsets table is_rising row
other_checks = refl

-- ---- other bytes

four_bytes_more : Reads (two two_counts (second ++ first) offsets (replicate 4 0)) None
unfolding is_index tables_agree two two_counts counts first second offsets table is_rising
four_bytes_more = refl

count_too_great : Reads (two (counts 31 0 ++ counts 100 2 ++ counts 125 2) (second ++ first) offsets []) None
unfolding is_index tables_agree two counts first second offsets table is_rising
count_too_great = refl

cut_by_one : Reads (take 1127 whole) None
unfolding is_index tables_agree whole two two_counts counts first second offsets table is_rising
cut_by_one = refl

one_more : Reads (whole ++ 0 ∷ []) None
unfolding is_index tables_agree whole two two_counts counts first second offsets table is_rising
one_more = refl

short : Reads (take last_count_place whole) None
unfolding is_index tables_agree whole two two_counts counts first second offsets table is_rising
short = refl

other_version : Reads (255 ∷ 116 ∷ 79 ∷ 99 ∷ 0 ∷ 0 ∷ 0 ∷ 3 ∷ counts 256 0 ++ replicate 40 0) None
unfolding is_index tables_agree counts table is_rising
other_version = refl

ids_out_of_order : Reads (two two_counts (first ++ second) offsets []) None
unfolding is_index tables_agree two two_counts counts first second offsets table is_rising
ids_out_of_order = refl

one_id_twice : Reads (two (counts 31 0 ++ counts 225 2) (second ++ second) offsets []) None
unfolding is_index tables_agree two counts second offsets table is_rising
one_id_twice = refl

count_too_early : Reads (two (counts 30 0 ++ counts 101 1 ++ counts 125 2) (second ++ first) offsets []) None
unfolding is_index tables_agree two counts first second offsets table is_rising
count_too_early = refl

wide_row_missing : Reads (two two_counts (second ++ first) (128 ∷ 0 ∷ 0 ∷ 1 ∷ 0 ∷ 0 ∷ 0 ∷ 12 ∷ []) (replicate 8 0)) None
unfolding is_index tables_agree two two_counts counts first second table is_rising
wide_row_missing = refl

-- ---- how many steps a look-up takes

none_with_0 : begin_with (index_ids kind.Sha1 whole) 0 ≡ 0
unfolding whole two two_counts counts first second offsets table
none_with_0 = refl

one_with_131 : begin_with (index_ids kind.Sha1 whole) 131 ≡ 1
unfolding whole two two_counts counts first second offsets table
one_with_131 = refl

-- the id of zeros takes none, and that of `version 1` at most one
zeros_take_none : (before after : ℕ) → IsSearch (begin_with (index_ids kind.Sha1 whole) 0) before after → after ≡ before
zeros_take_none before after search = no_step (begin_with (index_ids kind.Sha1 whole) 0) before after none_with_0 search

first_takes_one : (before after : ℕ) → IsSearch (begin_with (index_ids kind.Sha1 whole) 131) before after → after ≤ before + 1
first_takes_one before after search = one_step (begin_with (index_ids kind.Sha1 whole) 131) before after one_with_131 search

-- ---- what is written

written : index_front (Sha1 second ∷ Sha1 first ∷ []) (23 ∷ 12 ∷ []) (replicate 20 0) ++ replicate 20 0 ≡ whole
unfolding index_front narrow_from whole two two_counts counts first second offsets
written = refl

told : narrow_from 0 ((2 ^ 31) ∷ 5 ∷ (2 ^ 31 - 1) ∷ (2 ^ 40) ∷ []) ≡ (2 ^ 31) ∷ 5 ∷ (2 ^ 31 - 1) ∷ (2 ^ 31 + 1) ∷ []
unfolding narrow_from
told = refl
