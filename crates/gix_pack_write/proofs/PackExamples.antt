-- Packs on examples, by computation.
use Rattle.std.proofs.Common.{◌≡◌, ◌^◌, ◌-◌, ℕ, List, [], ◌∷◌, ◌++◌, codes, replicate, true, false, Some, None, Ok, Err, refl}
use Rattle.gix_hash.specs.declared.kind.Kind.TheVariants.{Sha1}
use Rattle.gix_object.specs.declared.kind.Kind.TheVariants.{Commit, Blob}
use Rattle.gix_pack_read.specs.declared.data.Error.TheVariants.{BadEntry, DeltaEntry, OutOfMemory, EntryType}
use Rattle.gix_pack_read.specs.Pack.{is_pack, head_at, header_at, entry_at, object_behind, slice_at, version_in, kind_of_code, size_bits}
use Rattle.gix_pack_write.specs.WrittenPack.{header_of, pack_front, places_from, size_bytes}

-- a pack of two blobs, `version 1` and `version 2` each with a line feed, and a hash of zeros
two : List ℕ
two = codes "PACK" ++ 0 ∷ 0 ∷ 0 ∷ 2 ∷ 0 ∷ 0 ∷ 0 ∷ 2 ∷ 58 ∷ codes "version 1" ++ 10 ∷ 58 ∷ codes "version 2" ++ 10 ∷ replicate 20 0

is_two : is_pack Sha1 two ≡ true
unfolding two is_pack
is_two = refl

-- a pack of one entry, with a hash of zeros
one_entry : List ℕ → List ℕ
one_entry entry = codes "PACK" ++ 0 ∷ 0 ∷ 0 ∷ 2 ∷ 0 ∷ 0 ∷ 0 ∷ 1 ∷ [] ++ entry ++ replicate 20 0

version_of_two : version_in two ≡ 2
unfolding two
version_of_two = refl

first : entry_at Sha1 two 12 None ≡ Ok (record { kind = Blob; size = 10; header_len = 1; bytes = codes "version 1" ++ 10 ∷ [] })
unfolding two entry_at object_behind header_at head_at kind_of_code size_bits
first = refl

second : entry_at Sha1 two 23 (Some 10) ≡ Ok (record { kind = Blob; size = 10; header_len = 1; bytes = codes "version 2" ++ 10 ∷ [] })
unfolding two entry_at object_behind header_at head_at kind_of_code size_bits
second = refl

above_the_limit : entry_at Sha1 two 23 (Some 9) ≡ Err (OutOfMemory 10)
unfolding two entry_at object_behind header_at head_at kind_of_code size_bits
above_the_limit = refl

at_the_hash : entry_at Sha1 two 34 None ≡ Err BadEntry
unfolding two entry_at object_behind header_at head_at kind_of_code size_bits
at_the_hash = refl

before_the_entries : entry_at Sha1 two 11 None ≡ Err BadEntry
unfolding two entry_at object_behind header_at head_at kind_of_code size_bits
before_the_entries = refl

delta : header_at Sha1 (one_entry (106 ∷ 5 ∷ [])) 12 ≡ Err DeltaEntry
unfolding one_entry header_at head_at kind_of_code size_bits
delta = refl

no_kind : header_at Sha1 (one_entry (90 ∷ 5 ∷ [])) 12 ≡ Err (EntryType 5)
unfolding one_entry header_at head_at kind_of_code size_bits
no_kind = refl

-- the data extend into the hash: a header is read, and no entry
header_alone : header_at Sha1 (one_entry (58 ∷ [])) 12 ≡ Ok (record { kind = Blob; size = 10; header_len = 1 })
unfolding one_entry header_at head_at kind_of_code size_bits
header_alone = refl

no_data : entry_at Sha1 (one_entry (58 ∷ [])) 12 None ≡ Err BadEntry
unfolding one_entry entry_at object_behind header_at head_at kind_of_code size_bits
no_data = refl

-- the limit comes before the end of the data
limit_first : entry_at Sha1 (one_entry (58 ∷ [])) 12 (Some 9) ≡ Err (OutOfMemory 10)
unfolding one_entry entry_at object_behind header_at head_at kind_of_code size_bits
limit_first = refl

-- a cut header is found before its type
cut_delta : header_at Sha1 (one_entry (234 ∷ [])) 12 ≡ Err BadEntry
unfolding one_entry header_at head_at kind_of_code size_bits
cut_delta = refl

other_delta : header_at Sha1 (one_entry (122 ∷ [])) 12 ≡ Err DeltaEntry
unfolding one_entry header_at head_at kind_of_code size_bits
other_delta = refl

type_zero : header_at Sha1 (one_entry (10 ∷ [])) 12 ≡ Err (EntryType 0)
unfolding one_entry header_at head_at kind_of_code size_bits
type_zero = refl

-- the header itself extends into the hash
cut_header : header_at Sha1 (one_entry (186 ∷ [])) 12 ≡ Err BadEntry
unfolding one_entry header_at head_at kind_of_code size_bits
cut_header = refl

-- a size of two further bytes: 5 + 16 * (1 + 128 * 2)
long_header : header_at Sha1 (one_entry (149 ∷ 129 ∷ 2 ∷ [])) 12 ≡ Ok (record { kind = Commit; size = 4117; header_len = 3 })
unfolding one_entry header_at head_at kind_of_code size_bits
long_header = refl

-- a header may be longer than the shortest
padded_header : header_at Sha1 (one_entry (177 ∷ 128 ∷ 0 ∷ [])) 12 ≡ Ok (record { kind = Blob; size = 1; header_len = 3 })
unfolding one_entry header_at head_at kind_of_code size_bits
padded_header = refl

-- ten bytes with the greatest size, one above it, and eleven bytes
greatest : header_at Sha1 (one_entry (191 ∷ replicate 8 255 ++ 15 ∷ [])) 12 ≡ Ok (record { kind = Blob; size = 2 ^ 64 - 1; header_len = 10 })
unfolding one_entry header_at head_at kind_of_code size_bits
greatest = refl

too_great : header_at Sha1 (one_entry (176 ∷ replicate 8 128 ++ 16 ∷ [])) 12 ≡ Err BadEntry
unfolding one_entry header_at head_at kind_of_code size_bits
too_great = refl

eleven_bytes : header_at Sha1 (one_entry (177 ∷ replicate 9 128 ++ 0 ∷ [])) 12 ≡ Err BadEntry
unfolding one_entry header_at head_at kind_of_code size_bits
eleven_bytes = refl

-- parts of the entries
whole_slice : slice_at Sha1 two 33 1 ≡ Some (10 ∷ [])
unfolding two
whole_slice = refl

slice_into_the_hash : slice_at Sha1 two 33 2 ≡ None
unfolding two
slice_into_the_hash = refl

-- ---- other bytes

version_three : is_pack Sha1 (codes "PACK" ++ 0 ∷ 0 ∷ 0 ∷ 3 ∷ replicate 24 0) ≡ true
unfolding is_pack
version_three = refl

version_four : is_pack Sha1 (codes "PACK" ++ 0 ∷ 0 ∷ 0 ∷ 4 ∷ replicate 24 0) ≡ false
unfolding is_pack
version_four = refl

no_magic : is_pack Sha1 (codes "pACK" ++ 0 ∷ 0 ∷ 0 ∷ 2 ∷ replicate 24 0) ≡ false
unfolding is_pack
no_magic = refl

too_short : is_pack Sha1 (codes "PACK" ++ 0 ∷ 0 ∷ 0 ∷ 2 ∷ replicate 23 0) ≡ false
unfolding is_pack
too_short = refl

-- ---- what is written

shortest : header_of 3 15 ≡ 63 ∷ []
unfolding header_of size_bytes
shortest = refl

next_shortest : header_of 3 16 ≡ 176 ∷ 1 ∷ []
unfolding header_of size_bytes
next_shortest = refl

longest : header_of 3 (2 ^ 64 - 1) ≡ 191 ∷ replicate 8 255 ++ 15 ∷ []
unfolding header_of size_bytes
longest = refl

front_of_two : pack_front (record { kind = Blob; bytes = codes "version 1" ++ 10 ∷ [] } ∷ record { kind = Blob; bytes = codes "version 2" ++ 10 ∷ [] } ∷ []) ++ replicate 20 0 ≡ two
unfolding two pack_front header_of
front_of_two = refl

places_of_two : places_from 12 (record { kind = Blob; bytes = codes "version 1" ++ 10 ∷ [] } ∷ record { kind = Blob; bytes = codes "version 2" ++ 10 ∷ [] } ∷ []) ≡ 12 ∷ 23 ∷ []
unfolding places_from header_of
places_of_two = refl
