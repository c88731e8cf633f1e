-- Packs that were written, read back: the front, each entry at its offset, and the end of the entries.
use Rattle.std.proofs.Common.{◌≡◌, ℕ, ◌+◌, ◌^◌, ◌<◌, ◌≤◌, nat_le, nat_lt, true, None, Ok, List, [], ◌∷◌, ◌++◌, length, take, drop, codes, append_assoc, length-append, subst, refl, sym, ap, ◌∙◌, arith}
use Rattle.std.proofs.lemmas.Bool.{le-leb, lt-ltb}
use Rattle.std.specs.List.{flat_map, zip, AllByRecursion}
use Rattle.std.specs.Int.{w32, to_be_bytes}
use Rattle.std.proofs.Math.Seq.{take-append_seam, drop-append_seam}
use Rattle.std.proofs.lemmas.Nat.{from_be_bytes-to_be_bytes_4}
use Rattle.gix_hash.specs.Hash.{hash_of}
use Rattle.gix_hash.specs.Kind.{len_in_bytes_of}
use Rattle.gix_hash.specs.ObjectId.{bytes_of, IsId}
use Rattle.gix_hash.specs.declared.kind.Kind.{Kind as HashKind}
use Rattle.gix_object.specs.Data.{Object}
use Rattle.gix_object.specs.declared.kind.Kind.{Kind}
use Rattle.gix_object.specs.declared.kind.Kind.TheVariants.{Commit, Tree, Blob, Tag}
use Rattle.gix_pack_read.specs.Bytes.{part, trailer_place}
use Rattle.gix_pack_read.specs.Pack.{entries_place, entry_at, head_at, header_at, header_len, is_pack, kind_of_code, objects_in, rest_at, size_of, version_in}
use Rattle.gix_pack_read.specs.PackHead.{head_from}
use Rattle.gix_pack_write.specs.ReadPack.{IsReadAt, ReadsPack, read_entry}
use Rattle.gix_pack_write.specs.WrittenPack.{code_of_kind, entry_of, header_of, pack_front, pack_hash, pack_of, places_from}
use Rattle.gix_hash.proofs.HashLemmas.{kind_of-hash_of}
use Rattle.gix_pack_read.proofs.EntryLemmas.{head_within}
use Rattle.gix_pack_read.proofs.EntryLemmas.Objects.{object_inside}
use Rattle.gix_pack_write.proofs.ReadHeaderLemmas.{Tells, header_tells}

-- ---- a header

kind_is_read : (kind : Kind) → kind_of_code (code_of_kind kind) ≡ Ok kind
unfolding kind_of_code
kind_is_read Commit = refl
kind_is_read Tree = refl
kind_is_read Blob = refl
kind_is_read Tag = refl

code_is_small : (kind : Kind) → code_of_kind kind < 8
code_is_small Commit = omega arith
code_is_small Tree = omega arith
code_is_small Blob = omega arith
code_is_small Tag = omega arith

-- a written header is read, whatever follows it
head_is_read : (code size : ℕ) (header behind : List ℕ) → Tells code size header → size < 2 ^ 64
    → head_from (header ++ behind) ≡ Ok (record { code = code; size = size; header_len = length header })
unfolding head_from
head_is_read code size header behind tells fits =
    let len : header_len (header ++ behind) ≡ length header = tells.place_is behind in
    let whole : length (header ++ behind) ≡ length header + length behind = length-append header behind in
    let own : take (header_len (header ++ behind)) (header ++ behind) ≡ header = ap (λ (n : ℕ). take n (header ++ behind)) len ∙ take-append_seam header behind in
    let size_is : size_of (take (header_len (header ++ behind)) (header ++ behind)) ≡ size = ap size_of own ∙ tells.size_is in
    let room : nat_le (header_len (header ++ behind)) (length (header ++ behind)) ≡ true = le-leb (header_len (header ++ behind)) (length (header ++ behind)) (omega arith) in
    let short : length header ≤ 10 = tells.short in
    let ten : nat_le (header_len (header ++ behind)) 10 ≡ true = le-leb (header_len (header ++ behind)) 10 (omega arith) in
    let small : nat_lt (size_of (take (header_len (header ++ behind)) (header ++ behind))) (2 ^ 64)
    ≡ true = lt-ltb (size_of (take (header_len (header ++ behind)) (header ++ behind))) (2 ^ 64) (omega arith) in
    rw (room, ten, small)
    (ap (λ (c : ℕ). Ok (record { code = c; size = size_of (take (header_len (header ++ behind)) (header ++ behind)); header_len = header_len (header ++ behind) })) (tells.code_is behind)
    ∙ ap (λ (s : ℕ). Ok (record { code = code; size = s; header_len = header_len (header ++ behind) })) size_is
    ∙ ap (λ (n : ℕ). Ok (record { code = code; size = size; header_len = n })) len)

-- ---- the entries of a file that ends with a hash

part_is : (front own behind bytes : List ℕ) (place : ℕ) → place ≡ length front → bytes ≡ front ++ (own ++ behind) → part place (length own) bytes ≡ own
part_is front own behind bytes place at is =
    ap (λ (n : ℕ). part n (length own) bytes) at
    ∙ ap (λ (its : List ℕ). take (length own) (drop (length front) its)) is
    ∙ ap (λ (its : List ℕ). take (length own) its) (drop-append_seam front (own ++ behind))
    ∙ take-append_seam own behind

module _ (hash : HashKind) (trailer : List ℕ) (size : length trailer ≡ len_in_bytes_of hash) where
  trailer_behind : (front bytes : List ℕ) → bytes ≡ front ++ trailer → trailer_place hash bytes ≡ length front
  trailer_behind front bytes is =
      let whole : length bytes ≡ length front + length trailer = ap length is ∙ length-append front trailer in
      omega arith

  rest_behind : (front rest bytes : List ℕ) → bytes ≡ (front ++ rest) ++ trailer → rest_at hash bytes (length front) ≡ rest
  rest_behind front rest bytes is =
      ap (λ (n : ℕ). drop (length front) (take n bytes)) (trailer_behind (front ++ rest) bytes is)
      ∙ ap (λ (its : List ℕ). drop (length front) (take (length (front ++ rest)) its)) is
      ∙ ap (λ (its : List ℕ). drop (length front) its) (take-append_seam (front ++ rest) trailer)
      ∙ drop-append_seam front rest

  -- the header of an object is read after some bytes
  header_is_read : (object : Object) (front behind bytes : List ℕ) → entries_place ≤ length front → length object.bytes < 2 ^ 64 → bytes ≡ (front ++ (entry_of object ++ behind)) ++ trailer
      → header_at hash bytes (length front) ≡ Ok (record { kind = object.kind; size = length object.bytes; header_len = length (header_of (code_of_kind object.kind) (length object.bytes)) })
  unfolding header_at
  header_is_read object front behind bytes low fits is =
      let header : List ℕ = header_of (code_of_kind object.kind) (length object.bytes) in
      let tells = header_tells (code_of_kind object.kind) (length object.bytes) (code_is_small object.kind) fits in
      let some : 1 ≤ length header = let at = tells.place_is [] in omega arith in
      let place : trailer_place hash bytes ≡ length (front ++ (entry_of object ++ behind)) = trailer_behind (front ++ (entry_of object ++ behind)) bytes is in
      let whole : length (front ++ (entry_of object ++ behind)) ≡ length front + length (entry_of object ++ behind) = length-append front (entry_of object ++ behind) in
      let entry : length (entry_of object ++ behind) ≡ length header + length object.bytes + length behind = length-append (entry_of object) behind
      ∙ ap (λ (n : ℕ). n + length behind) (length-append header object.bytes) in
      let rest : rest_at hash bytes (length front) ≡ header ++ (object.bytes ++ behind) = rest_behind front (entry_of object ++ behind) bytes is ∙ append_assoc header object.bytes behind in
      let head : head_at hash bytes (length front) ≡ Ok (record { code = code_of_kind object.kind; size = length object.bytes; header_len = length header })
      = head_within hash bytes (length front) low (omega arith) ∙ ap head_from rest ∙ head_is_read (code_of_kind object.kind) (length object.bytes) header (object.bytes ++ behind) tells fits in
      rw (head, kind_is_read object.kind) refl

  -- the entry of an object is read after some bytes
  entry_is_read : (object : Object) (front behind bytes : List ℕ) → entries_place ≤ length front → length object.bytes < 2 ^ 64 → bytes ≡ (front ++ (entry_of object ++ behind)) ++ trailer
      → entry_at hash bytes (length front) None ≡ Ok (read_entry object)
  unfolding entry_at
  entry_is_read object front behind bytes low fits is =
      let header : List ℕ = header_of (code_of_kind object.kind) (length object.bytes) in
      let read = header_is_read object front behind bytes low fits is in
      let place : trailer_place hash bytes ≡ length (front ++ (entry_of object ++ behind)) = trailer_behind (front ++ (entry_of object ++ behind)) bytes is in
      let whole : length (front ++ (entry_of object ++ behind)) ≡ length front + length (entry_of object ++ behind) = length-append front (entry_of object ++ behind) in
      let entry : length (entry_of object ++ behind) ≡ length header + length object.bytes + length behind = length-append (entry_of object) behind
      ∙ ap (λ (n : ℕ). n + length behind) (length-append header object.bytes) in
      let inside = object_inside hash bytes (length front) None (record { kind = object.kind; size = length object.bytes; header_len = length header }) refl (omega arith) in
      let split : bytes ≡ (front ++ header) ++ (object.bytes ++ (behind ++ trailer)) = is ∙ simp append_assoc in
      let held : part (length front + length header) (length object.bytes) bytes ≡ object.bytes = part_is (front ++ header) object.bytes (behind ++ trailer) bytes
      (length front + length header) (sym (length-append front header)) split in
      rw read (inside ∙ ap (λ (its : List ℕ). Ok (record { kind = object.kind; size = length object.bytes; header_len = length header; bytes = its })) held)

  -- each object's entry is read at its offset
  all_are_read : (objects : List Object) (front bytes : List ℕ) → entries_place ≤ length front → length (flat_map entry_of objects) < 2 ^ 64 → bytes ≡ (front ++ flat_map entry_of objects) ++ trailer
      → AllByRecursion (IsReadAt hash bytes) (zip objects (places_from (length front) objects))
  unfolding places_from
  all_are_read [] front bytes low fits is = tt
  all_are_read (object ∷ objects) front bytes low fits is =
      let header : List ℕ = header_of (code_of_kind object.kind) (length object.bytes) in
      let entry : length (entry_of object) ≡ length header + length object.bytes = length-append header object.bytes in
      let both : length (entry_of object ++ flat_map entry_of objects) ≡ length (entry_of object) + length (flat_map entry_of objects) = length-append (entry_of object) (flat_map entry_of objects) in
      let further : length (front ++ entry_of object) ≡ length front + length (entry_of object) = length-append front (entry_of object) in
      let one = entry_is_read object front (flat_map entry_of objects) bytes low (omega arith) is in
      let more : bytes ≡ ((front ++ entry_of object) ++ flat_map entry_of objects) ++ trailer = is
      ∙ ap (λ (its : List ℕ). its ++ trailer) (sym (append_assoc front (entry_of object) (flat_map entry_of objects))) in
      let rest = all_are_read objects (front ++ entry_of object) bytes (omega arith) (omega arith) more in
      (one, subst (λ (n : ℕ). AllByRecursion (IsReadAt hash bytes) (zip objects (places_from n objects))) further rest)

-- ---- whole packs

abbrev magic_and_numbers : ℕ → List ℕ
magic_and_numbers count = codes "PACK" ++ to_be_bytes w32 2 ++ to_be_bytes w32 count

front_is : (objects : List Object) → pack_front objects ≡ magic_and_numbers (length objects) ++ flat_map entry_of objects
unfolding pack_front
front_is objects = refl

pub length_of_front : (objects : List Object) → length (pack_front objects) ≡ entries_place + length (flat_map entry_of objects)
length_of_front objects = ap length (front_is objects) ∙ length-append (magic_and_numbers (length objects)) (flat_map entry_of objects)

version_is_two : (count : ℕ) (rest : List ℕ) → version_in (magic_and_numbers count ++ rest) ≡ 2
version_is_two count rest = refl

count_is : (count : ℕ) (rest : List ℕ) → count < 2 ^ 32 → objects_in (magic_and_numbers count ++ rest) ≡ count
count_is count rest few = from_be_bytes-to_be_bytes_4 count few

begins_as_pack : (hash : HashKind) (count : ℕ) (rest : List ℕ) → len_in_bytes_of hash ≤ length rest → is_pack hash (magic_and_numbers count ++ rest) ≡ true
unfolding is_pack
begins_as_pack hash count rest room =
    let whole : length (magic_and_numbers count ++ rest) ≡ entries_place + length rest = length-append (magic_and_numbers count) rest in
    let fits : nat_le (entries_place + len_in_bytes_of hash) (length (magic_and_numbers count ++ rest))
    ≡ true = le-leb (entries_place + len_in_bytes_of hash) (length (magic_and_numbers count ++ rest)) (omega arith) in
    rw fits refl

-- the pack of some objects is read as their pack. Its hash has the length of its kind, as each id has
pub pack_is_read : (hash : HashKind) (objects : List Object) → length (pack_hash hash objects) ≡ len_in_bytes_of hash → length objects < 2 ^ 32
    → length (flat_map entry_of objects) < 2 ^ 64 → ReadsPack hash objects (pack_of hash objects)
unfolding pack_of
pack_is_read hash objects size few fits =
    let bytes : List ℕ = pack_of hash objects in
    let split : bytes ≡ (magic_and_numbers (length objects) ++ flat_map entry_of objects) ++ pack_hash hash objects = ap (λ (its : List ℕ). its ++ pack_hash hash objects) (front_is objects) in
    let is : bytes ≡ magic_and_numbers (length objects) ++ (flat_map entry_of objects ++ pack_hash hash objects) = split
    ∙ append_assoc (magic_and_numbers (length objects)) (flat_map entry_of objects) (pack_hash hash objects) in
    let both : length (flat_map entry_of objects ++ pack_hash hash objects) ≡ length (flat_map entry_of objects) + length (pack_hash hash objects) = length-append
    (flat_map entry_of objects) (pack_hash hash objects) in
    record {
      pack = ap (is_pack hash) is ∙ begins_as_pack hash (length objects) (flat_map entry_of objects ++ pack_hash hash objects) (omega arith);
      version = ap version_in is ∙ version_is_two (length objects) (flat_map entry_of objects ++ pack_hash hash objects);
      count = ap objects_in is ∙ count_is (length objects) (flat_map entry_of objects ++ pack_hash hash objects) few;
      entries = all_are_read hash (pack_hash hash objects) size objects (magic_and_numbers (length objects)) bytes (omega arith) fits split;
      filled = sym (trailer_behind hash (pack_hash hash objects) size (magic_and_numbers (length objects) ++ flat_map entry_of objects) bytes split
          ∙ length-append (magic_and_numbers (length objects)) (flat_map entry_of objects));
    }

-- bytes that are the front and its hash are read as the pack
pub made_is_read : (hash : HashKind) (objects : List Object) (front bytes : List ℕ) → front ≡ pack_front objects → bytes ≡ front ++ bytes_of (hash_of hash front)
    → IsId (hash_of hash front) → length front < 2 ^ 63 → length objects < 2 ^ 31
    → ReadsPack hash objects bytes
unfolding pack_of
made_is_read hash objects front bytes front_is_own bytes_are id fits few =
    let len : length front ≡ entries_place + length (flat_map entry_of objects) = ap length front_is_own ∙ length_of_front objects in
    let own : bytes ≡ pack_of hash objects = bytes_are ∙ ap (λ (its : List ℕ). its ++ bytes_of (hash_of hash its)) front_is_own in
    let size : length (bytes_of (hash_of hash front)) ≡ len_in_bytes_of hash = id.size ∙ ap len_in_bytes_of (kind_of-hash_of hash front) in
    let hash_size : length (pack_hash hash objects) ≡ len_in_bytes_of hash = subst (λ (its : List ℕ). length (bytes_of (hash_of hash its)) ≡ len_in_bytes_of hash) front_is_own size in
    subst (ReadsPack hash objects) (sym own) (pack_is_read hash objects hash_size (omega arith) (omega arith))
