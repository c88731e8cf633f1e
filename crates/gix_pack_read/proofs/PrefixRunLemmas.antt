-- The rows of a prefix are consecutive: a prefix that is below an id is below each later one, and once an id has it, above no later one.
use Rattle.std.proofs.Common.{◌≡◌, ℕ, zero, suc, ◌+◌, ◌*◌, ◌<◌, ◌≤◌, ◌⊎◌, ◌↔◌, inl, inr, Bool, true, false, IsTrue, List, [], ◌∷◌, length, take, drop}
use Rattle.std.proofs.Common.{slice_get, get_or, Option, Some, IfSome, Ordering, Less, Equal, Greater, lit<, refl, sym, ap, subst, ◌∙◌, arith}
use Rattle.std.proofs.lemmas.List.{get_or-drop}
use Rattle.std.proofs.lemmas.Option.{same_Some, slice_get-get_or, slice_get_within}
use Rattle.hex.specs.Hex.{IsBytes}
use Rattle.gix_hash.specs.Kind.{len_in_bytes_of}
use Rattle.gix_hash.specs.ObjectId.{bytes_of, first_byte_of}
use Rattle.gix_hash.specs.Prefix.{PrefixOf, HasPrefix, IsPrefix, prefix_cmp}
use Rattle.gix_hash.specs.declared.kind.Kind.{Kind}
use Rattle.gix_hash.specs.declared.kind.Kind.TheVariants as kind
use Rattle.gix_hash.specs.declared.object_id.ObjectId.{ObjectId}
use Rattle.gix_hash.proofs.PrefixLaws.{Equal-from_HasPrefix, HasPrefix-from_Equal, below_later, not_above_later, same_first_byte}
use Rattle.gix_pack_read.specs.Bytes.{part}
use Rattle.gix_pack_read.specs.IdTable.{IsFront}
use Rattle.gix_pack_read.specs.Rows.{id_from, ids_of, is_rising, IsPrefixRun}
use Rattle.gix_pack_read.proofs.RisingLemmas.{rows_rise}
use Rattle.gix_pack_read.proofs.SearchLemmas.{length-ids_of, row_id, same_or_later}

-- ---- parts of a file are bytes

IsBytes-drop : (n : ℕ) (bytes : List ℕ) → IsBytes bytes → IsBytes (drop n bytes)
IsBytes-drop n bytes are i = rw (get_or-drop n bytes i 0) (are (n + i))

IsBytes-take : (n : ℕ) (bytes : List ℕ) → IsBytes bytes → IsBytes (take n bytes)
IsBytes-take zero bytes are i = lit< tt
IsBytes-take (suc n) [] are i = lit< tt
IsBytes-take (suc n) (b ∷ bytes) are zero = are 0
IsBytes-take (suc n) (b ∷ bytes) are (suc i) = IsBytes-take n bytes (λ j. are (suc j)) i

IsBytes-part : (place size : ℕ) (bytes : List ℕ) → IsBytes bytes → IsBytes (part place size bytes)
IsBytes-part place size bytes are = IsBytes-take size (drop place bytes) (IsBytes-drop place bytes are)

-- so are those of an id made of a part
bytes_from : (kind : Kind) (bytes : List ℕ) → IsBytes bytes → IsBytes (bytes_of (id_from kind bytes))
bytes_from kind.Sha1 bytes are = are
bytes_from kind.Sha256 bytes are = are

-- and so are those of the ids of a table
bytes_in : (own : Kind) (n : ℕ) (bytes : List ℕ) (row : ℕ) (id : ObjectId) → IsBytes bytes → slice_get (ids_of own n bytes) row ≡ Some id → IsBytes (bytes_of id)
bytes_in own n bytes row id are get =
    let inside : row < length (ids_of own n bytes) = slice_get_within (ids_of own n bytes) row id get in
    let long = length-ids_of own n bytes in
    let same = same_Some _ id (sym (row_id own n bytes row (omega arith)) ∙ get) in
    subst (λ (x : ObjectId). IsBytes (bytes_of x)) same
    (bytes_from own (part (row * len_in_bytes_of own) (len_in_bytes_of own) bytes) (IsBytes-part (row * len_in_bytes_of own) (len_in_bytes_of own) bytes are))

-- ---- a comparison in the middle of some rows

module _ (prefix : PrefixOf) (order : Ordering) (ids : List ObjectId) (start middle end : ℕ) (result : Bool) (front : IsFront prefix order ids start end)
    (compared : IfSome (slice_get ids middle) (λ id. IsTrue result ↔ (prefix_cmp prefix id ≡ order))) where
  by_result : (id : ObjectId) → slice_get ids middle ≡ Some id → IsTrue result ↔ (prefix_cmp prefix id ≡ order)
  by_result id get = subst (λ (found : Option ObjectId). IfSome found (λ id. IsTrue result ↔ (prefix_cmp prefix id ≡ order))) get compared

  -- each up to a row that compares so does, too
  pub passed_more : result ≡ true → middle < end → middle < length ids → (row : ℕ) (id : ObjectId) → start ≤ row → row < middle + 1 → slice_get ids row ≡ Some id
      → prefix_cmp prefix id ≡ order
  passed_more agrees inside there row id low below get =
      elim (same_or_later row middle (omega arith)) [
        | inl here ↦ (by_result id (ap (slice_get ids) (sym here) ∙ get)).0 agrees
        | inr before ↦
            let at = slice_get-get_or ids middle id there in
            front row middle id (get_or ids middle id) low before inside get at ((by_result (get_or ids middle id) at).0 agrees)
      ]

  -- none from a row on that doesn't compare so does
  pub none_more : result ≡ false → start ≤ middle → middle < length ids → (row : ℕ) (id : ObjectId) → middle ≤ row → row < end → slice_get ids row ≡ Some id
      → prefix_cmp prefix id ≡ order → ⊥
  none_more other from there row id low below get tie =
      elim (same_or_later middle row low) [
        | inl here ↦ let agrees : result ≡ true = (by_result id (ap (slice_get ids) here ∙ get)).1 tie in cc (agrees, other)
        | inr later ↦
            let at = slice_get-get_or ids middle id there in
            let agrees : result ≡ true = (by_result (get_or ids middle id) at).1 (front middle row (get_or ids middle id) id from later below at get tie) in
            cc (agrees, other)
      ]

-- ---- the run

module _ (own : Kind) (n : ℕ) (bytes : List ℕ) (prefix : PrefixOf) (are : IsBytes bytes) (rising : is_rising (ids_of own n bytes) ≡ true) where
  abbrev ids : List ObjectId
  ids = ids_of own n bytes

  later_below : (row later : ℕ) (id other : ObjectId) → row < later → slice_get ids row ≡ Some id → slice_get ids later ≡ Some other
      → prefix_cmp prefix id ≡ Less → prefix_cmp prefix other ≡ Less
  later_below row later id other order its next h =
      below_later prefix id other (bytes_in own n bytes row id are its) (bytes_in own n bytes later other are next) (rows_rise ids row later id other rising order its next) h

  later_not_above : (row later : ℕ) (id other : ObjectId) → row < later → slice_get ids row ≡ Some id → slice_get ids later ≡ Some other
      → prefix_cmp prefix id ≡ Equal → prefix_cmp prefix other ≡ Greater → ⊥
  later_not_above row later id other order its next h above =
      not_above_later prefix id other (bytes_in own n bytes row id are its) (bytes_in own n bytes later other are next) (rows_rise ids row later id other rising order its next) h above

  -- the ids that the prefix is above come first
  pub front_above : (start end : ℕ) → IsFront prefix Greater ids start end
  front_above start end row later id other low order high its next above = by_order (prefix_cmp prefix id) refl
    where
      by_order : (o : Ordering) → o ≡ prefix_cmp prefix id → prefix_cmp prefix id ≡ Greater
      by_order Less is = let below : prefix_cmp prefix other ≡ Less = later_below row later id other order its next (sym is) in absurd (cc (below, above))
      by_order Equal is = absurd (later_not_above row later id other order its next (sym is) above)
      by_order Greater is = sym is

  -- after them those that have it
  pub front_have : (start end : ℕ) → ((row : ℕ) (id : ObjectId) → start ≤ row → row < end → slice_get ids row ≡ Some id → prefix_cmp prefix id ≡ Greater → ⊥) → IsFront prefix Equal ids start end
  front_have start end none_above row later id other low order high its next tie = by_order (prefix_cmp prefix id) refl
    where
      by_order : (o : Ordering) → o ≡ prefix_cmp prefix id → prefix_cmp prefix id ≡ Equal
      by_order Less is = let below : prefix_cmp prefix other ≡ Less = later_below row later id other order its next (sym is) in absurd (cc (below, tie))
      by_order Equal is = sym is
      by_order Greater is = absurd (none_above row id low (omega arith) its (sym is))

  place_of : (row start end : ℕ) → (row < start) ⊎ ((start ≤ row) × (row < end)) ⊎ (end ≤ row)
  place_of row start end = grind arith

  -- the result of the two searches among the rows that begin with the prefix's first byte
  pub prefix_run : (first start end behind : ℕ) → IsPrefix prefix → start ≤ end → end ≤ behind → behind ≤ n
      → ((row : ℕ) (id : ObjectId) → slice_get ids row ≡ Some id → first_byte_of id ≡ first_byte_of prefix.id → (first ≤ row) × (row < behind))
      → ((row : ℕ) (id : ObjectId) → first ≤ row → row < start → slice_get ids row ≡ Some id → prefix_cmp prefix id ≡ Greater)
      → ((row : ℕ) (id : ObjectId) → start ≤ row → row < end → slice_get ids row ≡ Some id → prefix_cmp prefix id ≡ Equal)
      → ((row : ℕ) (id : ObjectId) → end ≤ row → row < behind → slice_get ids row ≡ Some id → prefix_cmp prefix id ≡ Equal → ⊥)
      → IsPrefixRun ids prefix start end
  prefix_run first start end behind is order within last begin above have others =
      record {
        order = order;
        within = let long = length-ids_of own n bytes in omega arith;
        exact = λ row id get. (
          λ run. HasPrefix-from_Equal prefix id (have row id run.0 run.1 get),
          λ (its : HasPrefix prefix id).
              let tie : prefix_cmp prefix id ≡ Equal = Equal-from_HasPrefix prefix id its in
              let place = begin row id get (same_first_byte prefix id is (bytes_in own n bytes row id are get) tie) in
              elim (place_of row start end) [
                | inl before ↦ let other : prefix_cmp prefix id ≡ Greater = above row id place.0 before get in absurd (cc (other, tie))
                | inr (inl both) ↦ both
                | inr (inr later) ↦ absurd (others row id later place.1 get tie)
              ],
        );
      }
