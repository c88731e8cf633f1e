-- The object after a header.
use Rattle.std.proofs.Common.{◌≡◌, ℕ, ◌+◌, ◌-◌, ◌<◌, ◌≤◌, inl, inr, Bool, true, false, List, length, take, Option, Result}
use Rattle.std.proofs.Common.{Ok, Err, if◌then◌else◌, length-drop, length-take-le, subst, refl, sym, ap, ◌∙◌, arith}
use Rattle.std.proofs.lemmas.Bool.{and_parts, cases_lt, le-ltb, leb-true, lt-ltb}
use Rattle.gix_hash.specs.declared.kind.Kind.{Kind}
use Rattle.gix_pack_read.specs.Bytes.{is_within, part, trailer_place}
use Rattle.gix_object.specs.declared.kind.Kind.{Kind as ObjectKind}
use Rattle.gix_pack_read.specs.Pack.{Head, begins_with_header, entries_place, head_at, head_of, header_at, header_len, kind_of_code, object_behind, rest_at}
use Rattle.gix_pack_read.specs.PackHead.{head_from}
use Rattle.gix_pack_read.specs.declared.data.Error.{Error}
use Rattle.gix_pack_read.specs.declared.data.Error.TheVariants.{BadEntry, OutOfMemory}
use Rattle.gix_pack_read.specs.declared.data.entry.Header.{Header}
use Rattle.gix_pack_read.proofs.EntryLemmas.{head_before, head_behind, head_within}

-- ---- the object after a header

-- a header that is read at an offset, and its length
record Stands (kind : Kind) (bytes : List ℕ) (offset len : ℕ) : Type 0 where
  behind_front : entries_place ≤ offset
  before_trailer : offset < trailer_place kind bytes
  fits : len ≤ length (rest_at kind bytes offset)

abbrev len_of_head : Result Head Error → ℕ
len_of_head (Ok head) = head.header_len
len_of_head (Err error) = 0

abbrev len_of_header : Result Header Error → ℕ
len_of_header (Ok header) = header.header_len
len_of_header (Err error) = 0

head_from_Ok : (rest : List ℕ) (head : Head) → head_from rest ≡ Ok head → head.header_len ≤ length rest
unfolding head_from
head_from_Ok rest head h = by (begins_with_header rest) refl
  where
    chosen : (b : Bool) → b ≡ begins_with_header rest → head_from rest ≡ (if b then Ok (head_of rest) else Err BadEntry)
    chosen b is = ap (λ (c : Bool). if c then Ok (head_of rest) else Err BadEntry) (sym is)

    by : (b : Bool) → b ≡ begins_with_header rest → head.header_len ≤ length rest
    by false is = let none : head_from rest ≡ Err BadEntry = chosen false is in absurd (cc (none, h))
    by true is =
        let own : head_from rest ≡ Ok (head_of rest) = chosen true is in
        let len : header_len rest ≡ head.header_len = ap len_of_head (sym own ∙ h) in
        let fits : header_len rest ≤ length rest = leb-true (header_len rest) (length rest) (and_parts _ _ (and_parts _ _ (sym is)).0).0 in
        omega arith

head_stands : (kind : Kind) (bytes : List ℕ) (offset : ℕ) (head : Head) → head_at kind bytes offset ≡ Ok head → Stands kind bytes offset head.header_len
head_stands kind bytes offset head h =
    elim (cases_lt offset entries_place) [
      | inl low ↦ let none = head_before kind bytes offset low in absurd (cc (none, h))
      | inr behind ↦
          elim (cases_lt offset (trailer_place kind bytes)) [
            | inr high ↦ let none = head_behind kind bytes offset high in absurd (cc (none, h))
            | inl before ↦ record {
              behind_front = behind;
              before_trailer = before;
              fits = head_from_Ok (rest_at kind bytes offset) head (sym (head_within kind bytes offset behind before) ∙ h);
            }
          ]
    ]

header_stands : (kind : Kind) (bytes : List ℕ) (offset : ℕ) (header : Header) → header_at kind bytes offset ≡ Ok header → Stands kind bytes offset header.header_len
unfolding header_at
header_stands kind bytes offset header h = by_head (head_at kind bytes offset) refl
  where
    by_kind : (head : Head) → Ok head ≡ head_at kind bytes offset → (read : Result ObjectKind Error) → read ≡ kind_of_code head.code → Stands kind bytes offset header.header_len
    by_kind head is (Err error) coded =
        let none : header_at kind bytes offset ≡ Err error = rw (sym is, sym coded) refl in
        absurd (cc (none, h))
    by_kind head is (Ok object) coded =
        let own : header_at kind bytes offset ≡ Ok (record { kind = object; size = head.size; header_len = head.header_len }) = rw (sym is, sym coded) refl in
        let len : head.header_len ≡ header.header_len = ap len_of_header (sym own ∙ h) in
        subst (λ (n : ℕ). Stands kind bytes offset n) len (head_stands kind bytes offset head (sym is))

    by_head : (read : Result Head Error) → read ≡ head_at kind bytes offset → Stands kind bytes offset header.header_len
    by_head (Err error) is = let none : header_at kind bytes offset ≡ Err error = rw (sym is) refl in absurd (cc (none, h))
    by_head (Ok head) is = by_kind head is (kind_of_code head.code) refl

-- a header that is read is after the pack's own, and ends before the trailing hash
pub header_ends : (kind : Kind) (bytes : List ℕ) (offset : ℕ) (header : Header) → header_at kind bytes offset ≡ Ok header → (entries_place ≤ offset)
    × (offset + header.header_len ≤ trailer_place kind bytes)
header_ends kind bytes offset header h =
    let stands = header_stands kind bytes offset header h in
    let low : entries_place ≤ offset = stands.behind_front in
    let before : offset < trailer_place kind bytes = stands.before_trailer in
    let fits : header.header_len ≤ length (rest_at kind bytes offset) = stands.fits in
    let rest : length (rest_at kind bytes offset) ≡ length (take (trailer_place kind bytes) bytes) - offset = length-drop offset (take (trailer_place kind bytes) bytes) in
    let whole : length (take (trailer_place kind bytes) bytes) ≡ trailer_place kind bytes = length-take-le (trailer_place kind bytes) bytes (omega arith) in
    (low, omega arith)

module _ (kind : Kind) (bytes : List ℕ) (offset : ℕ) (limit : Option ℕ) (header : Header) where
  -- its size is above the limit
  pub object_above : is_within limit header.size ≡ false → object_behind kind bytes offset limit header ≡ Err (OutOfMemory header.size)
  unfolding object_behind
  object_above above = rw above refl

  object_past : is_within limit header.size ≡ true → trailer_place kind bytes < offset + header.header_len + header.size → object_behind kind bytes offset limit header ≡ Err BadEntry
  unfolding object_behind
  object_past within past = rw (within, lt-ltb (trailer_place kind bytes) (offset + header.header_len + header.size) past) refl

  pub object_inside : is_within limit header.size ≡ true → offset + header.header_len + header.size ≤ trailer_place kind bytes
      → object_behind kind bytes offset limit header
      ≡ Ok (record { kind = header.kind; size = header.size; header_len = header.header_len; bytes = part (offset + header.header_len) header.size bytes })
  unfolding object_behind
  object_inside within inside = rw (within, le-ltb (trailer_place kind bytes) (offset + header.header_len + header.size) inside) refl

  abbrev place : ℕ
  place = offset + header.header_len

  -- its data extend beyond the entries
  pub object_beyond : (end : ℕ) → header_at kind bytes offset ≡ Ok header → is_within limit header.size ≡ true → end ≡ trailer_place kind bytes → end - place < header.size
      → object_behind kind bytes offset limit header ≡ Err BadEntry
  object_beyond end read within end_is past =
      let ends : place ≤ trailer_place kind bytes = (header_ends kind bytes offset header read).1 in
      object_past within (omega arith)

  -- its data are these
  pub object_within : (end : ℕ) (found : List ℕ) → header_at kind bytes offset ≡ Ok header → is_within limit header.size ≡ true → end ≡ trailer_place kind bytes → header.size ≤ end - place
      → found ≡ part place header.size bytes
      → object_behind kind bytes offset limit header ≡ Ok (record { kind = header.kind; size = header.size; header_len = header.header_len; bytes = found })
  object_within end found read within end_is inside found_is =
      let ends : place ≤ trailer_place kind bytes = (header_ends kind bytes offset header read).1 in
      object_inside within (omega arith)
      ∙ ap (λ (its : List ℕ). Ok (record { kind = header.kind; size = header.size; header_len = header.header_len; bytes = its })) (sym found_is)
