-- The parts of a multi-pack index, tested one after another.
pub mod Rows
use Rattle.std.proofs.Common.{◌≡◌, ℕ, zero, suc, ◌-◌, ◌*◌, ◌/◌, ◌%◌, ◌^◌, ◌<◌, ◌≤◌, ◌==◌, ◌&&◌, nat_lt, Bool, true, false, List, [], ◌∷◌, length}
use Rattle.std.proofs.Common.{take, drop, Option, Some, None, option_map, option_and_then, unwrap_or, cond, refl, sym, ap, subst, ◌∙◌, arith}
use Rattle.std.specs.List.{list_all}
use Rattle.std.specs.Int.{w32, from_be_bytes}
use Rattle.std.proofs.lemmas.Bool.{and_parts}
use Rattle.std.proofs.lemmas.Bool.Decides.{nat_tests}
use Rattle.std.proofs.lemmas.List.{drop-take, take-take}
use Rattle.gix_hash.specs.Kind.{len_in_bytes_of}
use Rattle.gix_hash.specs.declared.kind.Kind.{Kind}
use Rattle.gix_pack_read.specs.Bytes.{number_at, numbers, same, table}
use Rattle.gix_hash.specs.declared.object_id.ObjectId.{ObjectId}
use Rattle.gix_pack_read.specs.Rows.{counts_fit, counts_of, ids_of, is_rising}
use Rattle.gix_pack_read.specs.MultiIndex.{Parts, are_parts, have_lengths, multi_index_from, multi_index_of, objects_in, offset_rows, part_ids, parts_of}
use Rattle.gix_pack_read.specs.MultiIndex.Chunks.{chunk_rows, ends_at, has_header, has_room, header_len, kind_in, packs_in, trailer_place}
use Rattle.gix_pack_read.specs.MultiIndex.Held.{has_offset, holds_names, name_parts}
use Rattle.gix_pack_read.specs.MultiIndexLayout.{ids_agree, is_offset, is_row, layout_in, len_of, parts_at, rows_agree}
use Rattle.gix_pack_read.specs.MultiIndexLayout.{rows_at, span_of, tables_agree, wides_in, AreIn, AreTables, IsInIfThere, IsLaidOut, IsRead}
use Rattle.gix_pack_read.specs.declared.multi_index.layout.Layout.{Layout}
use Rattle.gix_pack_read.specs.declared.multi_index.layout.Span.{Span}
use Rattle.gix_pack_read.specs.declared.multi_index.layout.Spans.{Spans}
use Rattle.gix_pack_read.proofs.ChunkLemmas.{front_room}
use Rattle.gix_pack_read.proofs.PackRowLemmas.{length_span}

-- ---- lengths

pub wides_found : (bytes : List ℕ) (wides : Option Span) → IsInIfThere bytes wides → option_map (λ (place : Span). place.len / 8) wides ≡ wides_in (option_map (span_of bytes) wides)
wides_found bytes None within = refl
wides_found bytes (Some place) within = ap (λ (len : ℕ). Some (len / 8)) (sym (length_span bytes place within))

wides_bytes : (bytes : List ℕ) (wides : Option Span) → IsInIfThere bytes wides → length (unwrap_or (option_map (span_of bytes) wides) []) ≡ len_of wides
wides_bytes bytes None within = refl
wides_bytes bytes (Some place) within = length_span bytes place within

-- the test of four lengths
lengths_are : ℕ → ℕ → ℕ → ℕ → Kind → ℕ → Bool
lengths_are counts ids offsets wides kind n = counts == 1024 && ids == n * len_in_bytes_of kind && offsets == n * 8 && wides % 8 == 0

regroup : (a b c d : Bool) → (a && b && c && d) ≡ (a && (b && c && d))
regroup true b c d = refl
regroup false b c d = refl

pub lengths_found : (kind : Kind) (bytes : List ℕ) (spans : Spans) → AreIn bytes spans
    → have_lengths kind (parts_at bytes spans)
    ≡ (spans.counts.len == 1024 && (spans.ids.len == objects_in (parts_at bytes spans) * len_in_bytes_of kind && spans.offsets.len == objects_in
    (parts_at bytes spans) * 8 && len_of spans.wides % 8 == 0))
unfolding lengths_are
lengths_found kind bytes spans within =
    let n : ℕ = objects_in (parts_at bytes spans) in
    let parts : Parts = parts_at bytes spans in
    ap (λ (len : ℕ). lengths_are len (length parts.ids) (length parts.offsets) (length (unwrap_or parts.wides [])) kind n) (length_span bytes spans.counts within.counts)
    ∙ ap (λ (len : ℕ). lengths_are spans.counts.len len (length parts.offsets) (length (unwrap_or parts.wides [])) kind n) (length_span bytes spans.ids within.ids)
    ∙ ap (λ (len : ℕ). lengths_are spans.counts.len spans.ids.len len (length (unwrap_or parts.wides [])) kind n) (length_span bytes spans.offsets within.offsets)
    ∙ ap (λ (len : ℕ). lengths_are spans.counts.len spans.ids.len spans.offsets.len len kind n) (wides_bytes bytes spans.wides within.wides)
    ∙ regroup (spans.counts.len == 1024) (spans.ids.len == n * len_in_bytes_of kind) (spans.offsets.len == n * 8) (len_of spans.wides % 8 == 0)

is_same : (a b : ℕ) → (a == b) ≡ true → a ≡ b
is_same a b h = grind (arith, nat_tests)

module _ (kind : Kind) (parts : Parts) (fits : have_lengths kind parts ≡ true) where
  three : (length parts.counts == 1024 && length parts.ids == objects_in parts * len_in_bytes_of kind && length parts.offsets == objects_in parts * 8) ≡ true
  three = (and_parts (length parts.counts == 1024 && length parts.ids == objects_in parts * len_in_bytes_of kind && length parts.offsets == objects_in parts * 8)
      (length (unwrap_or parts.wides []) % 8 == 0) fits).0

  two : (length parts.counts == 1024 && length parts.ids == objects_in parts * len_in_bytes_of kind) ≡ true
  two = (and_parts (length parts.counts == 1024 && length parts.ids == objects_in parts * len_in_bytes_of kind) (length parts.offsets == objects_in parts * 8) three).0

  pub counts_len : length parts.counts ≡ 1024
  counts_len = is_same (length parts.counts) 1024 (and_parts (length parts.counts == 1024) (length parts.ids == objects_in parts * len_in_bytes_of kind) two).0

  pub ids_len : length parts.ids ≡ objects_in parts * len_in_bytes_of kind
  ids_len = is_same (length parts.ids) (objects_in parts * len_in_bytes_of kind) (and_parts (length parts.counts == 1024) (length parts.ids == objects_in parts * len_in_bytes_of kind) two).1

  pub offsets_len : length parts.offsets ≡ objects_in parts * 8
  offsets_len =
      is_same (length parts.offsets) (objects_in parts * 8)
      (and_parts (length parts.counts == 1024 && length parts.ids == objects_in parts * len_in_bytes_of kind) (length parts.offsets == objects_in parts * 8) three).1

-- and so have the places where they are
pub counts_span : (kind : Kind) (bytes : List ℕ) (spans : Spans) → AreIn bytes spans → have_lengths kind (parts_at bytes spans) ≡ true → spans.counts.len ≡ 1024
counts_span kind bytes spans within lengths = sym (length_span bytes spans.counts within.counts) ∙ counts_len kind (parts_at bytes spans) lengths

pub offsets_span : (kind : Kind) (bytes : List ℕ) (spans : Spans) → AreIn bytes spans → have_lengths kind (parts_at bytes spans) ≡ true → spans.offsets.len ≡ objects_in (parts_at bytes spans) * 8
offsets_span kind bytes spans within lengths = sym (length_span bytes spans.offsets within.offsets) ∙ offsets_len kind (parts_at bytes spans) lengths

pub ids_sound : (kind : Kind) (parts : Parts) (n : ℕ) (counts ids : List ℕ) (result : Bool) → n ≡ objects_in parts → ids ≡ parts.ids → counts ≡ parts.counts → is_rising (ids_of kind n ids) ≡ true
    → result ≡ same (numbers 256 counts) (counts_of (ids_of kind n ids)) → result ≡ ids_agree kind parts
ids_sound kind parts n counts ids result n_is ids_are counts_are rising own =
    let its : ids_of kind n ids ≡ part_ids kind parts = ap (λ (m : ℕ). ids_of kind m ids) n_is ∙ ap (λ (bytes : List ℕ). ids_of kind (objects_in parts) bytes) ids_are in
    own ∙ ap (λ (bytes : List ℕ). same (numbers 256 bytes) (counts_of (ids_of kind n ids))) counts_are
    ∙ ap (λ (list : List ObjectId). same (numbers 256 parts.counts) (counts_of list)) its
    ∙ sym (ap (λ (b : Bool). b && same (numbers 256 parts.counts) (counts_of (part_ids kind parts))) (ap is_rising (sym its) ∙ rising))

-- ---- the whole

pub counts_there : (kind : Kind) (packs : ℕ) (bytes : List ℕ) (spans : Spans) → AreIn bytes spans → tables_agree kind packs (parts_at bytes spans) ≡ true → spans.counts.len ≡ 1024
unfolding tables_agree
counts_there kind packs bytes spans within agree =
    counts_span kind bytes spans within (and_parts (have_lengths kind (parts_at bytes spans)) (rows_agree kind packs (parts_at bytes spans)) agree).0

same_rows : (wides : Option (List ℕ)) (packs : ℕ) (rows : List (List ℕ)) → list_all (λ row. nat_lt (number_at 0 row) packs && has_offset wides (number_at 4 row)) rows ≡ list_all
    (is_row packs (wides_in wides)) rows
same_rows None packs rows = refl
same_rows (Some chunk) packs rows = refl

and_false : (b : Bool) → (b && false) ≡ false
and_false true = refl
and_false false = refl

and_true : (b : Bool) → (b && true) ≡ b
and_true true = refl
and_true false = refl

last_first : (lengths names rising counts rows : Bool) → (lengths && names && rising && counts && rows) ≡ (lengths && (rising && counts && rows) && names)
last_first false names rising counts rows = refl
last_first true false rising counts rows = sym (and_false (rising && counts && rows))
last_first true true rising counts rows = sym (and_true (rising && counts && rows))

pub tables_and_names : (kind : Kind) (packs : ℕ) (parts : Parts) → are_parts kind packs parts ≡ (tables_agree kind packs parts && holds_names packs parts.names)
unfolding are_parts tables_agree rows_agree
tables_and_names kind packs parts =
    ap (λ (rows : Bool). have_lengths kind parts && holds_names packs parts.names && is_rising (part_ids kind parts) && same (numbers 256 parts.counts)
    (counts_of (part_ids kind parts)) && rows) (same_rows parts.wides packs (offset_rows parts))
    ∙ last_first (have_lengths kind parts) (holds_names packs parts.names) (is_rising (part_ids kind parts)) (same (numbers 256 parts.counts) (counts_of (part_ids kind parts)))
    (list_all (is_row packs (wides_in parts.wides)) (offset_rows parts))

abbrev front_of : List ℕ → Bool
front_of bytes = has_header bytes && has_room bytes && ends_at (trailer_place bytes) (chunk_rows bytes)

pub no_front : (bytes : List ℕ) → (has_header bytes && has_room bytes && ends_at (trailer_place bytes) (chunk_rows bytes)) ≡ false → multi_index_of bytes ≡ None
unfolding multi_index_of
no_front bytes no_such = ap (λ (front : Bool). cond front (option_and_then (λ (parts : Parts). multi_index_from (kind_in bytes) (packs_in bytes) parts) (parts_of bytes)) None) no_such

with_front : (bytes : List ℕ) → front_of bytes ≡ true → multi_index_of bytes ≡ option_and_then (multi_index_from (kind_in bytes) (packs_in bytes)) (parts_of bytes)
unfolding multi_index_of
with_front bytes front = ap (λ (b : Bool). cond b (option_and_then (λ (parts : Parts). multi_index_from (kind_in bytes) (packs_in bytes) parts) (parts_of bytes)) None) front

pub no_parts : (bytes : List ℕ) → front_of bytes ≡ true → parts_of bytes ≡ None → multi_index_of bytes ≡ None
no_parts bytes front none = with_front bytes front ∙ ap (option_and_then (multi_index_from (kind_in bytes) (packs_in bytes))) none

not_from : (kind : Kind) (packs : ℕ) (parts : Parts) → are_parts kind packs parts ≡ false → multi_index_from kind packs parts ≡ None
unfolding multi_index_from
not_from kind packs parts other = rw other refl

told_from : (kind : Kind) (packs : ℕ) (bytes : List ℕ) (spans : Spans) → are_parts kind packs (parts_at bytes spans) ≡ true
    → multi_index_from kind packs (parts_at bytes spans) ≡ Some (record { kind = kind; names = take packs (name_parts (span_of bytes spans.names)); rows = rows_at kind (layout_in bytes spans) bytes })
unfolding multi_index_from rows_at
told_from kind packs bytes spans own = rw own refl

pub no_tables : (bytes : List ℕ) (spans : Spans) → front_of bytes ≡ true → parts_of bytes ≡ Some (parts_at bytes spans)
    → tables_agree (kind_in bytes) (packs_in bytes) (parts_at bytes spans) ≡ false → multi_index_of bytes ≡ None
no_tables bytes spans front parts other =
    with_front bytes front ∙ ap (option_and_then (multi_index_from (kind_in bytes) (packs_in bytes))) parts
    ∙ not_from (kind_in bytes) (packs_in bytes) (parts_at bytes spans)
    (tables_and_names (kind_in bytes) (packs_in bytes) (parts_at bytes spans) ∙ ap (λ (b : Bool). b && holds_names (packs_in bytes) (span_of bytes spans.names)) other)

name_offsets : (wides : Option (List ℕ)) (packs : ℕ) (rows : List (List ℕ)) → list_all (is_row packs (wides_in wides)) rows ≡ true → list_all (λ row. has_offset wides (number_at 4 row)) rows ≡ true
name_offsets wides packs [] all = refl
name_offsets None packs (row ∷ rows) all = name_offsets None packs rows (and_parts (is_row packs None row) (list_all (is_row packs None) rows) all).1
name_offsets (Some chunk) packs (row ∷ rows) all =
    let apart = and_parts (is_row packs (wides_in (Some chunk)) row) (list_all (is_row packs (wides_in (Some chunk))) rows) all in
    let own : has_offset (Some chunk) (number_at 4 row) ≡ true = (and_parts (nat_lt (number_at 0 row) packs) (is_offset (wides_in (Some chunk)) (number_at 4 row)) apart.0).1 in
    ap (λ (b : Bool). b && list_all (λ row. has_offset (Some chunk) (number_at 4 row)) rows) own ∙ name_offsets (Some chunk) packs rows apart.1

-- if all is sound except perhaps the names
module _ (spans : Spans) (rows : Layout) (bytes : List ℕ) (tables : AreTables spans rows bytes) where
  pub tables_front : header_len ≤ length bytes
  tables_front = front_room bytes (and_parts (has_header bytes) (has_room bytes) (and_parts (has_header bytes && has_room bytes) (ends_at (trailer_place bytes) (chunk_rows bytes)) tables.front).0).1

  by_names : are_parts (kind_in bytes) (packs_in bytes) (parts_at bytes spans) ≡ holds_names (packs_in bytes) (span_of bytes spans.names)
  by_names = tables_and_names (kind_in bytes) (packs_in bytes) (parts_at bytes spans) ∙ ap (λ (b : Bool). b && holds_names (packs_in bytes) (span_of bytes spans.names)) tables.agree

  from_parts : multi_index_of bytes ≡ multi_index_from (kind_in bytes) (packs_in bytes) (parts_at bytes spans)
  from_parts = with_front bytes tables.front ∙ ap (option_and_then (multi_index_from (kind_in bytes) (packs_in bytes))) tables.parts

  pub no_names : holds_names (packs_in bytes) (span_of bytes spans.names) ≡ false → multi_index_of bytes ≡ None
  no_names other = from_parts ∙ not_from (kind_in bytes) (packs_in bytes) (parts_at bytes spans) (by_names ∙ other)

  lengths : have_lengths (kind_in bytes) (parts_at bytes spans) ≡ true
  unfolding tables_agree
  lengths = (and_parts (have_lengths (kind_in bytes) (parts_at bytes spans)) (rows_agree (kind_in bytes) (packs_in bytes) (parts_at bytes spans)) tables.agree).0

  agreeing : rows_agree (kind_in bytes) (packs_in bytes) (parts_at bytes spans) ≡ true
  unfolding tables_agree
  agreeing = (and_parts (have_lengths (kind_in bytes) (parts_at bytes spans)) (rows_agree (kind_in bytes) (packs_in bytes) (parts_at bytes spans)) tables.agree).1

  rising : is_rising (part_ids (kind_in bytes) (parts_at bytes spans)) ≡ true
  unfolding rows_agree
  rising = (and_parts (is_rising (part_ids (kind_in bytes) (parts_at bytes spans)))
      (same (numbers 256 (span_of bytes spans.counts)) (counts_of (part_ids (kind_in bytes) (parts_at bytes spans)))) (and_parts _ _ agreeing).0).0

  counted : counts_fit (span_of bytes spans.counts) (part_ids (kind_in bytes) (parts_at bytes spans)) ≡ true
  unfolding counts_fit rows_agree
  counted = (and_parts (is_rising (part_ids (kind_in bytes) (parts_at bytes spans)))
      (same (numbers 256 (span_of bytes spans.counts)) (counts_of (part_ids (kind_in bytes) (parts_at bytes spans)))) (and_parts _ _ agreeing).0).1

  all_rows : list_all (is_row (packs_in bytes) (wides_in (option_map (span_of bytes) spans.wides))) (offset_rows (parts_at bytes spans)) ≡ true
  unfolding rows_agree
  all_rows = (and_parts (is_rising (part_ids (kind_in bytes) (parts_at bytes spans)) && same (numbers 256 (span_of bytes spans.counts))
      (counts_of (part_ids (kind_in bytes) (parts_at bytes spans))))
      (list_all (is_row (packs_in bytes) (wides_in (option_map (span_of bytes) spans.wides))) (offset_rows (parts_at bytes spans))) agreeing).1

  laid_out : IsLaidOut (kind_in bytes) (layout_in bytes spans) bytes
  laid_out = record {
    counts_in = tables.within.counts;
    ids_in = tables.within.ids;
    offsets_in = tables.within.offsets;
    wides_in = tables.within.wides;
    counts_len = counts_span (kind_in bytes) bytes spans tables.within lengths;
    ids_len = sym (length_span bytes spans.ids tables.within.ids) ∙ ids_len (kind_in bytes) (parts_at bytes spans) lengths;
    offsets_len = sym (length_span bytes spans.offsets tables.within.offsets) ∙ offsets_len (kind_in bytes) (parts_at bytes spans) lengths;
    rising = rising;
    counted = counted;
    named = name_offsets (option_map (span_of bytes) spans.wides) (packs_in bytes) (offset_rows (parts_at bytes spans)) all_rows;
  }

  read_here : (names : List (List ℕ)) → names ≡ take (packs_in bytes) (name_parts (span_of bytes spans.names)) → length names < 2 ^ 32 → holds_names (packs_in bytes) (span_of bytes spans.names) ≡ true
      → IsRead (kind_in bytes) names (layout_in bytes spans) bytes
  read_here names names_are few named = record {
    told = from_parts ∙ told_from (kind_in bytes) (packs_in bytes) bytes spans (by_names ∙ named)
        ∙ ap (λ (own : List (List ℕ)). Some (record { kind = kind_in bytes; names = own; rows = rows_at (kind_in bytes) (layout_in bytes spans) bytes })) (sym names_are);
    few = few;
    laid_out = laid_out;
  }

  -- names that are read complete the multi-index
  pub is_read : (kind : Kind) (packs : ℕ) (chunk : List ℕ) (names : List (List ℕ)) → kind ≡ kind_in bytes → packs ≡ packs_in bytes → packs < 2 ^ 32 → chunk ≡ span_of bytes spans.names
      → names ≡ take packs (name_parts chunk) → length names ≤ packs → holds_names packs chunk ≡ true → IsRead kind names rows bytes
  is_read kind packs chunk names kind_is packs_are few chunk_is names_are long named =
      subst (λ (own : Kind). IsRead own names rows bytes) (sym kind_is)
      (subst (λ (own : Layout). IsRead (kind_in bytes) names own bytes) (sym tables.rows_are)
      (read_here names
      (names_are ∙ ap (λ (n : ℕ). take n (name_parts chunk)) packs_are ∙ ap (λ (its : List ℕ). take (packs_in bytes) (name_parts its)) chunk_is)
      (omega arith)
      (ap (λ (its : List ℕ). holds_names (packs_in bytes) its) (sym chunk_is) ∙ ap (λ (n : ℕ). holds_names n chunk) (sym packs_are) ∙ named)))

  pub is_not_read : (packs : ℕ) (chunk : List ℕ) → packs ≡ packs_in bytes → chunk ≡ span_of bytes spans.names → holds_names packs chunk ≡ false → multi_index_of bytes ≡ None
  is_not_read packs chunk packs_are chunk_is other =
      no_names (ap (λ (its : List ℕ). holds_names (packs_in bytes) its) (sym chunk_is) ∙ ap (λ (n : ℕ). holds_names n chunk) (sym packs_are) ∙ other)

-- what is missing, or that nothing is
pub ruleset each_part = (no_front, no_parts, no_tables, counts_there)
