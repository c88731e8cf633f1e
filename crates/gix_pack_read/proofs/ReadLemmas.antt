-- The contents of a multi-pack index that was read.
use Rattle.std.proofs.Common.{◌≡◌, ℕ, ◌+◌, ◌≤◌, Bool, true, false, List, [], ◌∷◌, length, drop, slice_get, Option, Some, None, Ok, Err, option_map, ok_or, unwrap_or, cond, sym, ap, ◌∙◌}
use Rattle.std.proofs.lemmas.List.{drop_all}
use Rattle.std.proofs.lemmas.Option.{same_Some}
use Rattle.gix_hash.specs.declared.kind.Kind.{Kind}
use Rattle.gix_hash.specs.declared.kind.Kind.TheVariants.{Sha1}
use Rattle.gix_hash.specs.declared.object_id.ObjectId.{ObjectId}
use Rattle.gix_pack_read.specs.Bytes.{is_within}
use Rattle.gix_pack_read.specs.Rows.{PackRow}
use Rattle.gix_pack_read.proofs.ListLemmas.{drop_at}
use Rattle.gix_pack_read.specs.MultiIndex.{MultiIndex, multi_index_of, read_of, told}
use Rattle.gix_pack_read.specs.MultiIndexLayout.{rows_at, IsRead}
use Rattle.gix_pack_read.specs.declared.multi_index.file.Error.TheVariants.{AboveLimit, BadMultiIndex}
use Rattle.gix_pack_read.specs.declared.multi_index.layout.Layout.{Layout}
use Rattle.gix_pack_read.proofs.PackRowLemmas.{length-rows}

-- ---- the contents

told_is : (bytes : List ℕ) (index : MultiIndex) → multi_index_of bytes ≡ Some index → told bytes ≡ index
unfolding told
told_is bytes index is = ap (λ (found : Option MultiIndex). unwrap_or found (record { kind = Sha1; names = []; rows = [] })) is

module _ (kind : Kind) (names : List (List ℕ)) (places : Layout) (bytes : List ℕ) (read : IsRead kind names places bytes) where
  whole : told bytes ≡ record { kind = kind; names = names; rows = rows_at kind places bytes }
  whole = told_is bytes (record { kind = kind; names = names; rows = rows_at kind places bytes }) read.told

  pub is_told : multi_index_of bytes ≡ Some (told bytes)
  is_told = read.told ∙ ap (λ (index : MultiIndex). Some index) (sym whole)

  pub told_kind : (told bytes).kind ≡ kind
  told_kind = ap (λ (index : MultiIndex). index.kind) whole

  pub told_names : (told bytes).names ≡ names
  told_names = ap (λ (index : MultiIndex). index.names) whole

  pub told_rows : (told bytes).rows ≡ rows_at kind places bytes
  told_rows = ap (λ (index : MultiIndex). index.rows) whole

  pub told_count : length (told bytes).rows ≡ places.count
  told_count = ap (λ (rows : List PackRow). length rows) told_rows ∙ length-rows kind places bytes

-- ---- the result of reading

pub above : (limit : Option ℕ) (bytes : List ℕ) → is_within limit (length bytes) ≡ false → read_of limit bytes ≡ Err AboveLimit
above limit bytes long = ap (λ (within : Bool). cond within (ok_or (multi_index_of bytes) BadMultiIndex) (Err AboveLimit)) long

within_limit : (limit : Option ℕ) (bytes : List ℕ) → is_within limit (length bytes) ≡ true → read_of limit bytes ≡ ok_or (multi_index_of bytes) BadMultiIndex
within_limit limit bytes short = ap (λ (within : Bool). cond within (ok_or (multi_index_of bytes) BadMultiIndex) (Err AboveLimit)) short

pub outside : (limit : Option ℕ) (bytes : List ℕ) → is_within limit (length bytes) ≡ true → multi_index_of bytes ≡ None → read_of limit bytes ≡ Err BadMultiIndex
outside limit bytes short none = within_limit limit bytes short ∙ ap (λ (found : Option MultiIndex). ok_or found BadMultiIndex) none

pub inside : (kind : Kind) (names : List (List ℕ)) (places : Layout) (limit : Option ℕ) (bytes : List ℕ) → is_within limit (length bytes) ≡ true → IsRead kind names places bytes
    → read_of limit bytes ≡ Ok (told bytes)
inside kind names places limit bytes short read =
    within_limit limit bytes short ∙ ap (λ (found : Option MultiIndex). ok_or found BadMultiIndex) read.told
    ∙ ap (λ (index : MultiIndex). Ok index) (sym (whole kind names places bytes read))

-- ---- row by row

-- a row, and those after it
pub rows_more : (rows : List PackRow) (n : ℕ) (row : PackRow) → slice_get rows n ≡ Some row → drop n rows ≡ row ∷ drop (n + 1) rows
rows_more rows n row own = drop_at rows n row own

-- after the last row there is none
pub rows_end : (rows : List PackRow) (n : ℕ) → length rows ≤ n → drop n rows ≡ []
rows_end rows n past = drop_all n rows past

by_parts : (found : Option PackRow) (id : ObjectId) (pack offset : ℕ) → option_map (λ (row : PackRow). row.id) found ≡ Some id → option_map (λ (row : PackRow). row.pack) found ≡ Some pack
    → option_map (λ (row : PackRow). row.offset) found ≡ Some offset → found ≡ Some (record { id = id; pack = pack; offset = offset })
by_parts None id pack offset own its at = cc own
by_parts (Some row) id pack offset own its at =
    let same_id : row.id ≡ id = same_Some row.id id own in
    let same_pack : row.pack ≡ pack = same_Some row.pack pack its in
    let same_offset : row.offset ≡ offset = same_Some row.offset offset at in
    ap (λ (x : ObjectId). Some (record { id = x; pack = row.pack; offset = row.offset })) same_id
    ∙ ap (λ (x : ℕ). Some (record { id = id; pack = x; offset = row.offset })) same_pack
    ∙ ap (λ (x : ℕ). Some (record { id = id; pack = pack; offset = x })) same_offset

-- a row, by its three parts
pub row_of_parts : (rows : List PackRow) (n : ℕ) (id : ObjectId) (pack offset : ℕ) → option_map (λ (row : PackRow). row.id) (slice_get rows n) ≡ Some id
    → option_map (λ (row : PackRow). row.pack) (slice_get rows n) ≡ Some pack
    → option_map (λ (row : PackRow). row.offset) (slice_get rows n) ≡ Some offset → slice_get rows n ≡ Some (record { id = id; pack = pack; offset = offset })
row_of_parts rows n id pack offset own its at = by_parts (slice_get rows n) id pack offset own its at
