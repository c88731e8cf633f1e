-- Laws of the rows of multi-pack indices: the pack of each has a name.
use Rattle.std.proofs.Common.{◌≡◌, inl, inr, ℕ, ◌<◌, ◌&&◌, true, List, [], ◌∷◌, length, take, map, get_or, slice_get, nat_lt, unwrap_or, Contains, Option, Some, None}
use Rattle.std.proofs.Common.{refl, sym, ap, ◌∙◌, subst, arith}
use Rattle.std.specs.Prelude.{option_and_then}
use Rattle.std.specs.List.{list_all, zip}
use Rattle.std.proofs.lemmas.Bool.{and_parts, ltb-true}
use Rattle.std.proofs.lemmas.List.{length-take-le}
use Rattle.std.proofs.lemmas.Option.{slice_get-get_or}
use Rattle.odb_base.specs.Path.{Name}
use Rattle.gix_hash.specs.declared.kind.Kind.{Kind}
use Rattle.gix_hash.specs.declared.kind.Kind.TheVariants.{Sha1}
use Rattle.gix_hash.specs.declared.object_id.ObjectId.{ObjectId}
use Rattle.gix_pack_read.specs.Bytes.{is_within}
use Rattle.gix_pack_read.specs.MultiIndex.{MultiIndex, Parts, are_parts, multi_index_from, multi_index_of, narrow_in, offset_rows, pack_in, pack_row, part_ids, parts_of, rows_of, told}
use Rattle.gix_pack_read.specs.MultiIndex.Chunks.{kind_in, packs_in}
use Rattle.gix_pack_read.specs.MultiIndex.Held.{has_offset, holds_names, name_parts}
use Rattle.gix_pack_read.specs.Rows.{PackRow}
use Rattle.gix_odb_search.specs.MultiPack.{is_multi_index, is_of_hash, is_usable}
use Rattle.gix_odb_search.specs.declared.multi_pack.MultiUse.{MultiUse}
use Rattle.gix_odb_search.proofs.MultiSpotLemmas.{if_some, then_some}
use Rattle.gix_odb_search.proofs.ReachLemmas.{first_or_later, none_in}

-- ---- the index in bytes

told_is : (bytes : List ℕ) (index : MultiIndex) → multi_index_of bytes ≡ Some index → told bytes ≡ index
unfolding told
told_is bytes index is = ap (λ (found : Option MultiIndex). unwrap_or found (record { kind = Sha1; names = []; rows = [] })) is

if_of_hash : (hash : Kind) (bytes : List ℕ) (found : Option MultiIndex) → multi_index_of bytes ≡ found → is_of_hash hash found ≡ true
    → multi_index_of bytes ≡ Some (told bytes)
if_of_hash hash bytes None is of = absurd (cc of)
if_of_hash hash bytes (Some index) is of = is ∙ ap Some (sym (told_is bytes index is))

if_read : (multi : Option MultiUse) (bytes : List ℕ) → is_multi_index multi bytes ≡ true → multi_index_of bytes ≡ Some (told bytes)
if_read None bytes is = absurd (cc is)
if_read (Some multi) bytes is = if_of_hash multi.hash bytes (multi_index_of bytes) refl (and_parts (is_within multi.limit (length bytes)) _ is).1

-- bytes that a store can use are a multi-pack index
pub usable_is_one : (multi : Option MultiUse) (bytes : List ℕ) → is_usable multi bytes ≡ true → multi_index_of bytes ≡ Some (told bytes)
usable_is_one multi bytes usable = if_read multi bytes (and_parts (is_multi_index multi bytes) _ usable).0

-- ---- the parts of an index

-- the number of each row's pack is below that of the packs
below : (wides : Option (List ℕ)) (packs : ℕ) (ids : List ObjectId) (rows : List (List ℕ))
    → list_all (λ (row : List ℕ). nat_lt (pack_in row) packs && has_offset wides (narrow_in row)) rows ≡ true
    → (row : PackRow) → Contains (map (pack_row wides) (zip ids rows)) row → row.pack < packs
below wides packs [] rows all row among = absurd (none_in row among)
below wides packs (id ∷ ids) [] all row among = absurd (none_in row among)
below wides packs (id ∷ ids) (own ∷ rows) all row among =
    let parts = and_parts (nat_lt (pack_in own) packs && has_offset wides (narrow_in own)) _ all in
    elim (first_or_later (pack_row wides (id, own)) (map (pack_row wides) (zip ids rows)) row among) [
      | inl is ↦ subst (λ (r : PackRow). r.pack < packs) is (ltb-true (pack_in own) packs (and_parts (nat_lt (pack_in own) packs) _ parts.0).0)
      | inr later ↦ below wides packs ids rows parts.1 row later
    ]

-- as many names are kept as there are packs
names_kept : (packs : ℕ) (names : List ℕ) → holds_names packs names ≡ true → length (take packs (name_parts names)) ≡ packs
unfolding holds_names
names_kept packs names holds =
    let enough : packs < length (name_parts names) = ltb-true packs (length (name_parts names)) (and_parts _ _ (and_parts _ _ holds).0).0 in
    length-take-le packs (name_parts names) (omega arith)

rows_are_named : (kind : Kind) (packs : ℕ) (parts : Parts) → are_parts kind packs parts ≡ true → (row : PackRow) → Contains (rows_of kind parts) row
    → row.pack < length (take packs (name_parts parts.names))
unfolding are_parts
rows_are_named kind packs parts are row among =
    let holds = (and_parts _ _ (and_parts _ _ (and_parts _ _ (and_parts _ _ are).0).0).0).1 in
    subst (λ (n : ℕ). row.pack < n) (sym (names_kept packs parts.names holds))
    (below parts.wides packs (part_ids kind parts) (offset_rows parts) (and_parts _ _ are).1 row among)

abbrev AreNamed : MultiIndex → Type 0
AreNamed index = (row : PackRow) → Contains index.rows row → row.pack < length index.names

made_named : (kind : Kind) (packs : ℕ) (parts : Parts) (index : MultiIndex) → multi_index_from kind packs parts ≡ Some index → AreNamed index
unfolding multi_index_from
made_named kind packs parts index is =
    let made = then_some (are_parts kind packs parts) _ index is in
    subst AreNamed made.1 (rows_are_named kind packs parts made.0)

with_parts : (kind : Kind) (packs : ℕ) (parts : Option Parts) (index : MultiIndex) → option_and_then (λ (p : Parts). multi_index_from kind packs p) parts ≡ Some index
    → AreNamed index
with_parts kind packs None index is = absurd (cc is)
with_parts kind packs (Some parts) index is = made_named kind packs parts index is

are_named : (bytes : List ℕ) (index : MultiIndex) → multi_index_of bytes ≡ Some index → AreNamed index
unfolding multi_index_of
are_named bytes index is = with_parts (kind_in bytes) (packs_in bytes) (parts_of bytes) index (if_some _ _ index is)

-- the pack of a row has a name
pub pack_is_named : (bytes : List ℕ) → multi_index_of bytes ≡ Some (told bytes) → (row : PackRow) → Contains (told bytes).rows row
    → (name : Name) × (slice_get (told bytes).names row.pack ≡ Some name)
pack_is_named bytes whole row among =
    let names = (told bytes).names in
    (get_or names row.pack [], slice_get-get_or names row.pack [] (are_named bytes (told bytes) whole row among))
