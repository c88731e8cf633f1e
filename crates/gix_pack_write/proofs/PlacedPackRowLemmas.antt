-- The rows of several packs as the encoder of multi-pack indices keeps them.
use Rattle.std.proofs.Common.{◌≡◌, ℕ, ◌+◌, List, [], ◌∷◌, ◌++◌, length, map, length-append, refl, ap, ◌∙◌, arith}
use Rattle.std.proofs.lemmas.List.{map-append}
use Rattle.std.specs.List.{enumerate_from, flat_map, sum_by}
use Rattle.std.proofs.lemmas.List.Sums.{sum_by-cons}
use Rattle.gix_hash.specs.declared.kind.Kind.{Kind}
use Rattle.gix_object.specs.Data.{Object}
use Rattle.gix_pack_write.specs.PlacedRow.{placed_from, row_of}
use Rattle.gix_pack_read.specs.Rows.{PackRow}
use Rattle.gix_pack_read.specs.Pack.{entries_place}
use Rattle.gix_pack_write.specs.WrittenPack.{entry_of, id_of_object, rows_in_order}
use Rattle.gix_pack_write.proofs.PlacedLemmas.{length-placed_from, rows_placed}
use Rattle.gix_pack_write.specs.PlacedPackRow.{pack_row_of, placed_in}
use Rattle.gix_pack_write.specs.WrittenMultiIndex.{Named, in_pack, rows_in_pack, rows_in_packs}

pack_rows_from : (hash : Kind) (pack place : ℕ) (objects : List Object) → map pack_row_of (placed_from hash pack place objects) ≡ map (in_pack pack) (map row_of (placed_from hash pack place objects))
pack_rows_from hash pack place [] = refl
pack_rows_from hash pack place (object ∷ objects) =
    ap (λ (rows : List PackRow). record { id = id_of_object hash object; pack = pack; offset = place } ∷ rows) (pack_rows_from hash pack (place + length (entry_of object)) objects)

pack_rows : (hash : Kind) (number : ℕ) (packs : List Named) → map pack_row_of (placed_in hash number packs) ≡ flat_map (rows_in_pack hash) (enumerate_from number packs)
pack_rows hash number [] = refl
pack_rows hash number (pack ∷ packs) =
    map-append pack_row_of (placed_from hash number entries_place pack.objects) (placed_in hash (number + 1) packs)
    ∙ ap (λ (rows : List PackRow). rows ++ map pack_row_of (placed_in hash (number + 1) packs))
    (pack_rows_from hash number entries_place pack.objects ∙ ap (map (in_pack number)) (rows_placed hash number pack.objects))
    ∙ ap (λ (rows : List PackRow). map (in_pack number) (rows_in_order hash pack.objects) ++ rows) (pack_rows hash (number + 1) packs)

pub pack_rows_placed : (hash : Kind) (packs : List Named) → map pack_row_of (placed_in hash 0 packs) ≡ rows_in_packs hash packs
unfolding rows_in_packs
pack_rows_placed hash packs = pack_rows hash 0 packs

pub length-placed_in : (hash : Kind) (number : ℕ) (packs : List Named) → length (placed_in hash number packs) ≡ sum_by (λ (pack : Named). length pack.objects) packs
length-placed_in hash number [] = refl
length-placed_in hash number (pack ∷ packs) =
    let here = length-placed_from hash number entries_place pack.objects in
    let both = length-append (placed_from hash number entries_place pack.objects) (placed_in hash (number + 1) packs) in
    let rest = length-placed_in hash (number + 1) packs in
    let all = sum_by-cons (λ (p : Named). length p.objects) pack packs in
    omega arith
