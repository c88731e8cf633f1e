-- The pack of a path among those of an index, by the place of the first pack that has this path.
use Rattle.std.proofs.Common.{◌≡◌, ℕ, zero, suc, Bool, true, false, cond, List, [], ◌∷◌, take, None, refl, ap, ◌∙◌}
use Rattle.std.specs.List.{list_any, slice_get}
use Rattle.std.specs.Option.{option_and_then}
use Rattle.std.proofs.lemmas.Bool.{or_parts}
use Rattle.gix_odb_events.specs.OnDiskFile.{loaded}
use Rattle.gix_odb_events.specs.PackFiles.{PackFile}
use Rattle.gix_odb_events.specs.PackList.{HasFirst, has_path, has_path_at}
use Rattle.gix_odb_search.specs.TryOrder.Pack.{pack_among}
use Rattle.gix_odb_search.specs.declared.search.WantedPack.{WantedPack}

-- no pack has the path
pub pack_among-none : (pack : WantedPack) (packs : List PackFile) → list_any (has_path pack.path) packs ≡ false → pack_among pack packs ≡ None
pack_among-none pack [] none = refl
pack_among-none pack (file ∷ files) none =
    ap (λ (b : Bool). cond b (loaded file.state) (pack_among pack files)) (or_parts _ _ none).0 ∙ pack_among-none pack files (or_parts _ _ none).1

-- the first pack that has it
pub pack_among-first : (pack : WantedPack) (packs : List PackFile) (place : ℕ) → HasFirst pack.path packs place → pack_among pack packs ≡ option_and_then (λ (file : PackFile). loaded file.state) (slice_get packs place)
pack_among-first pack packs place first = by packs place first.here first.before
  where
    by : (packs : List PackFile) (place : ℕ) → has_path_at pack.path (slice_get packs place) ≡ true → list_any (has_path pack.path) (take place packs) ≡ false
        → pack_among pack packs ≡ option_and_then (λ (file : PackFile). loaded file.state) (slice_get packs place)
    by [] place here before = absurd (let no : false ≡ true = here in cc)
    by (file ∷ files) zero here before = ap (λ (b : Bool). cond b (loaded file.state) (pack_among pack files)) here
    by (file ∷ files) (suc place) here before =
        ap (λ (b : Bool). cond b (loaded file.state) (pack_among pack files)) (or_parts _ _ before).0 ∙ by files place here (or_parts _ _ before).1
