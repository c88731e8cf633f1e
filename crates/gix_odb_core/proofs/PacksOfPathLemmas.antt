-- A pack that was read, or passed over, among packs whose paths rise: only the one pack of this path changes.
use Rattle.std.proofs.Common.{◌≡◌, ℕ, Bool, true, false, cond, ◌&&◌, not, List, map, set, Option, Some, None, refl, sym, ap, ◌∙◌}
use Rattle.std.specs.List.{list_any, slice_get}
use Rattle.std.specs.Option.{option_map_or}
use Rattle.odb_base.specs.Path.{Path}
use Rattle.gix_pack_read.specs.FileBytes.{FileBytes}
use Rattle.gix_odb_events.specs.OnDiskFile.{is_loaded, is_unloaded, passed, stored, with_state}
use Rattle.gix_odb_events.specs.PackFiles.{PackFile, same_path}
use Rattle.gix_odb_events.specs.PackList.{HasFirst, IsRising, has_path, has_path_at}
use Rattle.gix_odb_events.proofs.PackListLaws.{list_any-rising, list_any-without, map-rising, map-without}
use Rattle.gix_odb_core.specs.Files.{passed_at, stored_at, takes, turns_missing}
use Rattle.gix_odb_core.specs.PacksWith.{packs_with, place_with}

module _ (path : Path) where
  fails_and : (test : Bool) (pack : PackFile) → has_path path pack ≡ false → (same_path pack.path path && test) ≡ false
  fails_and test pack other = ap (λ (b : Bool). b && test) other

  takes-other : (pack : PackFile) → has_path path pack ≡ false → takes path pack ≡ false
  takes-other pack = fails_and (not (is_loaded pack.state)) pack

  missing-other : (pack : PackFile) → has_path path pack ≡ false → turns_missing path pack ≡ false
  missing-other pack = fails_and (is_unloaded pack.state) pack

  stored-other : (bytes : FileBytes) (pack : PackFile) → has_path path pack ≡ false → stored_at path bytes pack ≡ pack
  stored-other bytes pack other = ap (λ (b : Bool). cond b (with_state (stored bytes) pack) pack) other

  passed-other : (pack : PackFile) → has_path path pack ≡ false → passed_at path pack ≡ pack
  passed-other pack other = ap (λ (b : Bool). cond b (with_state passed pack) pack) other

  -- ---- no pack has the path

  module _ (packs : List PackFile) (none : list_any (has_path path) packs ≡ false) where
    pub packs_with-none : (bytes : FileBytes) → packs_with path bytes packs ≡ None
    packs_with-none bytes = ap (λ (b : Bool). cond b (Some (map (stored_at path bytes) packs)) None) (list_any-without path (takes path) takes-other packs none)

    pub missing-none : list_any (turns_missing path) packs ≡ false
    missing-none = list_any-without path (turns_missing path) missing-other packs none

    pub passed-none : map (passed_at path) packs ≡ packs
    passed-none = map-without path (passed_at path) passed-other packs none

  -- ---- one pack has it

  module _ (packs : List PackFile) (place : ℕ) (rising : IsRising packs) (first : HasFirst path packs place) where
    has : (pack : PackFile) → slice_get packs place ≡ Some pack → has_path path pack ≡ true
    has pack at = ap (has_path_at path) (sym at) ∙ first.here

    pub is-there : slice_get packs place ≡ None → ⊥
    is-there none = let no : false ≡ true = ap (has_path_at path) (sym none) ∙ first.here in cc

    module _ (pack : PackFile) (at : slice_get packs place ≡ Some pack) where
      pub packs_with-one : (bytes : FileBytes) → packs_with path bytes packs ≡ place_with path bytes packs place pack
      packs_with-one bytes =
          ap (λ (b : Bool). cond b (Some (map (stored_at path bytes) packs)) None) (list_any-rising path (takes path) takes-other packs place pack rising at (has pack at))
          ∙ ap (λ (changed : List PackFile). cond (takes path pack) (Some changed) None) (map-rising path (stored_at path bytes) (stored-other bytes) packs place pack rising at (has pack at))

      pub passed-one : map (passed_at path) packs ≡ set packs place (passed_at path pack)
      passed-one = map-rising path (passed_at path) passed-other packs place pack rising at (has pack at)

      missing-one : list_any (turns_missing path) packs ≡ turns_missing path pack
      missing-one = list_any-rising path (turns_missing path) missing-other packs place pack rising at (has pack at)

    pub missing-at : list_any (turns_missing path) packs ≡ option_map_or (turns_missing path) (slice_get packs place) false
    missing-at = by (slice_get packs place) refl
      where
        by : (o : Option PackFile) → slice_get packs place ≡ o → list_any (turns_missing path) packs ≡ option_map_or (turns_missing path) o false
        by None none = absurd (is-there none)
        by (Some pack) at = missing-one pack at
