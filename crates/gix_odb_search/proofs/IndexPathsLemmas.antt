-- The paths of the indices among entries, one entry after another.
use Rattle.std.proofs.Common.{◌≡◌, Bool, true, false, cond, List, [], ◌∷◌, ◌++◌, map, refl, ap, ◌∙◌, sym}
use denote.Ref.{Bor}
use Rattle.std.specs.List.{filter}
use Rattle.std.proofs.lemmas.List.{map-append}
use Rattle.odb_base.specs.Path.{Path}
use Rattle.odb_disk.specs.declared.entry.Entry.{Entry}
use Rattle.gix_odb_search.specs.PackFolder.{index_path_in, is_index_entry}
use Rattle.gix_odb_search.specs.declared.folders.IndexPath.{IndexPath}

abbrev paths_of : Bool → Path → List Entry → List IndexPath
paths_of multi folder entries = map (index_path_in folder) (filter (is_index_entry multi) entries)

abbrev own_path : Bool → Path → Entry → List IndexPath
own_path is_index folder entry = cond is_index (index_path_in folder entry ∷ []) []

alone : (is_index : Bool) (folder : Path) (entry : Entry) → map (index_path_in folder) (cond is_index (entry ∷ []) []) ≡ own_path is_index folder entry
alone true folder entry = refl
alone false folder entry = refl

carried : (is_index : Bool) (folder : Path) (entry : Entry) (entries others : List Entry) (more : List IndexPath)
    → map (index_path_in folder) others ≡ map (index_path_in folder) entries ++ more
    → map (index_path_in folder) (cond is_index (entry ∷ others) others) ≡ map (index_path_in folder) (cond is_index (entry ∷ entries) entries) ++ more
carried true folder entry entries others more is = ap (λ (rest : List IndexPath). index_path_in folder entry ∷ rest) is
carried false folder entry entries others more is = is

module _ (multi : Bool) (folder : Path) where
  one_more : (entries : List Entry) (entry : Entry)
      → paths_of multi folder (entries ++ entry ∷ []) ≡ paths_of multi folder entries ++ own_path (is_index_entry multi entry) folder entry
  one_more [] entry = alone (is_index_entry multi entry) folder entry
  one_more (first ∷ entries) entry =
      carried (is_index_entry multi first) folder first (filter (is_index_entry multi) entries) (filter (is_index_entry multi) (entries ++ entry ∷ []))
      (own_path (is_index_entry multi entry) folder entry)
      (one_more entries entry)

  abbrev seen : List (Bor Entry) → List Entry
  seen entries = map (λ (entry : Bor Entry). entry.now) entries

  pub paths_more : (yielded : List (Bor Entry)) (entry : Bor Entry) (paths : List IndexPath) → paths ≡ paths_of multi folder (seen yielded)
      → paths ++ own_path (is_index_entry multi entry.now) folder entry.now ≡ paths_of multi folder (seen (yielded ++ entry ∷ []))
  paths_more yielded entry paths so_far =
      ap (λ (front : List IndexPath). front ++ own_path (is_index_entry multi entry.now) folder entry.now) so_far
      ∙ sym (ap (paths_of multi folder) (map-append (λ (e : Bor Entry). e.now) yielded (entry ∷ [])) ∙ one_more (seen yielded) entry.now)
