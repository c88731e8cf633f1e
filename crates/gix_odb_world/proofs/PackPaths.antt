-- Paths of packs, and of multi-pack indices.
use Rattle.std.proofs.Common.{◌≡◌, false, [], ◌∷◌, ◌++◌, unwrap_or, Option, Some, refl, ap, ◌∙◌}
use Rattle.odb_base.specs.Path.{Name, Path, is_name, last_name}
use Rattle.odb_base.specs.PathLaws.{parent_of-push}
use Rattle.gix_odb_events.specs.PackPath.{folder_of, name_of, pack_in, pack_path}
use Rattle.gix_odb_search.specs.PackFolder.{is_index_name, multi_index_name}

-- the multi-pack index has the name of no index
pub multi_is_no_index : is_index_name multi_index_name ≡ false
unfolding is_name
multi_is_no_index = refl

pub folder_of-push : (folder : Path) (name : Name) → folder_of (folder ++ name ∷ []) ≡ folder
folder_of-push folder name = ap (λ (p : Option Path). unwrap_or p []) (parent_of-push folder name)

last_name-push : (path : Path) (name : Name) → last_name (path ++ name ∷ []) ≡ Some name
unfolding last_name
last_name-push [] name = refl
last_name-push (first ∷ []) name = refl
last_name-push (first ∷ next ∷ path) name = last_name-push (next ∷ path) name

-- the pack of an index in a folder
pub pack_path-push : (folder : Path) (name : Name) → pack_path (folder ++ name ∷ []) ≡ pack_in folder name
pack_path-push folder name =
    ap (λ (f : Path). pack_in f (name_of (folder ++ name ∷ []))) (folder_of-push folder name)
    ∙ ap (λ (last : Option Name). pack_in folder (unwrap_or last [])) (last_name-push folder name)
