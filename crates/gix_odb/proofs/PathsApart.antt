-- No index of a folder of packs has the path of a pack or of the multi-pack index, and no loose object has that of any of them.
use Rattle.std.proofs.Common.{◌≡◌, ℕ, ◌+◌, ◌-◌, Bool, true, false, cond, List, [], ◌∷◌, ◌++◌, length, take, drop, codes, unwrap_or, Option, Some}
use Rattle.std.proofs.Common.{refl, sym, ap, ◌∙◌, arith, append_assoc, length-append}
use lib.Pointwise.{pointwise}
use Rattle.std.specs.List.{ends_with}
use Rattle.std.specs.Prelude.{nat_eq}
use Rattle.std.proofs.Math.Seq.{drop-append-add}
use Rattle.std.proofs.lemmas.Bool.{and_parts}
use Rattle.odb_base.specs.Path.{Name, Path, is_name, last_name}
use Rattle.odb_base.specs.PathLaws.{parent_of-push}
use Rattle.gix_hash.specs.ObjectId.{hex_of}
use Rattle.gix_hash.specs.declared.object_id.ObjectId.{ObjectId}
use Rattle.gix_odb_loose.specs.LooseFile.{loose_path}
use Rattle.gix_odb_events.specs.PackPath.{folder_of, name_of, pack_in, pack_name, pack_path, stem_of}
use Rattle.gix_odb_search.specs.PackFolder.{is_index_name, multi_index_name, multi_index_path, pack_folder}
use Rattle.gix_odb.proofs.ListerLaws.Differ.{push_same}
use Rattle.gix_odb.specs.LookUpOrder.{Setting}
use Rattle.gix_odb.specs.Shown.{IsIndexPath, IsMultiPath}

-- ---- names

abbrev ends_as_index : Name → Bool
ends_as_index name = ends_with nat_eq name (codes ".idx")

index_ends : (name : Name) → is_index_name name ≡ true → ends_as_index name ≡ true
index_ends name is = (and_parts _ _ is).1

-- the last four letters of a name that ends in ".pack"
last_of_pack : (stem : Name) → drop (length (stem ++ codes ".pack") - 4) (stem ++ codes ".pack") ≡ codes "pack"
last_of_pack stem =
    let five : length (codes ".pack") ≡ 5 = refl in
    let at : length (stem ++ codes ".pack") - 4 ≡ length stem + 1 = omega (arith, length-append stem (codes ".pack"), five) in
    ap (λ n. drop n (stem ++ codes ".pack")) at ∙ drop-append-add stem (codes ".pack") 1

index_is_no_pack_name : (name stem : Name) → is_index_name name ≡ true → ¬ (name ≡ stem ++ codes ".pack")
index_is_no_pack_name name stem is same =
    let ends : ends_as_index (stem ++ codes ".pack") ≡ true = ap ends_as_index (sym same) ∙ index_ends name is in
    let not : ends_as_index (stem ++ codes ".pack") ≡ false = ap (λ (rest : Name). pointwise nat_eq (codes ".idx") rest) (last_of_pack stem) in
    let both : true ≡ false = sym ends ∙ not in
    cc both

pub index_is_not_pack : (name : Name) → is_index_name name ≡ true → ¬ (name ≡ codes "pack")
index_is_not_pack name is same =
    let ends : ends_as_index (codes "pack") ≡ true = ap ends_as_index (sym same) ∙ index_ends name is in
    let not : ends_as_index (codes "pack") ≡ false = refl in
    let both : true ≡ false = sym ends ∙ not in
    cc both

-- the name of the multi-pack index is that of no index and of no pack
pub no_index_name : is_index_name multi_index_name ≡ false
unfolding is_name
no_index_name = refl

multi_is_no_pack_name : (stem : Name) → ¬ (multi_index_name ≡ stem ++ codes ".pack")
multi_is_no_pack_name stem same =
    let last : drop (length multi_index_name - 4) multi_index_name ≡ codes "ndex" = refl in
    let letters : codes "ndex" ≡ codes "pack" = sym last ∙ ap (λ (name : Name). drop (length name - 4) name) same ∙ last_of_pack stem in
    let both : true ≡ false = ap (λ (rest : Name). pointwise nat_eq (codes "ndex") rest) letters in
    cc both

two_are_not_pack : (text : List ℕ) → ¬ (take 2 text ≡ codes "pack")
two_are_not_pack [] is = cc is
two_are_not_pack (a ∷ []) is = cc is
two_are_not_pack (a ∷ b ∷ rest) is = cc is

-- ---- paths

-- the folder and the name of a path with one more name
pub folder_of-push : (folder : Path) (name : Name) → folder_of (folder ++ name ∷ []) ≡ folder
folder_of-push folder name = ap (λ (p : Option Path). unwrap_or p []) (parent_of-push folder name)

last_name-push : (path : Path) (name : Name) → last_name (path ++ name ∷ []) ≡ Some name
unfolding last_name
last_name-push [] name = refl
last_name-push (first ∷ []) name = refl
last_name-push (first ∷ next ∷ path) name = last_name-push (next ∷ path) name

name_of-push : (folder : Path) (name : Name) → name_of (folder ++ name ∷ []) ≡ name
name_of-push folder name = ap (λ (n : Option Name). unwrap_or n []) (last_name-push folder name)

-- the pack of an index in a folder
pub pack_path-push : (folder : Path) (name : Name) → pack_path (folder ++ name ∷ []) ≡ pack_in folder name
pack_path-push folder name =
    ap (λ (f : Path). pack_in f (name_of (folder ++ name ∷ []))) (folder_of-push folder name) ∙ ap (pack_in folder) (name_of-push folder name)

pub multi_is_no_pack : (folder other : Path) (stem : Name) → ¬ (multi_index_path folder ≡ other ++ (stem ++ codes ".pack") ∷ [])
multi_is_no_pack folder other stem is = multi_is_no_pack_name stem (push_same folder other multi_index_name (stem ++ codes ".pack") is).1

-- a loose object is in no folder of packs
pub loose_is_in_no_pack_folder : (folder other : Path) (id : ObjectId) (name : Name) → ¬ (loose_path folder id ≡ pack_folder other ++ name ∷ [])
unfolding loose_path
loose_is_in_no_pack_folder folder other id name is =
    let two = take 2 (hex_of id) in
    let split : (folder ++ two ∷ []) ++ drop 2 (hex_of id) ∷ [] ≡ pack_folder other ++ name ∷ [] =
    append_assoc folder (two ∷ []) (drop 2 (hex_of id) ∷ []) ∙ is in
    let outer = push_same (folder ++ two ∷ []) (pack_folder other) (drop 2 (hex_of id)) name split in
    two_are_not_pack (hex_of id) (push_same folder other two (codes "pack") outer.0).1

module _ (setting : Setting) (path : Path) (index : IsIndexPath setting path) where
  pub index_is_no_pack : (folder : Path) (stem : Name) → ¬ (path ≡ folder ++ (stem ++ codes ".pack") ∷ [])
  index_is_no_pack folder stem is =
      index_is_no_pack_name index.name stem index.named (push_same (pack_folder index.folder) folder index.name (stem ++ codes ".pack") (sym index.is ∙ is)).1

  pub index_is_no_multi : (folder : Path) → ¬ (path ≡ multi_index_path folder)
  index_is_no_multi folder is =
      let same : index.name ≡ multi_index_name = (push_same (pack_folder index.folder) folder index.name multi_index_name (sym index.is ∙ is)).1 in
      let both : true ≡ false = sym index.named ∙ ap is_index_name same ∙ no_index_name in
      cc both

  in_folder : (folder : Path) (name : Name) → ¬ (path ≡ pack_in (pack_folder folder) name)
  in_folder folder name is = by (is_name (pack_name name)) is
    where
      by : (b : Bool) → ¬ (path ≡ cond b (pack_folder folder ++ pack_name name ∷ []) (pack_folder folder))
      by true here = index_is_no_pack (pack_folder folder) (stem_of name) here
      by false here = index_is_not_pack index.name index.named (push_same (pack_folder index.folder) folder index.name (codes "pack") (sym index.is ∙ here)).1

  -- nor that of a pack which a multi-pack index names
  pub index_is_no_pack_in_multi : (other : Path) → IsMultiPath setting other → (name : Name) → ¬ (path ≡ pack_in (folder_of other) name)
  index_is_no_pack_in_multi other at name is =
      in_folder at.folder name
      (is ∙ ap (λ (f : Path). pack_in f name) (ap folder_of at.is ∙ folder_of-push (pack_folder at.folder) multi_index_name))

  -- nor the path of the pack of an index
  pub index_is_no_pack_of : (other : Path) → IsIndexPath setting other → ¬ (path ≡ pack_path other)
  index_is_no_pack_of other at is =
      let parent : folder_of other ≡ pack_folder at.folder = ap folder_of at.is ∙ folder_of-push (pack_folder at.folder) at.name in
      in_folder at.folder (name_of other) (is ∙ ap (λ (f : Path). pack_in f (name_of other)) parent)
