-- Rows that carry an object that stays unchanged in a pack: that of the pack's own index, or that of a multi-pack index which gives it the same place.
-- One of them is left where indices are dropped that a multi-pack index names.
use Rattle.std.proofs.Common.{◌≡◌, ◌⊎◌, inl, inr, ◌++◌, ◌||◌, Bool, true, false, cond, List, [], ◌∷◌, map, Contains, Option, Some, None, is_some}
use Rattle.std.proofs.Common.{ℕ, codes, refl, sym, ap, ◌∙◌, subst}
use Rattle.std.specs.List.{All}
use Rattle.std.proofs.lemmas.List.Elements.{All-contains}
use Rattle.odb_base.specs.Path.{Name, Path, is_name}
use Rattle.gix_hash.specs.declared.kind.Kind.{Kind}
use Rattle.gix_hash.specs.declared.object_id.ObjectId.{ObjectId}
use Rattle.gix_pack_read.specs.MultiIndex.{told}
use Rattle.gix_odb_events.specs.PackFiles.{same_path}
use Rattle.gix_odb_events.specs.PackPath.{folder_of}
use Rattle.gix_odb_events.specs.declared.listing.ListingRow.{ListingRow}
use Rattle.gix_odb_events.proofs.SamePathLaws.{same_path-true}
use Rattle.gix_odb_search.specs.LongestFirst.{longest_first}
use Rattle.gix_odb_search.specs.MultiPack.{index_in, is_among, paths_named, unnamed}
use Rattle.gix_odb_search.specs.PackFolder.{is_index_name, multi_index_name, multi_index_path, pack_folder}
use Rattle.gix_odb_search.specs.declared.multi_pack.MultiUse.{MultiUse}
use Rattle.gix_odb_search.proofs.UnnamedLaws.{multi_stays, stays_or_named, unnamed_are}
use Rattle.gix_odb.specs.Fair.{Carrier, IsCarried, IsCarriedBy, IsIndexBy, IsItsIndex, IsMultiSound, ItsIndex, PackedPlace, TheMulti, index_at, multi_at}
pub use Rattle.gix_odb.specs.StillListed.{HasRow, IsCarrierRow, IsMultiRow}
use Rattle.gix_odb.proofs.ListerLaws.Differ.{push_same}
use Rattle.gix_odb.proofs.MissLaws.Lists.{first_in, later_in}
use Rattle.gix_odb.proofs.MissLaws.Rows.{longest_first_has}
use Rattle.gix_odb.proofs.PathsApart.{folder_of-push, index_is_not_pack}

-- ---- paths that a multi-pack index names

or_cases : (a b : Bool) → (a || b) ≡ true → (a ≡ true) ⊎ (b ≡ true)
or_cases true b is = inl refl
or_cases false b is = inr is

-- a path is that of a name in a folder
pub record IsNamedPath (folder : Path) (names : List Name) (path : Path) : Type 0 where
  pub name : Name
  pub among : Contains names name
  pub is : index_in folder name ≡ path

named_path : (folder : Path) (names : List Name) (path : Path) → is_among (map (index_in folder) names) path ≡ true → IsNamedPath folder names path
named_path folder [] path is = absurd (cc is)
named_path folder (name ∷ names) path is =
    elim (or_cases (same_path (index_in folder name) path) (is_among (map (index_in folder) names) path) is) [
      | inl here ↦ record { name = name; among = first_in name names; is = same_path-true (index_in folder name) path here }
      | inr later ↦ let found = named_path folder names path later in record { name = found.name; among = later_in name names found.name found.among; is = found.is }
    ]

-- in a folder of packs a name that is that of an index says which path it is
module _ (folder other : Path) (name own : Name) (named : is_index_name own ≡ true) where
  by_name : (b : Bool) → cond b (pack_folder folder ++ name ∷ []) (pack_folder folder) ≡ pack_folder other ++ own ∷ []
      → (pack_folder folder ≡ pack_folder other) × (name ≡ own)
  by_name true is = push_same (pack_folder folder) (pack_folder other) name own is
  by_name false is = absurd (index_is_not_pack own named (sym (push_same folder (pack_folder other) (codes "pack") own is).1))

  pub index_in_is : index_in (pack_folder folder) name ≡ pack_folder other ++ own ∷ [] → (pack_folder folder ≡ pack_folder other) × (name ≡ own)
  index_in_is is = by_name (is_name name) is

-- ---- rows

module _ (multi : Option MultiUse) (hash : Kind) (id : ObjectId) (place : PackedPlace) where
  -- a multi-pack index that is listed is usable; and where it is in the place's folder and names the pack's index, it is sound
  pub record AgreesAt (path : Path) (bytes : List ℕ) : Type 0 where
    pub folder : Path
    pub is : path ≡ multi_index_path (pack_folder folder)
    pub agrees : pack_folder folder ≡ pack_folder place.folder → Contains (told bytes).names place.name → IsMultiSound multi hash id place bytes

  abbrev pub Agrees : ListingRow → Type 0
  Agrees row = (bytes : List ℕ) → row.multi ≡ Some bytes → AgreesAt row.path bytes

  abbrev pub AllAgree : List ListingRow → Type 0
  AllAgree rows = All Agrees rows

  -- a multi-pack index that names the pack's own index is sound
  named_in_place : (carrier : Carrier) → IsCarriedBy multi place.name carrier → (path : Path) → IsIndexBy carrier (index_at place) path
      → (row : ListingRow) → Agrees row → is_among (paths_named row.path row.multi) path ≡ true → IsMultiRow multi hash id place row
  named_in_place TheMulti carried path at row agree names = absurd at
  named_in_place ItsIndex named path at row agree names = by row.multi refl names
    where
      by : (content : Option (List ℕ)) → row.multi ≡ content → is_among (paths_named row.path content) path ≡ true → IsMultiRow multi hash id place row
      by None is other = absurd (cc other)
      by (Some bytes) is other =
          let own = agree bytes is in
          let folder : folder_of row.path ≡ pack_folder own.folder = ap folder_of own.is ∙ folder_of-push (pack_folder own.folder) multi_index_name in
          let found = named_path (folder_of row.path) (told bytes).names path other in
          let same =
          index_in_is own.folder place.folder found.name place.name named
          (ap (λ (f : Path). index_in f found.name) (sym folder) ∙ found.is ∙ at) in
          record {
            bytes = bytes;
            content = is;
            path = own.is ∙ ap multi_index_path same.0;
            sound = own.agrees same.0 (subst (Contains (told bytes).names) same.1 found.among);
          }

  module _ (carried : IsCarried multi place) where
    -- where indices are dropped, a carrier is left
    left_has : (rows : List ListingRow) → AllAgree rows → HasRow multi hash id place rows → HasRow multi hash id place (unnamed rows)
    left_has rows agree (row, among, inr own) =
        (row, multi_stays rows row among (ap is_some own.content), inr own)
    left_has rows agree (row, among, inl own) =
        elim (stays_or_named rows row among) [
          | inl stays ↦ (row, stays, inl own)
          | inr named ↦ (
            named.row,
            named.among,
            inr (named_in_place place.carrier carried row.path own.1 named.row
                (All-contains Agrees (unnamed rows) named.row (unnamed_are Agrees rows agree) named.among) named.names),
          )
        ]

    pub listed_has : (rows : List ListingRow) → AllAgree rows → HasRow multi hash id place rows → HasRow multi hash id place (longest_first (unnamed rows))
    listed_has rows agree has =
        let left = left_has rows agree has in (left.0, longest_first_has (unnamed rows) left.0 left.1, left.2)
