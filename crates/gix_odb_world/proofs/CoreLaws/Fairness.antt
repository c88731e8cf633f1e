-- What is shown of a place is sound where each file that was shown there as its index is.
use Rattle.std.proofs.Common.{◌≡◌, ℕ, true, false, List, [], ◌∷◌, map, All, Option, refl, sym, subst, ◌∙◌, ap}
use Rattle.std.proofs.lemmas.List.Elements.{All-weaker}
use Rattle.odb_base.specs.Path.{Path}
use Rattle.gix_hash.specs.declared.kind.Kind.{Kind}
use Rattle.gix_hash.specs.declared.object_id.ObjectId.{ObjectId}
use Rattle.gix_odb_events.specs.PackFiles.{PackFile}
use Rattle.gix_odb_events.specs.PackPath.{pack_path}
use Rattle.gix_odb_events.specs.declared.loaded.LoadedIndex.{LoadedIndex}
use Rattle.gix_odb_events.specs.declared.loaded.LoadedIndex.TheVariants.{Single, Multi}
use Rattle.gix_odb_events.specs.declared.loaded.SnapshotIndex.{SnapshotIndex}
use Rattle.gix_odb_events.specs.declared.view.View.{View}
use Rattle.gix_odb_search.specs.PackFolder.{is_index_name, multi_index_name, pack_folder}
use Rattle.gix_odb_search.specs.declared.multi_pack.MultiUse.{MultiUse}
use Rattle.gix_odb.proofs.ListerLaws.Differ.{push_same}
use Rattle.gix_odb.specs.Fair.{Carrier, IsCarried, IsCarriedBy, IsFairIfThere, IsIndexBy, IsIndexFair, IsIndexSound, IsViewFair, ItsIndex, PackedPlace, TheMulti, index_at}
use Rattle.gix_odb.specs.LookUpOrder.{Setting}
use Rattle.gix_odb.specs.Shown.{IsFileShown, IsIndexShown, IsMultiPath, IsShownView, ShowedBytes, packs_of}
use Rattle.gix_odb_world.proofs.PackPaths.{multi_is_no_index}

-- the path of a place's own index, which is its carrier
its_index : (carrier : Carrier) (index path : Path) → IsIndexBy carrier index path → (carrier ≡ ItsIndex) × (path ≡ index)
its_index ItsIndex index path here = (refl, here)
its_index TheMulti index path here = absurd here

module _ (multi : Option MultiUse) (hash : Kind) (id : ObjectId) (place : PackedPlace) (carried : IsCarried multi place)
    (Shown : Path → ℕ → List ℕ → Type 0) (setting : Setting)
    (index_sound : place.carrier ≡ ItsIndex → (bytes : List ℕ) → ShowedBytes Shown (index_at place) bytes → IsIndexSound multi hash id place bytes) where
  -- no multi-pack index is there
  no_multi : place.carrier ≡ ItsIndex → ¬ (IsMultiPath setting (index_at place))
  no_multi is at =
      let named : is_index_name place.name ≡ true = subst (IsCarriedBy multi place.name) is carried in
      let same : place.name ≡ multi_index_name = (push_same (pack_folder place.folder) (pack_folder at.folder) place.name multi_index_name at.is).1 in
      let both : true ≡ false = sym named ∙ (ap is_index_name same ∙ multi_is_no_index) in
      cc both

  index_is_fair : (index : SnapshotIndex) → IsIndexShown Shown setting hash index → IsFairIfThere multi hash id place index
  index_is_fair index is here = by index.index refl is.file is.are
    where
      its : (place.carrier ≡ ItsIndex) × (index.path ≡ index_at place)
      its = its_index place.carrier (index_at place) index.path here

      by : (l : LoadedIndex) → index.index ≡ l → IsFileShown Shown setting hash index.path l → map (λ (pack : PackFile). pack.path) index.packs ≡ packs_of index.path l
          → IsIndexFair multi hash id place index
      by (Single file) same shown are = record {
        file = file;
        single = same;
        kind = shown.there.kind;
        sound = index_sound its.0 file.bytes (subst (λ (path : Path). ShowedBytes Shown path file.bytes) its.1 shown.there.shown);
        one = are ∙ ap (λ (path : Path). pack_path path ∷ []) its.1;
      }
      by (Multi bytes) same shown are = absurd (no_multi its.0 (subst (IsMultiPath setting) its.1 shown.at.at))

  -- a view of what was shown is fair to a place where all that was shown as its index is sound
  pub shown_views_are_fair : (view : View) → IsShownView Shown setting hash view → IsViewFair multi hash id place view
  shown_views_are_fair view is = record { indices = each view.snapshot.indices is.indices; kept = each view.snapshot.kept is.kept }
    where
      each : (indices : List SnapshotIndex) → All (IsIndexShown Shown setting hash) indices → All (IsFairIfThere multi hash id place) indices
      each indices shown = All-weaker (IsIndexShown Shown setting hash) (IsFairIfThere multi hash id place) index_is_fair indices shown
