-- A listing lists only the folders of its store.
use Rattle.std.proofs.Common.{◌≡◌, ℕ, List, [], ◌∷◌, slice_get, Contains, Option, Some, None, is_some, refl, sym, ◌∙◌, arith}
use Rattle.std.proofs.lemmas.List.Elements.{Contains-append_right}
use Rattle.std.proofs.lemmas.Option.{slice_get_within, get_or_from_slice_get}
use Rattle.odb_base.specs.Path.{Path}
use Rattle.odb_disk.specs.declared.ask.DiskAnswer.{DiskAnswer}
use Rattle.odb_disk.specs.declared.ask.DiskAnswer.TheVariants as answers
use Rattle.odb_disk.specs.declared.ask.DiskAsk.TheVariants as disk_asks
use Rattle.odb_disk.specs.declared.disk_error.DiskError.TheVariants as disk_errors
use Rattle.odb_disk.specs.declared.entry.Entry.{Entry}
use Rattle.odb_disk.specs.declared.meta.Kind.{Kind}
use Rattle.odb_disk.specs.declared.meta.Kind.TheVariants as kinds
use Rattle.odb_disk.specs.declared.meta.Meta.{Meta}
use Rattle.gix_odb_events.specs.declared.listing.ListingRow.{ListingRow}
use Rattle.gix_odb_search.specs.ListOrder.{at_paths, behind_folder, by_index, by_kind, by_multi, by_pack, by_pack_kind, fed, fed_at, multi_row, opened, read, with_row}
use Rattle.gix_odb_search.specs.PackFolder.{index_paths, multi_index_path, pack_folder}
use Rattle.gix_odb_search.specs.ListOrder as lists
use Rattle.gix_odb_search.specs.declared.lister.ListHead.{ListHead}
use Rattle.gix_odb_search.specs.declared.lister.ListStage.{ListStage}
use Rattle.gix_odb_search.specs.declared.lister.ListStage.TheVariants as stages
use Rattle.gix_odb_search.specs.declared.lister.ListStep.{ListStep}
use Rattle.gix_odb_search.specs.declared.lister.ListStep.TheVariants as ends
use Rattle.gix_odb_search.specs.declared.lister.Lister.{Lister}
use Rattle.gix_odb.specs.Store.{Setting, listed_for}
use Rattle.gix_odb.specs.Shown.{folders_of}
use Rattle.gix_odb_search.specs.declared.folders.IndexPath.{IndexPath}
use Rattle.gix_odb_search.specs.declared.folders.IndexPath.TheVariants as files
use Rattle.gix_odb_search.proofs.MultiReadLaws.{multi_leads}

-- ---- the folders of a store

pub first_folder : (setting : Setting) → Contains (folders_of setting) setting.parts.objects
first_folder setting = (0, omega arith, refl)

pub later_folder : (setting : Setting) (n : ℕ) (folder : Path) → slice_get setting.parts.folders n ≡ Some folder → Contains (folders_of setting) folder
later_folder setting n folder is =
    Contains-append_right (setting.parts.objects ∷ []) setting.parts.folders folder
    (n, slice_get_within setting.parts.folders n folder is, get_or_from_slice_get setting.parts.folders n folder folder is)

-- ---- a lister

module _ (setting : Setting) where
  -- it is at the folder of packs of a folder of the store
  abbrev pub IsAtFolder : ListHead → Type 0
  IsAtFolder head = (folder : Path) × Contains (folders_of setting) folder × (head.folder ≡ pack_folder folder)

  abbrev pub GoesToFolder : ListStep → Type 0
  GoesToFolder (ends.More lister) = IsAtFolder lister.head
  GoesToFolder (ends.Listed listing) = Unit {0}
  GoesToFolder ends.Broken = Unit {0}
  GoesToFolder (ends.TooManyPacks actual path) = Unit {0}

  behind_folder-goes : (head : ListHead) (next : Option Path) → slice_get setting.parts.folders head.next ≡ next → GoesToFolder (behind_folder head next)
  behind_folder-goes head None is = tt
  behind_folder-goes head (Some folder) is = (folder, later_folder setting head.next folder is, refl)

  at_paths-goes : (head : ListHead) → IsAtFolder head → (paths : List IndexPath) → GoesToFolder (at_paths (listed_for setting.parts) head paths)
  at_paths-goes head at [] = behind_folder-goes head (slice_get setting.parts.folders head.next) refl
  at_paths-goes head at (files.Single path ∷ left) = at
  at_paths-goes head at (files.Multi ∷ left) = at

  module _ (head : ListHead) (at : IsAtFolder head) where
    opened-goes : (answer : DiskAnswer) → GoesToFolder (opened (listed_for setting.parts) head answer)
    opened-goes (answers.Dir dir) = at
    opened-goes (answers.Refused disk_errors.Absent) = behind_folder-goes head (slice_get setting.parts.folders head.next) refl
    opened-goes answer = tt

    read-goes : (dir : ℕ) (entries : List Entry) (answer : DiskAnswer) → GoesToFolder (read head dir entries answer)
    read-goes dir entries (answers.Entry entry) = at
    read-goes dir entries answers.End = at
    read-goes dir entries answer = at

    by_kind-goes : (path : Path) (left : List IndexPath) (meta : Meta) (kind : Kind) → GoesToFolder (by_kind (listed_for setting.parts) head path left meta kind)
    by_kind-goes path left meta kinds.File = at
    by_kind-goes path left meta kind = at_paths-goes head at left

    by_index-goes : (path : Path) (left : List IndexPath) (answer : DiskAnswer) → GoesToFolder (by_index (listed_for setting.parts) head path left answer)
    by_index-goes path left (answers.Meta meta) = by_kind-goes path left meta meta.kind
    by_index-goes path left (answers.Refused disk_errors.Failed) = tt
    by_index-goes path left answer = at_paths-goes head at left

    by_pack_kind-goes : (row : ListingRow) (left : List IndexPath) (kind : Kind) → GoesToFolder (by_pack_kind (listed_for setting.parts) head row left kind)
    by_pack_kind-goes row left kinds.File = at_paths-goes (with_row head row) at left
    by_pack_kind-goes row left kind = at_paths-goes head at left

    by_pack-goes : (row : ListingRow) (left : List IndexPath) (answer : DiskAnswer) → GoesToFolder (by_pack (listed_for setting.parts) head row left answer)
    by_pack-goes row left (answers.Meta meta) = by_pack_kind-goes row left meta.kind
    by_pack-goes row left (answers.Refused disk_errors.Failed) = tt
    by_pack-goes row left answer = at_paths-goes head at left

    by_multi-goes : (left : List IndexPath) (answer : DiskAnswer) → GoesToFolder (by_multi (listed_for setting.parts) head left answer)
    by_multi-goes left answer =
        multi_leads GoesToFolder (listed_for setting.parts) head left answer
        (λ bytes time is usable. at_paths-goes (with_row head (multi_row (multi_index_path head.folder) bytes time)) at left)
        (λ bytes time is multi many. tt) (at_paths-goes head at left) (λ is. tt)

    fed_at-goes : (stage : ListStage) (answer : DiskAnswer) → GoesToFolder (fed_at (listed_for setting.parts) head stage answer)
    fed_at-goes stages.Opening answer = opened-goes answer
    fed_at-goes (stages.Reading dir entries) answer = read-goes dir entries answer
    fed_at-goes (stages.Closing dir entries) answer = at_paths-goes head at (index_paths (is_some (listed_for setting.parts).multi) head.folder entries)
    fed_at-goes (stages.Breaking dir) answer = tt
    fed_at-goes (stages.Index path left) answer = by_index-goes path left answer
    fed_at-goes (stages.Pack row left) answer = by_pack-goes row left answer
    fed_at-goes (stages.Multi left) answer = by_multi-goes left answer

  pub fed-goes : (lister : Lister) → IsAtFolder lister.head → (answer : DiskAnswer) → GoesToFolder (fed (listed_for setting.parts) lister answer)
  fed-goes lister at answer = fed_at-goes lister.head at lister.stage answer

-- ---- what it opens

module _ (setting : Setting) (path : Path) where
  -- a path is that of the folder of packs of one of the folders
  abbrev pub IsFolderOfPacks : Type 0
  IsFolderOfPacks = (folder : Path) × Contains (folders_of setting) folder × (path ≡ pack_folder folder)

  -- a lister that is at the folder of packs of one of the folders opens that one
  pub lister_opens_there : (head : ListHead) → IsAtFolder setting head → (stage : ListStage) → lists.ask_at head.folder stage ≡ disk_asks.OpenDir path
      → IsFolderOfPacks
  lister_opens_there head at stages.Opening is = let same : head.folder ≡ path = cc is in (at.0, at.1, sym same ∙ at.2)
  lister_opens_there head at (stages.Reading dir entries) is = absurd (cc is)
  lister_opens_there head at (stages.Closing dir entries) is = absurd (cc is)
  lister_opens_there head at (stages.Breaking dir) is = absurd (cc is)
  lister_opens_there head at (stages.Index other left) is = absurd (cc is)
  lister_opens_there head at (stages.Pack row left) is = absurd (cc is)
  lister_opens_there head at (stages.Multi left) is = absurd (cc is)
