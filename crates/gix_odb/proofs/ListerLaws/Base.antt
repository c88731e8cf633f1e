-- A listing is for the list after the number that it was begun with.
use Rattle.std.proofs.Common.{◌≡◌, ℕ, List, [], ◌∷◌, slice_get, Option, Some, None, is_some, refl}
use Rattle.odb_base.specs.Path.{Path}
use Rattle.odb_disk.specs.declared.ask.DiskAnswer.{DiskAnswer}
use Rattle.odb_disk.specs.declared.ask.DiskAnswer.TheVariants as answers
use Rattle.odb_disk.specs.declared.disk_error.DiskError.TheVariants as disk_errors
use Rattle.odb_disk.specs.declared.meta.Kind.{Kind}
use Rattle.odb_disk.specs.declared.meta.Kind.TheVariants as kinds
use Rattle.odb_disk.specs.declared.meta.Meta.{Meta}
use Rattle.gix_odb_events.specs.declared.listing.ListingRow.{ListingRow}
use Rattle.gix_odb_search.specs.ListOrder.{at_paths, behind_folder, by_index, by_kind, by_multi, by_pack, by_pack_kind, fed, fed_at, multi_row, opened, read, with_row}
use Rattle.gix_odb_search.specs.PackFolder.{index_paths, multi_index_path}
use Rattle.gix_odb_search.specs.declared.lister.ListHead.{ListHead}
use Rattle.gix_odb_search.specs.declared.lister.ListStage.{ListStage}
use Rattle.gix_odb_search.specs.declared.lister.ListStage.TheVariants as stages
use Rattle.gix_odb_search.specs.declared.lister.ListStep.{ListStep}
use Rattle.gix_odb_search.specs.declared.lister.ListStep.TheVariants as ends
use Rattle.gix_odb_search.specs.declared.lister.Lister.{Lister}
use Rattle.odb_disk.specs.declared.entry.Entry.{Entry}
use Rattle.gix_odb_search.specs.ListedStore.{ListedStore}
use Rattle.gix_odb_search.specs.declared.folders.IndexPath.{IndexPath}
use Rattle.gix_odb_search.specs.declared.folders.IndexPath.TheVariants as files
use Rattle.gix_odb_search.proofs.MultiReadLaws.{multi_leads}

-- what a step lists is for the list after this number
abbrev pub IsFor : (base : ℕ) → ListStep → Type 0
IsFor base (ends.More lister) = lister.head.base ≡ base
IsFor base (ends.Listed listing) = listing.base ≡ base
IsFor base ends.Broken = Unit {0}
IsFor base (ends.TooManyPacks actual path) = Unit {0}

module _ (store : ListedStore) where
  folder_is_for : (head : ListHead) (next : Option Path) → IsFor head.base (behind_folder head next)
  folder_is_for head None = refl
  folder_is_for head (Some folder) = refl

  paths_are_for : (head : ListHead) (left : List IndexPath) → IsFor head.base (at_paths store head left)
  paths_are_for head [] = folder_is_for head (slice_get store.folders head.next)
  paths_are_for head (files.Single path ∷ left) = refl
  paths_are_for head (files.Multi ∷ left) = refl

  module _ (head : ListHead) where
    opened_is_for : (answer : DiskAnswer) → IsFor head.base (opened store head answer)
    opened_is_for (answers.Dir dir) = refl
    opened_is_for (answers.Refused disk_errors.Absent) = folder_is_for head (slice_get store.folders head.next)
    opened_is_for answer = tt

    read_is_for : (dir : ℕ) (entries : List Entry) (answer : DiskAnswer) → IsFor head.base (read head dir entries answer)
    read_is_for dir entries (answers.Entry entry) = refl
    read_is_for dir entries answers.End = refl
    read_is_for dir entries answer = refl

    kind_is_for : (path : Path) (left : List IndexPath) (meta : Meta) (kind : Kind) → IsFor head.base (by_kind store head path left meta kind)
    kind_is_for path left meta kinds.File = refl
    kind_is_for path left meta kind = paths_are_for head left

    index_is_for : (path : Path) (left : List IndexPath) (answer : DiskAnswer) → IsFor head.base (by_index store head path left answer)
    index_is_for path left (answers.Meta meta) = kind_is_for path left meta meta.kind
    index_is_for path left (answers.Refused disk_errors.Failed) = tt
    index_is_for path left answer = paths_are_for head left

    pack_kind_is_for : (row : ListingRow) (left : List IndexPath) (kind : Kind) → IsFor head.base (by_pack_kind store head row left kind)
    pack_kind_is_for row left kinds.File = paths_are_for (with_row head row) left
    pack_kind_is_for row left kind = paths_are_for head left

    pack_is_for : (row : ListingRow) (left : List IndexPath) (answer : DiskAnswer) → IsFor head.base (by_pack store head row left answer)
    pack_is_for row left (answers.Meta meta) = pack_kind_is_for row left meta.kind
    pack_is_for row left (answers.Refused disk_errors.Failed) = tt
    pack_is_for row left answer = paths_are_for head left

    multi_is_for : (left : List IndexPath) (answer : DiskAnswer) → IsFor head.base (by_multi store head left answer)
    multi_is_for left answer =
        multi_leads (IsFor head.base) store head left answer
        (λ bytes time is usable. paths_are_for (with_row head (multi_row (multi_index_path head.folder) bytes time)) left)
        (λ bytes time is multi many. tt) (paths_are_for head left) (λ is. tt)

    stage_is_for : (stage : ListStage) (answer : DiskAnswer) → IsFor head.base (fed_at store head stage answer)
    stage_is_for stages.Opening answer = opened_is_for answer
    stage_is_for (stages.Reading dir entries) answer = read_is_for dir entries answer
    stage_is_for (stages.Closing dir entries) answer = paths_are_for head (index_paths (is_some store.multi) head.folder entries)
    stage_is_for (stages.Breaking dir) answer = tt
    stage_is_for (stages.Index path left) answer = index_is_for path left answer
    stage_is_for (stages.Pack row left) answer = pack_is_for row left answer
    stage_is_for (stages.Multi left) answer = multi_is_for left answer

  -- an answer leaves the number
  pub listing_keeps_its_base : (lister : Lister) (answer : DiskAnswer) → IsFor lister.head.base (fed store lister answer)
  listing_keeps_its_base lister answer = stage_is_for lister.head lister.stage answer
