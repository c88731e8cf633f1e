-- A listing of the folders of packs has only rows of indices of the folders.
use Rattle.std.proofs.Common.{◌≡◌, ◌++◌, ℕ, Bool, true, false, List, [], ◌∷◌, All, Contains, slice_get, Option, Some, None, is_some, refl, sym, ap, subst}
use Rattle.std.proofs.lemmas.List.Elements.{All-head, All-nil, All-push, All-tail}
use Rattle.odb_base.specs.Path.{Name, Path}
use Rattle.odb_disk.specs.declared.disk_error.DiskError.TheVariants as disk_errors
use Rattle.odb_disk.specs.declared.entry.Entry.{Entry}
use Rattle.odb_disk.specs.declared.meta.Kind.{Kind}
use Rattle.odb_disk.specs.declared.meta.Kind.TheVariants as kinds
use Rattle.odb_disk.specs.declared.meta.Meta.{Meta}
use Rattle.odb_disk.specs.declared.ask.DiskAnswer.{DiskAnswer}
use Rattle.odb_disk.specs.declared.ask.DiskAnswer.TheVariants as answers
use Rattle.gix_odb_events.specs.declared.listing.ListingRow.{ListingRow}
use Rattle.gix_odb_search.specs.ListOrder.{at_paths, behind_folder, by_index, by_kind, by_multi, by_pack, by_pack_kind, fed, fed_at, more, multi_row, opened, read, row_of}
use Rattle.gix_odb_search.specs.ListOrder.{started, with_row}
use Rattle.gix_odb_search.specs.PackFolder.{firsts, index_path_in, index_paths, is_index_entry, is_index_name, multi_index_path, pack_folder, path_by}
use Rattle.gix_odb_search.specs.declared.lister.ListHead.{ListHead}
use Rattle.gix_odb_search.specs.declared.lister.ListStage.{ListStage}
use Rattle.gix_odb_search.specs.declared.lister.ListStage.TheVariants as stages
use Rattle.gix_odb_search.specs.declared.lister.ListStep.{ListStep}
use Rattle.gix_odb_search.specs.declared.lister.ListStep.TheVariants as steps
use Rattle.gix_odb_search.specs.declared.lister.Lister.{Lister}
use Rattle.gix_odb.specs.Store.{Setting, listed_for}
use Rattle.gix_odb.specs.Shown.{IsIndexPath, IsIndexRow, IsMultiPath, IsRowAs, folders_of}
use Rattle.gix_odb.proofs.ListerLaws.Lists.{all_kept, all_longest_first, at_place, has_first, has_later}
use Rattle.gix_odb_search.specs.declared.folders.IndexPath.{IndexPath}
use Rattle.gix_odb_search.specs.declared.folders.IndexPath.TheVariants as files
use Rattle.gix_odb_search.specs.MultiPack.{unnamed}
use Rattle.gix_odb_search.proofs.MultiReadLaws.{multi_leads}
use Rattle.gix_odb_search.proofs.UnnamedLaws.{unnamed_are}

module _ (setting : Setting) where
  -- the folder of packs of one of the folders is listed, and the rows are of indices
  pub record KnowsListHead (head : ListHead) : Type 0 where
    pub folder : Path
    pub among : Contains (folders_of setting) folder
    pub is : head.folder ≡ pack_folder folder
    pub rows : All (IsIndexRow setting) head.rows

  -- an index of the folders; a multi-pack index is that of its folder
  abbrev pub IsFileOf : IndexPath → Type 0
  IsFileOf (files.Single path) = IsIndexPath setting path
  IsFileOf files.Multi = Unit {0}

  -- the row of an index alone
  abbrev pub IsSingleRow : ListingRow → Type 0
  IsSingleRow row = IsIndexPath setting row.path × (row.multi ≡ None)

  abbrev pub KnowsListStage : ListStage → Type 0
  KnowsListStage (stages.Index path left) = IsIndexPath setting path × All IsFileOf left
  KnowsListStage (stages.Pack row left) = IsSingleRow row × All IsFileOf left
  KnowsListStage (stages.Multi left) = All IsFileOf left
  KnowsListStage stage = Unit {0}

  pub record KnowsLister (lister : Lister) : Type 0 where
    pub head : KnowsListHead lister.head
    pub stage : KnowsListStage lister.stage

  abbrev pub KnowsListStep : ListStep → Type 0
  KnowsListStep (steps.More lister) = KnowsLister lister
  KnowsListStep (steps.Listed listing) = All (IsIndexRow setting) listing.rows
  KnowsListStep steps.Broken = Unit {0}
  KnowsListStep (steps.TooManyPacks actual path) = IsMultiPath setting path

-- ---- what goes on

module _ (setting : Setting) where
  abbrev Knows : ListStep → Type 0
  Knows step = KnowsListStep setting step

  -- the indices among the entries of a folder of packs
  indices_known : (multi : Bool) (head : ListHead) (entries : List Entry) → KnowsListHead setting head
      → All (IsFileOf setting) (index_paths multi head.folder entries)
  indices_known multi head entries known =
      all_kept (IsFileOf setting) (index_path_in head.folder) (is_index_entry multi) (λ entry passes. by entry.name (is_index_name entry.name) refl)
      (firsts entries)
    where
      by : (name : Name) (index : Bool) → is_index_name name ≡ index → IsFileOf setting (path_by index head.folder name)
      by name true named = record {
        folder = known.folder;
        among = known.among;
        name = name;
        named = named;
        is = ap (λ (folder : Path). folder ++ name ∷ []) known.is;
      }
      by name false other = tt

  pub started_known : (base : ℕ) → KnowsLister setting (started setting.parts.objects base)
  started_known base = record {
    head = record {
      folder = setting.parts.objects;
      among = has_first setting.parts.objects setting.parts.folders;
      is = refl;
      rows = All-nil (IsIndexRow setting);
    };
    stage = tt;
  }

  module _ (head : ListHead) (known : KnowsListHead setting head) where
    more_known : (stage : ListStage) → KnowsListStage setting stage → Knows (more head stage)
    more_known stage here = record { head = known; stage = here }

    behind_known : (next : Option Path) → slice_get setting.parts.folders head.next ≡ next → Knows (behind_folder head next)
    behind_known None is =
        all_longest_first (IsIndexRow setting) (unnamed head.rows) (unnamed_are (IsIndexRow setting) head.rows known.rows)
    behind_known (Some folder) is = record {
      head = record {
        folder = folder;
        among = has_later setting.parts.objects setting.parts.folders folder (at_place setting.parts.folders head.next folder is);
        is = refl;
        rows = known.rows;
      };
      stage = tt;
    }

    paths_known : (paths : List IndexPath) → All (IsFileOf setting) paths → Knows (at_paths (listed_for setting.parts) head paths)
    paths_known [] all = behind_known (slice_get setting.parts.folders head.next) refl
    paths_known (files.Single path ∷ left) all =
        more_known (stages.Index path left) (All-head (IsFileOf setting) (files.Single path) left all, All-tail (IsFileOf setting) (files.Single path) left all)
    paths_known (files.Multi ∷ left) all = more_known (stages.Multi left) (All-tail (IsFileOf setting) files.Multi left all)

    opened_known : (answer : DiskAnswer) → Knows (opened (listed_for setting.parts) head answer)
    opened_known (answers.Dir dir) = more_known (stages.Reading dir []) tt
    opened_known (answers.Refused disk_errors.Absent) = behind_known (slice_get setting.parts.folders head.next) refl
    opened_known answer = tt

    read_known : (dir : ℕ) (entries : List Entry) (answer : DiskAnswer) → Knows (read head dir entries answer)
    read_known dir entries (answers.Entry entry) = more_known (stages.Reading dir (entries ++ entry ∷ [])) tt
    read_known dir entries answers.End = more_known (stages.Closing dir entries) tt
    read_known dir entries answer = more_known (stages.Breaking dir) tt

    kind_known : (path : Path) (left : List IndexPath) (meta : Meta) (kind : Kind) → IsIndexPath setting path → All (IsFileOf setting) left
        → Knows (by_kind (listed_for setting.parts) head path left meta kind)
    kind_known path left meta kinds.File here rest = more_known (stages.Pack (row_of path meta) left) ((here, refl), rest)
    kind_known path left meta kind here rest = paths_known left rest

    index_known : (path : Path) (left : List IndexPath) (answer : DiskAnswer) → IsIndexPath setting path → All (IsFileOf setting) left
        → Knows (by_index (listed_for setting.parts) head path left answer)
    index_known path left (answers.Meta meta) here rest = kind_known path left meta meta.kind here rest
    index_known path left (answers.Refused disk_errors.Failed) here rest = tt
    index_known path left answer here rest = paths_known left rest

  with_row_known : (head : ListHead) (row : ListingRow) → KnowsListHead setting head → IsIndexRow setting row → KnowsListHead setting (with_row head row)
  with_row_known head row known here = record {
    folder = known.folder;
    among = known.among;
    is = known.is;
    rows = All-push (IsIndexRow setting) head.rows row known.rows here;
  }

  single_row : (row : ListingRow) → IsSingleRow setting row → IsIndexRow setting row
  single_row row here = subst (IsRowAs setting row) (sym here.1) here.0

  pack_kind_known : (head : ListHead) (row : ListingRow) (left : List IndexPath) (kind : Kind) → KnowsListHead setting head → IsSingleRow setting row
      → All (IsFileOf setting) left
      → Knows (by_pack_kind (listed_for setting.parts) head row left kind)
  pack_kind_known head row left kinds.File known here rest = paths_known (with_row head row) (with_row_known head row known (single_row row here)) left rest
  pack_kind_known head row left kind known here rest = paths_known head known left rest

  pack_known : (head : ListHead) (row : ListingRow) (left : List IndexPath) (answer : DiskAnswer) → KnowsListHead setting head → IsSingleRow setting row
      → All (IsFileOf setting) left
      → Knows (by_pack (listed_for setting.parts) head row left answer)
  pack_known head row left (answers.Meta meta) known here rest = pack_kind_known head row left meta.kind known here rest
  pack_known head row left (answers.Refused disk_errors.Failed) known here rest = tt
  pack_known head row left answer known here rest = paths_known head known left rest

  multi_known : (head : ListHead) (left : List IndexPath) (answer : DiskAnswer) → KnowsListHead setting head → All (IsFileOf setting) left
      → Knows (by_multi (listed_for setting.parts) head left answer)
  multi_known head left answer known rest =
      multi_leads Knows (listed_for setting.parts) head left answer
      (λ bytes time is usable. paths_known (with_row head (multi_row path bytes time))
      (with_row_known head (multi_row path bytes time) known (record { at = here; usable = usable })) left rest)
      (λ bytes time is multi many. here) (paths_known head known left rest) (λ is. tt)
    where
      path : Path
      path = multi_index_path head.folder

      here : IsMultiPath setting path
      here = record { folder = known.folder; among = known.among; is = ap multi_index_path known.is }

  stage_known : (head : ListHead) (stage : ListStage) (answer : DiskAnswer) → KnowsListHead setting head → KnowsListStage setting stage
      → Knows (fed_at (listed_for setting.parts) head stage answer)
  stage_known head stages.Opening answer known here = opened_known head known answer
  stage_known head (stages.Reading dir entries) answer known here = read_known head known dir entries answer
  stage_known head (stages.Closing dir entries) answer known here = paths_known head known (index_paths (is_some (listed_for setting.parts).multi) head.folder entries)
      (indices_known (is_some (listed_for setting.parts).multi) head entries known)
  stage_known head (stages.Breaking dir) answer known here = tt
  stage_known head (stages.Index path left) answer known here = index_known head known path left answer here.0 here.1
  stage_known head (stages.Pack row left) answer known here = pack_known head row left answer known here.0 here.1
  stage_known head (stages.Multi left) answer known here = multi_known head left answer known here

  pub fed_known : (lister : Lister) (answer : DiskAnswer) → KnowsLister setting lister → Knows (fed (listed_for setting.parts) lister answer)
  fed_known lister answer known = stage_known lister.head lister.stage answer known.head known.stage
