-- The rows of a listing and the paths that are left have different paths, where the folders are different.
use Rattle.std.proofs.Common.{◌≡◌, inl, inr, ℕ, zero, suc, ◌+◌, ◌≤◌, Bool, List, [], ◌∷◌, ◌++◌, map, slice_get, Contains, Option, Some, None, is_some}
use Rattle.std.proofs.Common.{refl, sym, ap, ◌∙◌, subst, arith, append_assoc, append-nil}
use Rattle.std.specs.List.{IsDistinct}
use Rattle.std.proofs.lemmas.List.{map-append}
use Rattle.std.proofs.lemmas.List.Elements.{Contains-append_cases}
use Rattle.odb_base.specs.Path.{Name, Path}
use Rattle.odb_disk.specs.declared.ask.DiskAnswer.{DiskAnswer}
use Rattle.odb_disk.specs.declared.ask.DiskAnswer.TheVariants as answers
use Rattle.odb_disk.specs.declared.disk_error.DiskError.TheVariants as disk_errors
use Rattle.odb_disk.specs.declared.entry.Entry.{Entry}
use Rattle.odb_disk.specs.declared.meta.Kind.{Kind}
use Rattle.odb_disk.specs.declared.meta.Kind.TheVariants as kinds
use Rattle.odb_disk.specs.declared.meta.Meta.{Meta}
use Rattle.gix_odb_events.specs.PackFiles.{HasDifferentPaths, same_path}
use Rattle.gix_odb_events.specs.declared.listing.ListingRow.{ListingRow}
use Rattle.gix_odb_search.specs.ListOrder.{at_paths, behind_folder, by_index, by_kind, by_multi, by_pack, by_pack_kind, fed_at, multi_row, opened, read, started}
use Rattle.gix_odb_search.specs.ListOrder.{with_row}
use Rattle.gix_odb_search.specs.PackFolder.{index_paths, multi_index_path, pack_folder}
use Rattle.gix_odb_search.specs.declared.lister.ListHead.{ListHead}
use Rattle.gix_odb_search.specs.declared.lister.ListStage.{ListStage}
use Rattle.gix_odb_search.specs.declared.lister.ListStage.TheVariants as stages
use Rattle.gix_odb_search.specs.declared.lister.ListStep.{ListStep}
use Rattle.gix_odb_search.specs.declared.lister.ListStep.TheVariants as ends
use Rattle.gix_odb_search.specs.declared.lister.Lister.{Lister}
use Rattle.gix_odb_search.proofs.ReachLemmas.{none_in}
use Rattle.gix_odb.proofs.ListerLaws.Differ.{Contains-without, Differ, Differ-append, Differ-without, places_differ, push_same}
use Rattle.gix_odb.proofs.ListerLaws.Rows.{HasDifferentPaths-listed, index_paths_differ, index_paths_of_folder, path_in, row_paths}
use Rattle.gix_odb_search.specs.ListedStore.{ListedStore}
use Rattle.gix_odb_search.specs.declared.folders.IndexPath.{IndexPath}
use Rattle.gix_odb_search.specs.declared.folders.IndexPath.TheVariants as files
use Rattle.gix_odb_search.proofs.MultiReadLaws.{multi_leads}

module _ (store : ListedStore) where
  -- a folder that is still to be opened, from a place on
  pub record IsAhead (next : ℕ) (folder : Path) : Type 0 where
    pub at : ℕ
    pub behind : next ≤ at
    pub is : slice_get store.folders at ≡ Some folder

  -- while a folder is listed, with the next one at this place: the paths so far differ, and none is in a folder that is still to be opened
  pub record IsApart (own : Path) (next : ℕ) (paths : List Path) : Type 0 where
    pub differ : Differ paths
    pub other : (path folder : Path) (name : Name) → Contains paths path → IsAhead next folder → ¬ (path ≡ pack_folder folder ++ name ∷ [])
    pub elsewhere : (folder : Path) → IsAhead next folder → ¬ (own ≡ pack_folder folder)

  -- the folder has no rows yet
  pub record IsNew (own : Path) (next : ℕ) (paths : List Path) : Type 0 where
    pub apart : IsApart own next paths
    pub new : (path : Path) (name : Name) → Contains paths path → ¬ (path ≡ own ++ name ∷ [])

  abbrev IsNewHead : ListHead → Type 0
  IsNewHead head = IsNew head.folder head.next (row_paths head.rows)

  -- the rows, and these paths
  abbrev HasLeft : ListHead → List Path → Type 0
  HasLeft head left = IsApart head.folder head.next (row_paths head.rows ++ left)

  abbrev pub StageDiffers : ListHead → ListStage → Type 0
  StageDiffers head stages.Opening = IsNewHead head
  StageDiffers head (stages.Reading dir entries) = IsNewHead head
  StageDiffers head (stages.Closing dir entries) = IsNewHead head
  StageDiffers head (stages.Breaking dir) = Unit {0}
  StageDiffers head (stages.Index path left) = HasLeft head (path ∷ map (path_in head.folder) left)
  StageDiffers head (stages.Pack row left) = HasLeft head (row.path ∷ map (path_in head.folder) left)
  StageDiffers head (stages.Multi left) = HasLeft head (map (path_in head.folder) (files.Multi ∷ left))

  abbrev pub ListerDiffers : Lister → Type 0
  ListerDiffers lister = StageDiffers lister.head lister.stage

  abbrev pub StepDiffers : ListStep → Type 0
  StepDiffers (ends.More lister) = ListerDiffers lister
  StepDiffers (ends.Listed listing) = HasDifferentPaths listing.rows
  StepDiffers ends.Broken = Unit {0}
  StepDiffers (ends.TooManyPacks actual path) = Unit {0}

  -- ---- paths that stay apart

  less_ahead : (next : ℕ) (folder : Path) → IsAhead (next + 1) folder → IsAhead next folder
  less_ahead next folder ahead = let later = ahead.behind in record { at = ahead.at; behind = omega arith; is = ahead.is }

  IsApart-without : (own : Path) (next : ℕ) (front : List Path) (path : Path) (left : List Path) → IsApart own next (front ++ path ∷ left)
      → IsApart own next (front ++ left)
  IsApart-without own next front path left apart = record {
    differ = Differ-without front path left apart.differ;
    other = λ found folder name among ahead. apart.other found folder name (Contains-without front path left found among) ahead;
    elsewhere = apart.elsewhere;
  }

  -- the indices of a folder join the rows of those before it
  HasLeft-indices : (multi : Bool) (head : ListHead) (entries : List Entry) → IsNewHead head → HasLeft head (map (path_in head.folder) (index_paths multi head.folder entries))
  HasLeft-indices multi head entries known = record {
    differ =
        Differ-append (row_paths head.rows) (map (path_in head.folder) (index_paths multi head.folder entries)) known.apart.differ (index_paths_differ multi head.folder entries)
        (λ path index first later same.
        let of = index_paths_of_folder multi head.folder entries index later in
        known.new path of.name first (same ∙ of.is));
    other = λ path folder name among ahead same. elim (Contains-append_cases (row_paths head.rows) (map (path_in head.folder) (index_paths multi head.folder entries)) path among) [
      | inl first ↦ known.apart.other path folder name first ahead same
      | inr later ↦
          let of = index_paths_of_folder multi head.folder entries path later in
          known.apart.elsewhere folder ahead (push_same head.folder (pack_folder folder) of.name name (sym of.is ∙ same)).0
    ];
    elsewhere = known.apart.elsewhere;
  }

  -- an index has its row
  HasLeft-row : (head : ListHead) (row : ListingRow) (left : List Path) → HasLeft head (row.path ∷ left) → HasLeft (with_row head row) left
  HasLeft-row head row left apart =
      let same : row_paths head.rows ++ row.path ∷ left ≡ row_paths (head.rows ++ row ∷ []) ++ left =
      sym (append_assoc (row_paths head.rows) (row.path ∷ []) left)
      ∙ ap (λ (front : List Path). front ++ left) (sym (map-append (λ (r : ListingRow). r.path) head.rows (row ∷ []))) in
      subst (IsApart head.folder head.next) same apart

  -- ---- folders

  module _ (objects : Path) (distinct : IsDistinct same_path (objects ∷ store.folders)) where
    folders_differ : (i j : ℕ) (folder other : Path) → suc i ≤ j → slice_get (objects ∷ store.folders) i ≡ Some folder
        → slice_get (objects ∷ store.folders) j ≡ Some other → ¬ (pack_folder folder ≡ pack_folder other)
    folders_differ i j folder other before first later same =
        places_differ (objects ∷ store.folders) distinct i j folder other (omega arith) first later (push_same folder other _ _ same).0

    pub starts_apart : (base : ℕ) → ListerDiffers (started objects base)
    starts_apart base = record {
      apart = record {
        differ = tt;
        other = λ path folder name among ahead same. none_in path among;
        elsewhere = λ folder ahead. folders_differ zero (suc ahead.at) objects folder (omega arith) refl ahead.is;
      };
      new = λ path name among same. none_in path among;
    }

    behind_differs : (head : ListHead) → IsApart head.folder head.next (row_paths head.rows) → (next : Option Path) → slice_get store.folders head.next ≡ next
        → StepDiffers (behind_folder head next)
    behind_differs head apart None is = HasDifferentPaths-listed head.rows apart.differ
    behind_differs head apart (Some folder) is = record {
      apart = record {
        differ = apart.differ;
        other = λ path other name among ahead. apart.other path other name among (less_ahead head.next other ahead);
        elsewhere = λ other ahead.
            let later = ahead.behind in
            folders_differ (suc head.next) (suc ahead.at) folder other (omega arith) is ahead.is;
      };
      new = λ path name among. apart.other path folder name among (record { at = head.next; behind = omega arith; is = is });
    }

    paths_differ_on : (head : ListHead) (left : List IndexPath) → HasLeft head (map (path_in head.folder) left) → StepDiffers (at_paths store head left)
    paths_differ_on head [] apart =
        behind_differs head (subst (IsApart head.folder head.next) (append-nil (row_paths head.rows)) apart) (slice_get store.folders head.next) refl
    paths_differ_on head (files.Single path ∷ left) apart = apart
    paths_differ_on head (files.Multi ∷ left) apart = apart

    -- ---- answers

    module _ (head : ListHead) where
      opened_differs : IsNewHead head → (answer : DiskAnswer) → StepDiffers (opened store head answer)
      opened_differs known (answers.Dir dir) = known
      opened_differs known (answers.Refused disk_errors.Absent) = behind_differs head known.apart (slice_get store.folders head.next) refl
      opened_differs known answer = tt

      read_differs : IsNewHead head → (dir : ℕ) (entries : List Entry) (answer : DiskAnswer) → StepDiffers (read head dir entries answer)
      read_differs known dir entries (answers.Entry entry) = known
      read_differs known dir entries answers.End = known
      read_differs known dir entries answer = tt

      over : (path : Path) (left : List IndexPath) → HasLeft head (path ∷ map (path_in head.folder) left) → StepDiffers (at_paths store head left)
      over path left apart = paths_differ_on head left (IsApart-without head.folder head.next (row_paths head.rows) path (map (path_in head.folder) left) apart)

      kind_differs : (path : Path) (left : List IndexPath) (meta : Meta) → HasLeft head (path ∷ map (path_in head.folder) left) → (kind : Kind)
          → StepDiffers (by_kind store head path left meta kind)
      kind_differs path left meta apart kinds.File = apart
      kind_differs path left meta apart kind = over path left apart

      index_differs : (path : Path) (left : List IndexPath) → HasLeft head (path ∷ map (path_in head.folder) left) → (answer : DiskAnswer)
          → StepDiffers (by_index store head path left answer)
      index_differs path left apart (answers.Meta meta) = kind_differs path left meta apart meta.kind
      index_differs path left apart (answers.Refused disk_errors.Failed) = tt
      index_differs path left apart answer = over path left apart

      pack_kind_differs : (row : ListingRow) (left : List IndexPath) → HasLeft head (row.path ∷ map (path_in head.folder) left) → (kind : Kind)
          → StepDiffers (by_pack_kind store head row left kind)
      pack_kind_differs row left apart kinds.File = paths_differ_on (with_row head row) left (HasLeft-row head row (map (path_in head.folder) left) apart)
      pack_kind_differs row left apart kind = over row.path left apart

      pack_differs : (row : ListingRow) (left : List IndexPath) → HasLeft head (row.path ∷ map (path_in head.folder) left) → (answer : DiskAnswer)
          → StepDiffers (by_pack store head row left answer)
      pack_differs row left apart (answers.Meta meta) = pack_kind_differs row left apart meta.kind
      pack_differs row left apart (answers.Refused disk_errors.Failed) = tt
      pack_differs row left apart answer = over row.path left apart

      multi_differs : (left : List IndexPath) → HasLeft head (map (path_in head.folder) (files.Multi ∷ left)) → (answer : DiskAnswer)
          → StepDiffers (by_multi store head left answer)
      multi_differs left apart answer =
          multi_leads StepDiffers store head left answer
          (λ bytes time is usable. paths_differ_on (with_row head (multi_row (multi_index_path head.folder) bytes time)) left
          (HasLeft-row head (multi_row (multi_index_path head.folder) bytes time) (map (path_in head.folder) left) apart))
          (λ bytes time is multi many. tt) (over (multi_index_path head.folder) left apart) (λ is. tt)

      pub listing_differs : (stage : ListStage) → StageDiffers head stage → (answer : DiskAnswer) → StepDiffers (fed_at store head stage answer)
      listing_differs stages.Opening known answer = opened_differs known answer
      listing_differs (stages.Reading dir entries) known answer = read_differs known dir entries answer
      listing_differs (stages.Closing dir entries) known answer =
          paths_differ_on head (index_paths (is_some store.multi) head.folder entries) (HasLeft-indices (is_some store.multi) head entries known)
      listing_differs (stages.Breaking dir) known answer = tt
      listing_differs (stages.Index path left) apart answer = index_differs path left apart answer
      listing_differs (stages.Pack row left) apart answer = pack_differs row left apart answer
      listing_differs (stages.Multi left) apart answer = multi_differs left apart answer
