-- While one unchanging tree answers, the rows of a listing and those that are still to come are the tree's listed files.
use Rattle.std.proofs.Common.{◌≡◌, inl, inr, ℕ, ◌&&◌, ◌||◌, Bool, true, false, cond, List, [], ◌∷◌, ◌++◌, map, drop, nat_le, slice_get, Contains, is_some, Option, Some, None, Result, Ok, Err}
use Rattle.std.proofs.Common.{refl, sym, ap, ◌∙◌, subst, append_assoc, append-nil}
use Rattle.std.specs.List.{cons_option, filter, filter_map}
use Rattle.std.specs.Cmp.Lexicographic.{bytes_decides}
use Rattle.std.proofs.lemmas.Bool.{and_from, and_parts, cond-true, cond-false}
use Rattle.odb_base.specs.Path.{Name, Path}
use Rattle.odb_disk.specs.Ask.{answer_of, dir_answer, file_answer, meta_answer}
use Rattle.odb_disk.specs.declared.ask.DiskAnswer.{DiskAnswer}
use Rattle.odb_disk.specs.declared.ask.DiskAnswer.TheVariants as answers
use Rattle.odb_disk.specs.Entries.{opened as tree_opened}
use Rattle.odb_disk.specs.Tree.{Tree}
use Rattle.odb_disk.specs.Tree.Follow.{Refusal, looked, read_of}
use Rattle.odb_disk.specs.declared.disk_error.DiskError.TheVariants as disk_errors
use Rattle.odb_disk.specs.declared.entry.Entry.{Entry}
use Rattle.odb_disk.specs.declared.meta.Kind.{Kind}
use Rattle.odb_disk.specs.declared.meta.Kind.TheVariants as kinds
use Rattle.odb_disk.specs.declared.meta.Meta.{Meta}
use Rattle.gix_odb_events.specs.PackPath.{pack_path}
use Rattle.gix_odb_events.specs.declared.listing.ListingRow.{ListingRow}
use Rattle.gix_odb_search.specs.ListOrder.{ask_at, at_paths, behind_folder, by_index, by_kind, by_multi, by_pack, by_pack_kind, by_packs, fed_at, multi_row, opened, read}
use Rattle.gix_odb_search.specs.ListOrder.{row_of, started, with_row}
use Rattle.gix_odb_search.specs.LongestFirst.{longest_first}
use Rattle.gix_odb_search.specs.ListedStore.{ListedStore}
use Rattle.gix_odb_search.specs.MultiPack.{is_multi_index, is_usable, most_packs, packs_named, unnamed}
use Rattle.gix_odb_search.specs.PackFolder.{index_path_in, index_paths, is_file, is_index_entry, is_index_name, is_multi_index_name, multi_index_name}
use Rattle.gix_odb_search.specs.PackFolder.{multi_index_path, pack_folder, path_by}
use Rattle.gix_odb_search.specs.declared.folders.IndexPath.{IndexPath}
use Rattle.gix_odb_search.specs.declared.folders.IndexPath.TheVariants as paths
use Rattle.gix_odb_search.specs.declared.lister.ListHead.{ListHead}
use Rattle.gix_odb_search.specs.declared.lister.ListStage.{ListStage}
use Rattle.gix_odb_search.specs.declared.lister.ListStage.TheVariants as stages
use Rattle.gix_odb_search.specs.declared.lister.ListStep.{ListStep}
use Rattle.gix_odb_search.specs.declared.lister.ListStep.TheVariants as ends
use Rattle.gix_odb_search.specs.declared.multi_pack.MultiUse.{MultiUse}
use Rattle.gix_odb_search.proofs.ReachLemmas.{first_or_later, none_in}
use Rattle.gix_odb.specs.OpenStream.{GivesNext}
use Rattle.gix_odb.proofs.ListerLaws.Lists.{filter_map-map, has_first, has_later, kept_or_none}
use Rattle.gix_odb.proofs.MissLaws.Lists.{drop_here, drop_none, none_ahead}
use Rattle.gix_odb.proofs.StreamLaws.Directories.{listed_entry_is_looked_at}
use Rattle.gix_odb.specs.ListedFiles.{IsOfTree, IsOrFails, Opens, all_rows, finds_file, has_index_name, multi_at, multi_found, multi_where, row_at, row_found}
use Rattle.gix_odb.specs.ListedFiles.{row_of_file, row_where, rows_in, rows_opened}
use Rattle.gix_odb.proofs.ListingLaws.TreeNames.{opened_names_are_new}

module _ (tree : Tree) (store : ListedStore) where
  abbrev multi : Option MultiUse
  multi = store.multi

  abbrev rows_at : (packs : Path) → List IndexPath → List ListingRow
  rows_at packs files = filter_map (row_of_file tree multi packs) files

  -- a stat that finds no file gives no row
  no_file : (path : Path) (has_pack : Bool) (told : Result Meta Refusal) → finds_file told ≡ false → row_found path has_pack told ≡ None
  no_file path has_pack (Err refusal) other = refl
  no_file path has_pack (Ok meta) other = ap (λ (b : Bool). row_where (b && has_pack) (row_of path meta)) other

  -- ---- the indices of a folder

  module _ (packs : Path) (entries : List Entry) (opens : tree_opened tree packs ≡ Ok entries) where
    abbrev path_of : Entry → Path
    path_of entry = packs ++ entry.name ∷ []

    abbrev row_for : Entry → Option ListingRow
    row_for entry = row_of_file tree multi packs (index_path_in packs entry)

    -- an entry is by its stat a file or none
    kind_by_stat : (entry : Entry) → Contains entries entry → finds_file (looked tree (path_of entry) false) ≡ is_file entry.kind
    kind_by_stat entry among =
        let found = listed_entry_is_looked_at tree packs entry (record { entries = entries; opens = opens; among = among }) in
        ap finds_file found.1 ∙ ap is_file found.2

    multi_named : (entry : Entry) → (is_some multi && is_multi_index_name entry.name) ≡ true → path_of entry ≡ multi_index_path packs
    multi_named entry named =
        ap (λ (name : Name). packs ++ name ∷ []) ((bytes_decides entry.name multi_index_name).0 (and_parts (is_some multi) (is_multi_index_name entry.name) named).1)

    -- one that is no file has no row
    by_name : (entry : Entry) → finds_file (looked tree (path_of entry) false) ≡ false → (index : Bool)
        → (index || (is_some multi && is_multi_index_name entry.name)) ≡ true → row_of_file tree multi packs (path_by index packs entry.name) ≡ None
    by_name entry other true named = no_file (path_of entry) (finds_file (looked tree (pack_path (path_of entry)) true)) (looked tree (path_of entry) false) other
    by_name entry other false named =
        let path = multi_index_path packs in
        ap (λ (b : Bool). multi_where b (multi_found multi path (read_of tree path)))
        (ap (λ (own : Path). finds_file (looked tree own false)) (sym (multi_named entry named)) ∙ other)

    no_row : (entry : Entry) → Contains entries entry → is_file entry.kind ≡ false → has_index_name (is_some multi) entry ≡ true → row_for entry ≡ None
    no_row entry among other named = by_name entry (kind_by_stat entry among ∙ other) (is_index_name entry.name) named

    -- the multi-pack index among the paths of the entries is itself a file
    multi_is_file : (entry : Entry) → Contains entries entry → is_index_entry (is_some multi) entry ≡ true → (index : Bool) → is_index_name entry.name ≡ index
        → path_by index packs entry.name ≡ paths.Multi → finds_file (looked tree (multi_index_path packs) false) ≡ true
    multi_is_file entry among indexed true is at = absurd (cc at)
    multi_is_file entry among indexed false is at =
        let parts = and_parts (is_file entry.kind) (is_index_name entry.name || (is_some multi && is_multi_index_name entry.name)) indexed in
        let named : (is_some multi && is_multi_index_name entry.name) ≡ true =
        ap (λ (b : Bool). b || (is_some multi && is_multi_index_name entry.name)) (sym is) ∙ parts.1 in
        ap (λ (own : Path). finds_file (looked tree own false)) (sym (multi_named entry named)) ∙ kind_by_stat entry among ∙ parts.0

  -- ---- lists

  -- the paths of the indices among entries of different names
  abbrev named_paths : (packs : Path) → List Entry → List IndexPath
  named_paths packs entries = map (index_path_in packs) (filter (is_index_entry (is_some multi)) entries)

  entries_kept : (h : Entry → Option ListingRow) (entries : List Entry)
      → ((entry : Entry) → Contains entries entry → is_file entry.kind ≡ false → has_index_name (is_some multi) entry ≡ true → h entry ≡ None)
      → filter_map h (filter (is_index_entry (is_some multi)) entries) ≡ filter_map h (filter (has_index_name (is_some multi)) entries)
  entries_kept h [] none = refl
  entries_kept h (entry ∷ entries) none =
      kept_or_none h entry (filter (is_index_entry (is_some multi)) entries) (filter (has_index_name (is_some multi)) entries)
      (entries_kept h entries (λ other among. none other (has_later entry entries other among)))
      (is_file entry.kind) (has_index_name (is_some multi) entry) (none entry (has_first entry entries))

  indices_have_rows : (packs : Path) (entries : List Entry) → tree_opened tree packs ≡ Ok entries
      → rows_at packs (index_paths (is_some multi) packs entries) ≡ rows_in tree multi packs
  indices_have_rows packs entries opens =
      ap (λ (es : List Entry). rows_at packs (named_paths packs es)) (opened_names_are_new tree packs entries opens)
      ∙ filter_map-map (row_of_file tree multi packs) (index_path_in packs) (filter (is_index_entry (is_some multi)) entries)
      ∙ entries_kept (row_for packs entries opens) entries (no_row packs entries opens)
      ∙ ap (rows_opened tree multi packs) (sym opens)

  -- a path among those of the entries is that of an entry
  abbrev IsOfEntry : (packs : Path) → List Entry → IndexPath → Type 0
  IsOfEntry packs entries path =
      (entry : Entry) × Contains entries entry × (is_index_entry (is_some multi) entry ≡ true) × (index_path_in packs entry ≡ path)

  of_later : (packs : Path) (entry : Entry) (entries : List Entry) (path : IndexPath) → IsOfEntry packs entries path → IsOfEntry packs (entry ∷ entries) path
  of_later packs entry entries path found = (found.0, has_later entry entries found.0 found.1, found.2, found.3)

  of_first : (packs : Path) (entry : Entry) (entries : List Entry) (path : IndexPath)
      → (Contains (named_paths packs entries) path → IsOfEntry packs entries path)
      → (indexed : Bool) → is_index_entry (is_some multi) entry ≡ indexed
      → Contains (map (index_path_in packs) (cond indexed (entry ∷ filter (is_index_entry (is_some multi)) entries) (filter (is_index_entry (is_some multi)) entries))) path
      → IsOfEntry packs (entry ∷ entries) path
  of_first packs entry entries path more true is has =
      elim (first_or_later (index_path_in packs entry) (named_paths packs entries) path has) [
        | inl same ↦ (entry, has_first entry entries, is, same)
        | inr later ↦ of_later packs entry entries path (more later)
      ]
  of_first packs entry entries path more false is has = of_later packs entry entries path (more has)

  path_is_of : (packs : Path) (entries : List Entry) (path : IndexPath) → Contains (named_paths packs entries) path → IsOfEntry packs entries path
  path_is_of packs [] path among = absurd (none_in path among)
  path_is_of packs (entry ∷ entries) path among =
      of_first packs entry entries path (path_is_of packs entries path) (is_index_entry (is_some multi) entry) refl among

  -- the multi-pack index of a folder is itself a file, if it is among paths
  abbrev IsFileIfAmong : (packs : Path) → List IndexPath → Type 0
  IsFileIfAmong packs left = Contains left paths.Multi → finds_file (looked tree (multi_index_path packs) false) ≡ true

  indices_are_files : (packs : Path) (entries : List Entry) → tree_opened tree packs ≡ Ok entries → IsFileIfAmong packs (index_paths (is_some multi) packs entries)
  indices_are_files packs entries opens among =
      let found =
      path_is_of packs entries paths.Multi
      (subst (λ (es : List Entry). Contains (named_paths packs es) paths.Multi) (opened_names_are_new tree packs entries opens) among) in
      multi_is_file packs entries opens found.0 found.1 found.2 (is_index_name found.0.name) refl found.3

  -- ---- what is known of a listing

  module _ (total : List ListingRow) where
    -- the rows so far, those of this part, and those of the pending folders are all
    abbrev Adds : ListHead → List ListingRow → Type 0
    Adds head part = head.rows ++ (part ++ all_rows tree multi (drop head.next store.folders)) ≡ total

    -- the row of an index that is itself a file, if its pack is one
    abbrev row_if_pack : ListingRow → Option ListingRow
    row_if_pack row = row_where (finds_file (looked tree (pack_path row.path) true)) row

    abbrev pub ListsStage : (coming : List Entry) → ListHead → ListStage → Type 0
    ListsStage coming head stages.Opening = Adds head (rows_in tree multi head.folder)
    ListsStage coming head (stages.Reading dir entries) =
        (tree_opened tree head.folder ≡ Ok (entries ++ coming)) × Adds head (rows_in tree multi head.folder)
    ListsStage coming head (stages.Closing dir entries) = (tree_opened tree head.folder ≡ Ok entries) × Adds head (rows_in tree multi head.folder)
    ListsStage coming head (stages.Breaking dir) = Unit {0}
    ListsStage coming head (stages.Index path left) = Adds head (rows_at head.folder (paths.Single path ∷ left)) × IsFileIfAmong head.folder left
    ListsStage coming head (stages.Pack row left) = Adds head (cons_option (row_if_pack row) (rows_at head.folder left)) × IsFileIfAmong head.folder left
    ListsStage coming head (stages.Multi left) =
        Adds head (rows_at head.folder (paths.Multi ∷ left)) × IsFileIfAmong head.folder (paths.Multi ∷ left)

    -- at the end no index is left that a multi-pack index names
    abbrev pub ListsStep : (coming : List Entry) → ListStep → Type 0
    ListsStep coming (ends.More lister) = ListsStage coming lister.head lister.stage
    ListsStep coming (ends.Listed listing) = listing.rows ≡ longest_first (unnamed total)
    ListsStep coming ends.Broken = Unit {0}
    ListsStep coming (ends.TooManyPacks actual path) = Unit {0}

    -- ---- folders and paths

    behind_lists : (coming : List Entry) (head : ListHead) → Adds head [] → (next : Option Path) → slice_get store.folders head.next ≡ next
        → ListsStep coming (behind_folder head next)
    behind_lists coming head adds None is =
        ap (λ (rows : List ListingRow). longest_first (unnamed rows))
        (sym (append-nil head.rows) ∙ ap (λ (ahead : List Path). head.rows ++ all_rows tree multi ahead) (sym (none_ahead store.folders head.next is)) ∙ adds)
    behind_lists coming head adds (Some folder) is =
        ap (λ (ahead : List Path). head.rows ++ all_rows tree multi ahead) (sym (drop_here store.folders head.next folder is)) ∙ adds

    paths_list : (coming : List Entry) (head : ListHead) (left : List IndexPath) → Adds head (rows_at head.folder left) → IsFileIfAmong head.folder left
        → ListsStep coming (at_paths store head left)
    paths_list coming head [] adds file = behind_lists coming head adds (slice_get store.folders head.next) refl
    paths_list coming head (paths.Single path ∷ left) adds file = (adds, λ among. file (has_later (paths.Single path) left paths.Multi among))
    paths_list coming head (paths.Multi ∷ left) adds file = (adds, file)

    -- ---- answers

    module _ (head : ListHead) where
      none_opened : (packs : Path) (told : Result (List Entry) Refusal) → answers.Refused disk_errors.Absent ≡ dir_answer 0 told
          → rows_opened tree multi packs told ≡ []
      none_opened packs (Ok entries) is = absurd (cc is)
      none_opened packs (Err refusal) is = refl

      open_lists : (answer : DiskAnswer) (left : List Entry) → Opens (tree_opened tree head.folder) answer left → Adds head (rows_in tree multi head.folder)
          → ListsStep left (opened store head answer)
      open_lists (answers.Dir dir) left opens adds = (opens, adds)
      open_lists (answers.Refused disk_errors.Absent) left opens adds =
          behind_lists left head
          (ap (λ (rows : List ListingRow). head.rows ++ (rows ++ all_rows tree multi (drop head.next store.folders)))
          (sym (none_opened head.folder (tree_opened tree head.folder) opens))
          ∙ adds)
          (slice_get store.folders head.next) refl
      open_lists answer left opens adds = tt

      read_lists : (coming : List Entry) (dir : ℕ) (entries : List Entry) → tree_opened tree head.folder ≡ Ok (entries ++ coming)
          → Adds head (rows_in tree multi head.folder) → (answer : DiskAnswer) (left : List Entry) → GivesNext coming answer left
          → ListsStep left (read head dir entries answer)
      read_lists coming dir entries opens adds (answers.Entry entry) left gives =
          (opens ∙ ap (λ (more : List Entry). Ok (entries ++ more)) gives ∙ ap Ok (sym (append_assoc entries (entry ∷ []) left)), adds)
      read_lists coming dir entries opens adds answers.End left gives =
          (opens ∙ ap (λ (more : List Entry). Ok (entries ++ more)) gives.0 ∙ ap Ok (append-nil entries), adds)
      read_lists coming dir entries opens adds answer left gives = tt

      -- the rows of a part that begins with that of a file, if it has one
      abbrev AddsOwn : Option ListingRow → List IndexPath → Type 0
      AddsOwn own left = Adds head (cons_option own (rows_at head.folder left))

      same_own : (own other : Option ListingRow) (left : List IndexPath) → own ≡ other → AddsOwn own left → AddsOwn other left
      same_own own other left is adds = subst (λ (o : Option ListingRow). AddsOwn o left) is adds

      -- a file that has no row
      over : (coming : List Entry) (own : Option ListingRow) (left : List IndexPath) → own ≡ None → AddsOwn own left → IsFileIfAmong head.folder left
          → ListsStep coming (at_paths store head left)
      over coming own left none adds file = paths_list coming head left (same_own own None left none adds) file

      -- a file that has one
      with_row_lists : (coming : List Entry) (row : ListingRow) (left : List IndexPath) → AddsOwn (Some row) left → IsFileIfAmong head.folder left
          → ListsStep coming (at_paths store (with_row head row) left)
      with_row_lists coming row left adds file =
          paths_list coming (with_row head row) left
          (append_assoc head.rows (row ∷ []) (rows_at head.folder left ++ all_rows tree multi (drop head.next store.folders)) ∙ adds) file

      abbrev IsNoMeta : DiskAnswer → Type 0
      IsNoMeta (answers.Meta meta) = ⊥
      IsNoMeta answer = Unit {0}

      no_meta : (path : Path) (has_pack : Bool) (answer : DiskAnswer) → IsNoMeta answer → (told : Result Meta Refusal) → answer ≡ meta_answer told
          → row_found path has_pack told ≡ None
      no_meta path has_pack answer other (Ok meta) is = absurd (subst IsNoMeta is other)
      no_meta path has_pack answer other (Err refusal) is = refl

      no_pack : (row : ListingRow) (answer : DiskAnswer) → IsNoMeta answer → (told : Result Meta Refusal) → answer ≡ meta_answer told
          → row_where (finds_file told) row ≡ None
      no_pack row answer other (Ok meta) is = absurd (subst IsNoMeta is other)
      no_pack row answer other (Err refusal) is = refl

      same_meta : (meta : Meta) (told : Result Meta Refusal) → answers.Meta meta ≡ meta_answer told → told ≡ Ok meta
      same_meta meta (Ok own) is = let same : meta ≡ own = cc is in ap Ok (sym same)
      same_meta meta (Err refusal) is = absurd (cc is)

      -- the index is a file or not
      kind_lists : (coming : List Entry) (path : Path) (left : List IndexPath) (meta : Meta) → looked tree path false ≡ Ok meta
          → AddsOwn (row_at tree path) left → IsFileIfAmong head.folder left
          → (kind : Kind) → meta.kind ≡ kind → ListsStep coming (by_kind store head path left meta kind)
      kind_lists coming path left meta looks adds file kind is = by kind is
        where
          has_pack : Bool
          has_pack = finds_file (looked tree (pack_path path) true)

          row_is : (k : Kind) → meta.kind ≡ k → row_at tree path ≡ row_where (is_file k && has_pack) (row_of path meta)
          row_is k same = ap (row_found path has_pack) looks ∙ ap (λ (own : Kind). row_where (is_file own && has_pack) (row_of path meta)) same

          by : (k : Kind) → meta.kind ≡ k → ListsStep coming (by_kind store head path left meta k)
          by kinds.File same = (same_own (row_at tree path) (row_where has_pack (row_of path meta)) left (row_is kinds.File same) adds, file)
          by kinds.Dir same = over coming (row_at tree path) left (row_is kinds.Dir same) adds file
          by kinds.Link same = over coming (row_at tree path) left (row_is kinds.Link same) adds file

      index_lists : (coming : List Entry) (path : Path) (left : List IndexPath) → AddsOwn (row_at tree path) left → IsFileIfAmong head.folder left
          → (answer : DiskAnswer) → IsOrFails answer (meta_answer (looked tree path false)) → ListsStep coming (by_index store head path left answer)
      index_lists coming path left adds file (answers.Meta meta) of =
          kind_lists coming path left meta (same_meta meta (looked tree path false) of) adds file meta.kind refl
      index_lists coming path left adds file (answers.Refused disk_errors.Failed) of = tt
      index_lists coming path left adds file answer of =
          over coming (row_at tree path) left (no_meta path (finds_file (looked tree (pack_path path) true)) answer tt (looked tree path false) of) adds file

      -- the pack is a file or not
      pack_kind_lists : (coming : List Entry) (row : ListingRow) (left : List IndexPath) (meta : Meta) → looked tree (pack_path row.path) true ≡ Ok meta
          → AddsOwn (row_if_pack row) left → IsFileIfAmong head.folder left → (kind : Kind) → meta.kind ≡ kind
          → ListsStep coming (by_pack_kind store head row left kind)
      pack_kind_lists coming row left meta looks adds file kind is = by kind is
        where
          row_is : (k : Kind) → meta.kind ≡ k → row_if_pack row ≡ row_where (is_file k) row
          row_is k same =
              ap (λ (told : Result Meta Refusal). row_where (finds_file told) row) looks ∙ ap (λ (own : Kind). row_where (is_file own) row) same

          by : (k : Kind) → meta.kind ≡ k → ListsStep coming (by_pack_kind store head row left k)
          by kinds.File same = with_row_lists coming row left (same_own (row_if_pack row) (Some row) left (row_is kinds.File same) adds) file
          by kinds.Dir same = over coming (row_if_pack row) left (row_is kinds.Dir same) adds file
          by kinds.Link same = over coming (row_if_pack row) left (row_is kinds.Link same) adds file

      pack_lists : (coming : List Entry) (row : ListingRow) (left : List IndexPath) → AddsOwn (row_if_pack row) left → IsFileIfAmong head.folder left
          → (answer : DiskAnswer) → IsOrFails answer (meta_answer (looked tree (pack_path row.path) true))
          → ListsStep coming (by_pack store head row left answer)
      pack_lists coming row left adds file (answers.Meta meta) of =
          pack_kind_lists coming row left meta (same_meta meta (looked tree (pack_path row.path) true) of) adds file meta.kind refl
      pack_lists coming row left adds file (answers.Refused disk_errors.Failed) of = tt
      pack_lists coming row left adds file answer of =
          over coming (row_if_pack row) left (no_pack row answer tt (looked tree (pack_path row.path) true) of) adds file

      -- ---- the multi-pack index

      abbrev path_read : Path
      path_read = multi_index_path head.folder

      -- what was read of it is its content
      same_file : (bytes : List ℕ) (time : ℕ) (told : Result (List ℕ × ℕ) Refusal) → answers.File bytes time ≡ file_answer told → told ≡ Ok (bytes, time)
      same_file bytes time (Ok (own, at)) is = let one : own ≡ bytes = cc is in let other : at ≡ time = cc is in λ i. Ok (one i, other i)
      same_file bytes time (Err refusal) is = absurd (cc is)

      -- the row that it has by its content
      multi_row_is : (told : Result (List ℕ × ℕ) Refusal) → read_of tree path_read ≡ told → finds_file (looked tree path_read false) ≡ true
          → multi_at tree multi path_read ≡ multi_found multi path_read told
      multi_row_is told is itself =
          ap (λ (b : Bool). multi_where b (multi_found multi path_read (read_of tree path_read))) itself ∙ ap (multi_found multi path_read) is

      abbrev IsNoFile : DiskAnswer → Type 0
      IsNoFile (answers.File bytes time) = ⊥
      IsNoFile answer = Unit {0}

      nothing_read : (answer : DiskAnswer) → IsNoFile answer → (told : Result (List ℕ × ℕ) Refusal) → answer ≡ file_answer told
          → multi_found multi path_read told ≡ None
      nothing_read answer other (Ok (bytes, time)) is = absurd (subst IsNoFile is other)
      nothing_read answer other (Err refusal) is = refl

      module _ (coming : List Entry) (left : List IndexPath) (adds : AddsOwn (multi_at tree multi path_read) left)
          (file : IsFileIfAmong head.folder (paths.Multi ∷ left)) where
        itself : finds_file (looked tree path_read false) ≡ true
        itself = file (has_first paths.Multi left)

        later : IsFileIfAmong head.folder left
        later among = file (has_later paths.Multi left paths.Multi among)

        without : multi_at tree multi path_read ≡ None → ListsStep coming (at_paths store head left)
        without none = over coming (multi_at tree multi path_read) left none adds later

        bytes_list : (bytes : List ℕ) (time : ℕ) → read_of tree path_read ≡ Ok (bytes, time) → (read few : Bool) → is_multi_index multi bytes ≡ read
            → nat_le (packs_named bytes) most_packs ≡ few
            → ListsStep coming (cond read (by_packs store head (multi_row path_read bytes time) left (packs_named bytes)) (at_paths store head left))
        bytes_list bytes time is true true read few =
            let usable : is_usable multi bytes ≡ true = and_from (is_multi_index multi bytes) (nat_le (packs_named bytes) most_packs) read few in
            subst (ListsStep coming)
            (sym (cond-true (nat_le (packs_named bytes) most_packs) (at_paths store (with_row head (multi_row path_read bytes time)) left)
            (ends.TooManyPacks (packs_named bytes) path_read) few))
            (with_row_lists coming (multi_row path_read bytes time) left
            (same_own (multi_at tree multi path_read) (Some (multi_row path_read bytes time)) left
            (multi_row_is (Ok (bytes, time)) is itself ∙ ap (λ (b : Bool). row_where b (multi_row path_read bytes time)) usable) adds) later)
        bytes_list bytes time is true false read few =
            subst (ListsStep coming)
            (sym (cond-false (nat_le (packs_named bytes) most_packs) (at_paths store (with_row head (multi_row path_read bytes time)) left)
            (ends.TooManyPacks (packs_named bytes) path_read) few))
            tt
        bytes_list bytes time is false few read few_is =
            without
            (multi_row_is (Ok (bytes, time)) is itself
            ∙ ap (λ (b : Bool). row_where (b && nat_le (packs_named bytes) most_packs) (multi_row path_read bytes time)) read)

        multi_lists : (answer : DiskAnswer) → IsOrFails answer (file_answer (read_of tree path_read)) → ListsStep coming (by_multi store head left answer)
        multi_lists (answers.File bytes time) of =
            bytes_list bytes time (same_file bytes time (read_of tree path_read) of) (is_multi_index multi bytes) (nat_le (packs_named bytes) most_packs) refl refl
        multi_lists (answers.Refused disk_errors.Failed) of = tt
        multi_lists answer of = without (multi_row_is (read_of tree path_read) refl itself ∙ nothing_read answer tt (read_of tree path_read) of)

      pub listing_lists : (coming : List Entry) (stage : ListStage) → ListsStage coming head stage → (answer : DiskAnswer) (left : List Entry)
          → IsOfTree tree coming (ask_at head.folder stage) answer left → ListsStep left (fed_at store head stage answer)
      unfolding answer_of
      listing_lists coming stages.Opening adds answer left of = open_lists answer left of adds
      listing_lists coming (stages.Reading dir entries) lists answer left of = read_lists coming dir entries lists.0 lists.1 answer left of
      listing_lists coming (stages.Closing dir entries) lists answer left of =
          paths_list left head (index_paths (is_some multi) head.folder entries)
          (ap (λ (rows : List ListingRow). head.rows ++ (rows ++ all_rows tree multi (drop head.next store.folders))) (indices_have_rows head.folder entries lists.0)
          ∙ lists.1)
          (indices_are_files head.folder entries lists.0)
      listing_lists coming (stages.Breaking dir) lists answer left of = tt
      listing_lists coming (stages.Index path rest) lists answer left of = index_lists left path rest lists.0 lists.1 answer of.0
      listing_lists coming (stages.Pack row rest) lists answer left of = pack_lists left row rest lists.0 lists.1 answer of.0
      listing_lists coming (stages.Multi rest) lists answer left of = multi_lists left rest lists.0 lists.1 answer of.0

  pub starts_listing : (objects : Path) (base : ℕ) (coming : List Entry)
      → ListsStage (all_rows tree multi (objects ∷ store.folders)) coming (started objects base).head (started objects base).stage
  starts_listing objects base coming =
      ap (λ (ahead : List Path). rows_in tree multi (pack_folder objects) ++ all_rows tree multi ahead) (drop_none store.folders)
