-- How many turns a listing of the folders of packs takes.
use Rattle.std.proofs.Common.{◌≡◌, ℕ, suc, ◌+◌, ◌-◌, ◌*◌, ◌≤◌, ◌<◌, Bool, true, false, List}
use Rattle.std.proofs.Common.{[], ◌∷◌, length, cond, slice_get, Option, Some, None, is_some, refl, arith, length-append}
use Rattle.std.proofs.Math.Nat.{mul-le-mul_right}
use Rattle.std.specs.List.{filter, list_any}
use Rattle.std.proofs.lemmas.List.{length-map}
use Rattle.std.proofs.lemmas.Option.{slice_get_within}
use Rattle.odb_base.specs.Path.{Name, Path, same_name}
use Rattle.odb_disk.specs.declared.ask.DiskAnswer.{DiskAnswer}
use Rattle.odb_disk.specs.declared.ask.DiskAnswer.TheVariants as answers
use Rattle.odb_disk.specs.declared.disk_error.DiskError.TheVariants as disk_errors
use Rattle.odb_disk.specs.declared.entry.Entry.{Entry}
use Rattle.odb_disk.specs.declared.meta.Kind.{Kind}
use Rattle.odb_disk.specs.declared.meta.Kind.TheVariants as kinds
use Rattle.odb_disk.specs.declared.meta.Meta.{Meta}
use Rattle.gix_odb_events.specs.declared.listing.ListingRow.{ListingRow}
use Rattle.gix_odb_search.specs.ListOrder.{ask_at, at_paths, behind_folder, by_index, by_kind, by_multi, by_pack, by_pack_kind, fed, fed_at, multi_row, opened, read}
use Rattle.gix_odb_search.specs.ListOrder.{with_row}
use Rattle.gix_odb_search.specs.PackFolder.{firsts, firsts_without, index_path_in, index_paths, is_index_entry, multi_index_path}
use Rattle.gix_odb_events.specs.declared.answer.Answer.TheVariants as told
use Rattle.gix_odb_events.specs.declared.answer.Ask.TheVariants as asks
use Rattle.gix_odb_search.specs.declared.lister.ListHead.{ListHead}
use Rattle.gix_odb_search.specs.declared.lister.ListStage.{ListStage}
use Rattle.gix_odb_search.specs.declared.lister.ListStage.TheVariants as stages
use Rattle.gix_odb_search.specs.declared.lister.ListStep.{ListStep}
use Rattle.gix_odb_search.specs.declared.lister.ListStep.TheVariants as ends
use Rattle.gix_odb_search.specs.declared.lister.Lister.{Lister}
use Rattle.gix_odb.specs.Lap.{HasAtMost}
use Rattle.gix_odb.specs.Stream.{Stream, opens, stream_by}
use Rattle.gix_odb_search.specs.ListedStore.{ListedStore}
use Rattle.gix_odb_search.specs.declared.folders.IndexPath.{IndexPath}
use Rattle.gix_odb_search.specs.declared.folders.IndexPath.TheVariants as files
use Rattle.gix_odb_search.proofs.MultiReadLaws.{multi_leads}

-- ---- the indices of a folder are at most as many as its entries

filtered : (entry : Entry) (passes : Bool) (kept : List Entry) (all : ℕ) → length kept ≤ all → length (cond passes (entry ∷ kept) kept) ≤ suc all
filtered entry true kept all few = omega arith
filtered entry false kept all few = omega arith

length-filter_entries : (test : Entry → Bool) (entries : List Entry) → length (filter test entries) ≤ length entries
length-filter_entries test [] = omega arith
length-filter_entries test (entry ∷ entries) = filtered entry (test entry) (filter test entries) (length entries) (length-filter_entries test entries)

first_or_not : (entry : Entry) (known : Bool) (others news : List Entry) (all : ℕ) → length others ≤ all → length news ≤ all
    → length (cond known others (entry ∷ news)) ≤ suc all
first_or_not entry true others news all few_others few_news = omega arith
first_or_not entry false others news all few_others few_news = omega arith

length-firsts_without : (names : List Name) (entries : List Entry) → length (firsts_without names entries) ≤ length entries
length-firsts_without names [] = omega arith
length-firsts_without names (entry ∷ entries) =
    first_or_not entry (list_any (same_name entry.name) names) (firsts_without names entries) (firsts_without (entry.name ∷ names) entries) (length entries)
    (length-firsts_without names entries)
    (length-firsts_without (entry.name ∷ names) entries)

length-index_paths : (multi : Bool) (folder : Path) (entries : List Entry) → length (index_paths multi folder entries) ≤ length entries
length-index_paths multi folder entries =
    omega (
      arith,
      length-map (filter (is_index_entry multi) (firsts entries)) (index_path_in folder),
      length-filter_entries (is_index_entry multi) (firsts entries),
      length-firsts_without [] entries,
    )

module _ (store : ListedStore) (entries : ℕ) where
  -- a folder is opened, its entries and its end are read, it is closed, and each index and its pack are statted, or the multi-pack index read
  abbrev pub folder_turns : ℕ
  folder_turns = 3 * entries + 3

  -- those of the folders that come next
  abbrev pub further : (next : ℕ) → ℕ
  further next = (length store.folders - next) * folder_turns

  abbrev stage_turns : ListStage → ℕ
  stage_turns stages.Opening = folder_turns
  stage_turns (stages.Reading dir found) = (entries - length found) + 2 * entries + 2
  stage_turns (stages.Closing dir found) = 2 * length found + 1
  stage_turns (stages.Breaking dir) = 1
  stage_turns (stages.Index path left) = 2 * length left + 2
  stage_turns (stages.Pack row left) = 2 * length left + 1
  stage_turns (stages.Multi left) = 2 * length left + 1

  abbrev pub lister_turns : Lister → ℕ
  lister_turns lister = stage_turns lister.stage + further lister.head.next

  -- a listing has at most as many entries as its stream gave, and as a folder has
  abbrev HasGiven : Option Stream → List Entry → Type 0
  HasGiven None found = ⊥
  HasGiven (Some stream) found = (length found ≤ length stream.entries) × (length found ≤ entries)

  abbrev IsCountedAt : Option Stream → ListStage → Type 0
  IsCountedAt stream (stages.Reading dir found) = HasGiven stream found
  IsCountedAt stream stage = Unit {0}

  abbrev pub IsCounted : Option Stream → Lister → Type 0
  IsCounted stream lister = IsCountedAt stream lister.stage

  -- where the listing goes on, it takes at most so many turns
  abbrev pub ListsFor : (turns : ℕ) (stream : Option Stream) → ListStep → Type 0
  ListsFor turns stream (ends.More lister) = IsCounted stream lister × (lister_turns lister ≤ turns)
  ListsFor turns stream step = Unit {0}

  some_turns : (stage : ListStage) → 0 < stage_turns stage
  some_turns stages.Opening = omega arith
  some_turns (stages.Reading dir found) = omega arith
  some_turns (stages.Closing dir found) = omega arith
  some_turns (stages.Breaking dir) = omega arith
  some_turns (stages.Index path left) = omega arith
  some_turns (stages.Pack row left) = omega arith
  some_turns (stages.Multi left) = omega arith

  pub lister_turns-pos : (lister : Lister) → 0 < lister_turns lister
  lister_turns-pos lister = omega (arith, some_turns lister.stage)

  -- ---- what a listing does next

  one_further : (next : ℕ) → next < length store.folders → folder_turns + further (next + 1) ≤ further next
  one_further next within =
      let fewer : 1 + (length store.folders - (next + 1)) ≤ length store.folders - next = omega arith in
      let more : (1 + (length store.folders - (next + 1))) * folder_turns ≤ (length store.folders - next) * folder_turns = mul-le-mul_right folder_turns fewer in
      omega (arith, more)

  module _ (turns : ℕ) (stream : Option Stream) (head : ListHead) where
    folder_lists : (next : Option Path) → slice_get store.folders head.next ≡ next → further head.next ≤ turns → ListsFor turns stream (behind_folder head next)
    folder_lists None is room = tt
    folder_lists (Some folder) is room = (tt, omega (arith, one_further head.next (slice_get_within store.folders head.next folder is)))

    next_lists : further head.next ≤ turns → ListsFor turns stream (behind_folder head (slice_get store.folders head.next))
    next_lists room = folder_lists (slice_get store.folders head.next) refl room

    paths_list : (paths : List IndexPath) → 2 * length paths + further head.next ≤ turns → ListsFor turns stream (at_paths store head paths)
    paths_list [] room = next_lists (omega arith)
    paths_list (files.Single path ∷ left) room = (tt, omega arith)
    paths_list (files.Multi ∷ left) room = (tt, omega arith)

    kind_lists : (path : Path) (left : List IndexPath) (meta : Meta) (kind : Kind) → (2 * length left + 1) + further head.next ≤ turns
        → ListsFor turns stream (by_kind store head path left meta kind)
    kind_lists path left meta kinds.File room = (tt, room)
    kind_lists path left meta kind room = paths_list left (omega arith)

    index_lists : (path : Path) (left : List IndexPath) (answer : DiskAnswer) → (2 * length left + 1) + further head.next ≤ turns
        → ListsFor turns stream (by_index store head path left answer)
    index_lists path left (answers.Meta meta) room = kind_lists path left meta meta.kind room
    index_lists path left (answers.Refused disk_errors.Failed) room = tt
    index_lists path left answer room = paths_list left (omega arith)

  module _ (turns : ℕ) (stream : Option Stream) (head : ListHead) where
    pack_kind_lists : (row : ListingRow) (left : List IndexPath) (kind : Kind) → 2 * length left + further head.next ≤ turns
        → ListsFor turns stream (by_pack_kind store head row left kind)
    pack_kind_lists row left kinds.File room = paths_list turns stream (with_row head row) left room
    pack_kind_lists row left kind room = paths_list turns stream head left room

    pack_lists : (row : ListingRow) (left : List IndexPath) (answer : DiskAnswer) → 2 * length left + further head.next ≤ turns
        → ListsFor turns stream (by_pack store head row left answer)
    pack_lists row left (answers.Meta meta) room = pack_kind_lists row left meta.kind room
    pack_lists row left (answers.Refused disk_errors.Failed) room = tt
    pack_lists row left answer room = paths_list turns stream head left room

    multi_lists : (left : List IndexPath) (answer : DiskAnswer) → 2 * length left + further head.next ≤ turns
        → ListsFor turns stream (by_multi store head left answer)
    multi_lists left answer room =
        multi_leads (ListsFor turns stream) store head left answer
        (λ bytes time is usable. paths_list turns stream (with_row head (multi_row (multi_index_path head.folder) bytes time)) left room)
        (λ bytes time is multi many. tt) (paths_list turns stream head left room) (λ is. tt)

  -- ---- one turn

  -- the stream after the answer
  abbrev counted : Option Stream → ListHead → ListStage → DiskAnswer → Option Stream
  counted stream head stage answer = stream_by stream (asks.Disk (ask_at head.folder stage)) (told.Disk answer)

  open_lists : (turns : ℕ) (head : ListHead) (answer : DiskAnswer) → (3 * entries + 2) + further head.next ≤ turns
      → ListsFor turns (opens head.folder answer) (opened store head answer)
  open_lists turns head (answers.Dir dir) room = ((omega arith, omega arith), omega arith)
  open_lists turns head (answers.Refused disk_errors.Absent) room = next_lists turns None head (omega arith)
  open_lists turns head answer room = tt

  read_lists : (turns : ℕ) (stream : Option Stream) (head : ListHead) (dir : ℕ) (found : List Entry) (answer : DiskAnswer)
      → HasGiven stream found
      → HasAtMost entries (counted stream head (stages.Reading dir found) answer)
      → stage_turns (stages.Reading dir found) + further head.next ≤ turns + 1
      → ListsFor turns (counted stream head (stages.Reading dir found) answer) (read head dir found answer)
  read_lists turns None head dir found answer few fits room = absurd few
  read_lists turns (Some stream) head dir found (answers.Entry entry) few fits room =
      let more = length-append found (entry ∷ []) in
      let all = length-append stream.entries (entry ∷ []) in
      ((omega (arith, more, all, few.0), omega (arith, more, all, few.0, fits)), omega (arith, more))
  read_lists turns (Some stream) head dir found answers.End few fits room = (tt, omega (arith, few.1))
  read_lists turns (Some stream) head dir found answer few fits room = (tt, omega arith)

  fed_at_lists : (turns : ℕ) (stream : Option Stream) (head : ListHead) (stage : ListStage) (answer : DiskAnswer)
      → IsCountedAt stream stage
      → HasAtMost entries (counted stream head stage answer)
      → stage_turns stage + further head.next ≤ turns + 1
      → ListsFor turns (counted stream head stage answer) (fed_at store head stage answer)
  fed_at_lists turns stream head stages.Opening answer few fits room = open_lists turns head answer (omega arith)
  fed_at_lists turns stream head (stages.Reading dir found) answer few fits room = read_lists turns stream head dir found answer few fits room
  fed_at_lists turns stream head (stages.Closing dir found) answer few fits room =
      paths_list turns (counted stream head (stages.Closing dir found) answer) head (index_paths (is_some store.multi) head.folder found)
      (omega (arith, length-index_paths (is_some store.multi) head.folder found))
  fed_at_lists turns stream head (stages.Breaking dir) answer few fits room = tt
  fed_at_lists turns stream head (stages.Index path left) answer few fits room =
      index_lists turns (counted stream head (stages.Index path left) answer) head path left answer (omega arith)
  fed_at_lists turns stream head (stages.Pack row left) answer few fits room =
      pack_lists turns (counted stream head (stages.Pack row left) answer) head row left answer (omega arith)
  fed_at_lists turns stream head (stages.Multi left) answer few fits room =
      multi_lists turns (counted stream head (stages.Multi left) answer) head left answer (omega arith)

  -- a turn of a listing takes one of its turns
  pub fed_lists : (turns : ℕ) (stream : Option Stream) (lister : Lister) (answer : DiskAnswer)
      → IsCounted stream lister
      → HasAtMost entries (stream_by stream (asks.Disk (ask_at lister.head.folder lister.stage)) (told.Disk answer))
      → lister_turns lister ≤ turns + 1
      → ListsFor turns (stream_by stream (asks.Disk (ask_at lister.head.folder lister.stage)) (told.Disk answer)) (fed store lister answer)
  fed_lists turns stream lister answer few fits room = fed_at_lists turns stream lister.head lister.stage answer few fits room
