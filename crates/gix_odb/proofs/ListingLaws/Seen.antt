-- While folders are listed, each row was seen: its index as a file itself, and its pack's path as one.
use Rattle.std.proofs.Common.{◌≡◌, ℕ, true, false, List, [], ◌∷◌, slice_get, Option, Some, None, refl, is_some, sym, subst}
use Rattle.std.specs.List.{All}
use Rattle.std.proofs.lemmas.List.Elements.{All-nil, All-push}
use Rattle.odb_base.specs.Path.{Path}
use Rattle.odb_disk.specs.declared.ask.DiskAnswer.{DiskAnswer}
use Rattle.odb_disk.specs.declared.ask.DiskAnswer.TheVariants as answers
use Rattle.odb_disk.specs.declared.ask.DiskAsk.{DiskAsk}
use Rattle.odb_disk.specs.declared.ask.DiskAsk.TheVariants as asks
use Rattle.odb_disk.specs.declared.disk_error.DiskError.TheVariants as disk_errors
use Rattle.odb_disk.specs.declared.entry.Entry.{Entry}
use Rattle.odb_disk.specs.declared.meta.Kind.{Kind}
use Rattle.odb_disk.specs.declared.meta.Kind.TheVariants as kinds
use Rattle.odb_disk.specs.declared.meta.Meta.{Meta}
use Rattle.gix_odb_events.specs.PackPath.{pack_path}
use Rattle.gix_odb_events.specs.declared.listing.ListingRow.{ListingRow}
use Rattle.gix_odb_search.specs.ListOrder.{ask_at, at_paths, behind_folder, by_index, by_kind, by_multi, by_pack, by_pack_kind, fed_at, multi_row, opened, read, started}
use Rattle.gix_odb_search.specs.ListOrder.{with_row}
use Rattle.gix_odb_search.specs.PackFolder.{index_paths, multi_index_path}
use Rattle.gix_odb_search.specs.declared.lister.ListHead.{ListHead}
use Rattle.gix_odb_search.specs.declared.lister.ListStage.{ListStage}
use Rattle.gix_odb_search.specs.declared.lister.ListStage.TheVariants as stages
use Rattle.gix_odb_search.specs.declared.lister.ListStep.{ListStep}
use Rattle.gix_odb_search.specs.declared.lister.ListStep.TheVariants as ends
use Rattle.gix_odb_search.specs.declared.lister.Lister.{Lister}
use Rattle.gix_odb.proofs.ListerLaws.Lists.{all_longest_first}
use Rattle.gix_odb.specs.ListerCalls.{IsIndexSeen, IsRowSeen, IsSeenAs}
use Rattle.gix_odb_search.specs.ListedStore.{ListedStore}
use Rattle.gix_odb_search.specs.declared.folders.IndexPath.{IndexPath}
use Rattle.gix_odb_search.specs.declared.folders.IndexPath.TheVariants as files
use Rattle.gix_odb_search.specs.MultiPack.{unnamed}
use Rattle.gix_odb_search.proofs.MultiReadLaws.{multi_leads}
use Rattle.gix_odb_search.proofs.UnnamedLaws.{unnamed_are}

module _ (Told : DiskAsk → DiskAnswer → Type 0) (store : ListedStore) where
  abbrev pub AreSeen : List ListingRow → Type 0
  AreSeen rows = All (IsRowSeen Told) rows

  -- the index of the present row was seen
  abbrev pub IsSeenAt : ListStage → Type 0
  IsSeenAt (stages.Pack row left) = IsIndexSeen Told row × (row.multi ≡ None)
  IsSeenAt stage = Unit {0}

  pub record SeesLister (lister : Lister) : Type 0 where
    pub rows : AreSeen lister.head.rows
    pub stage : IsSeenAt lister.stage

  abbrev pub SeesStep : ListStep → Type 0
  SeesStep (ends.More lister) = SeesLister lister
  SeesStep (ends.Listed listing) = AreSeen listing.rows
  SeesStep ends.Broken = Unit {0}
  SeesStep (ends.TooManyPacks actual path) = Unit {0}

  pub starts_seeing : (objects : Path) (base : ℕ) → SeesLister (started objects base)
  starts_seeing objects base = record { rows = All-nil (IsRowSeen Told); stage = tt }

  folder_sees : (head : ListHead) → AreSeen head.rows → (next : Option Path) → SeesStep (behind_folder head next)
  folder_sees head seen None = all_longest_first (IsRowSeen Told) (unnamed head.rows) (unnamed_are (IsRowSeen Told) head.rows seen)
  folder_sees head seen (Some folder) = record { rows = seen; stage = tt }

  paths_see : (head : ListHead) → AreSeen head.rows → (left : List IndexPath) → SeesStep (at_paths store head left)
  paths_see head seen [] = folder_sees head seen (slice_get store.folders head.next)
  paths_see head seen (files.Single path ∷ left) = record { rows = seen; stage = tt }
  paths_see head seen (files.Multi ∷ left) = record { rows = seen; stage = tt }

  module _ (head : ListHead) (seen : AreSeen head.rows) where
    open_sees : (answer : DiskAnswer) → SeesStep (opened store head answer)
    open_sees (answers.Dir dir) = record { rows = seen; stage = tt }
    open_sees (answers.Refused disk_errors.Absent) = folder_sees head seen (slice_get store.folders head.next)
    open_sees answer = tt

    read_sees : (dir : ℕ) (entries : List Entry) (answer : DiskAnswer) → SeesStep (read head dir entries answer)
    read_sees dir entries (answers.Entry entry) = record { rows = seen; stage = tt }
    read_sees dir entries answers.End = record { rows = seen; stage = tt }
    read_sees dir entries answer = record { rows = seen; stage = tt }

    kind_sees : (path : Path) (left : List IndexPath) (meta : Meta) (kind : Kind) → meta.kind ≡ kind → Told (asks.Look path false) (answers.Meta meta)
        → SeesStep (by_kind store head path left meta kind)
    kind_sees path left meta kinds.File is was =
        record { rows = seen; stage = (record { meta = meta; told = was; file = is; time = refl; len = refl }, refl) }
    kind_sees path left meta kind is was = paths_see head seen left

    index_sees : (path : Path) (left : List IndexPath) (answer : DiskAnswer) → Told (asks.Look path false) answer → SeesStep (by_index store head path left answer)
    index_sees path left (answers.Meta meta) was = kind_sees path left meta meta.kind refl was
    index_sees path left (answers.Refused disk_errors.Failed) was = tt
    index_sees path left answer was = paths_see head seen left

    abbrev IsSingle : ListingRow → Type 0
    IsSingle row = IsIndexSeen Told row × (row.multi ≡ None)

    -- an index whose pack was seen too
    row_seen : (row : ListingRow) → IsSingle row → (meta : Meta) → meta.kind ≡ kinds.File → Told (asks.Look (pack_path row.path) true) (answers.Meta meta)
        → IsRowSeen Told row
    row_seen row single meta is was =
        subst (IsSeenAs Told row) (sym single.1) (record { index = single.0; meta = meta; told = was; file = is })

    pack_kind_sees : (row : ListingRow) → IsSingle row → (left : List IndexPath) (meta : Meta) (kind : Kind) → meta.kind ≡ kind
        → Told (asks.Look (pack_path row.path) true) (answers.Meta meta) → SeesStep (by_pack_kind store head row left kind)
    pack_kind_sees row index left meta kinds.File is was =
        paths_see (with_row head row) (All-push (IsRowSeen Told) head.rows row seen (row_seen row index meta is was)) left
    pack_kind_sees row index left meta kind is was = paths_see head seen left

    pack_sees : (row : ListingRow) → IsSingle row → (left : List IndexPath) (answer : DiskAnswer) → Told (asks.Look (pack_path row.path) true) answer
        → SeesStep (by_pack store head row left answer)
    pack_sees row index left (answers.Meta meta) was = pack_kind_sees row index left meta meta.kind refl was
    pack_sees row index left (answers.Refused disk_errors.Failed) was = tt
    pack_sees row index left answer was = paths_see head seen left

    multi_sees : (left : List IndexPath) (answer : DiskAnswer) → Told (asks.Read (multi_index_path head.folder)) answer
        → SeesStep (by_multi store head left answer)
    multi_sees left answer was =
        multi_leads SeesStep store head left answer
        (λ bytes time is usable. paths_see (with_row head (multi_row path bytes time))
        (All-push (IsRowSeen Told) head.rows (multi_row path bytes time) seen
        (refl, subst (Told (asks.Read path)) is was)) left)
        (λ bytes time is multi many. tt) (paths_see head seen left) (λ is. tt)
      where
        path : Path
        path = multi_index_path head.folder

    pub listing_sees : (stage : ListStage) → IsSeenAt stage → (answer : DiskAnswer) → Told (ask_at head.folder stage) answer
        → SeesStep (fed_at store head stage answer)
    listing_sees stages.Opening at answer was = open_sees answer
    listing_sees (stages.Reading dir entries) at answer was = read_sees dir entries answer
    listing_sees (stages.Closing dir entries) at answer was = paths_see head seen (index_paths (is_some store.multi) head.folder entries)
    listing_sees (stages.Breaking dir) at answer was = tt
    listing_sees (stages.Index path left) at answer was = index_sees path left answer was
    listing_sees (stages.Pack row left) at answer was = pack_sees row at left answer was
    listing_sees (stages.Multi left) at answer was = multi_sees left answer was
