-- Why a listing of the folders of packs breaks.
use Rattle.std.proofs.Common.{◌≡◌, ℕ, ◌<◌, true, List, [], ◌∷◌, ◌++◌, slice_get, Option, Some, None, is_some, ◌⊎◌, refl, ap, subst, inl, inr}
use Rattle.std.proofs.lemmas.List.Elements.{Contains-append_left}
use Rattle.odb_base.specs.Path.{Path}
use Rattle.odb_disk.specs.declared.ask.DiskAnswer.{DiskAnswer}
use Rattle.odb_disk.specs.declared.ask.DiskAnswer.TheVariants as answers
use Rattle.odb_disk.specs.declared.ask.DiskAsk.TheVariants as disk_asks
use Rattle.odb_disk.specs.declared.disk_error.DiskError.{DiskError}
use Rattle.odb_disk.specs.declared.disk_error.DiskError.TheVariants as disk_errors
use Rattle.odb_disk.specs.declared.entry.Entry.{Entry}
use Rattle.odb_disk.specs.declared.meta.Kind.{Kind as NodeKind}
use Rattle.odb_disk.specs.declared.meta.Kind.TheVariants as kinds
use Rattle.odb_disk.specs.declared.meta.Meta.{Meta}
use Rattle.gix_odb_events.specs.declared.listing.ListingRow.{ListingRow}
use Rattle.gix_odb_search.specs.ListOrder.{ask_at, ask_of, at_paths, behind_folder, by_index, by_kind, by_multi, by_pack, multi_row}
use Rattle.gix_odb_search.specs.ListOrder.{by_pack_kind, fed, fed_at, opened, read, with_row}
use Rattle.gix_odb_search.specs.PackFolder.{index_paths, multi_index_path}
use Rattle.gix_odb_events.specs.declared.answer.Answer.{Answer}
use Rattle.gix_odb_events.specs.declared.answer.Answer.TheVariants as told
use Rattle.gix_odb_events.specs.declared.answer.Ask.{Ask}
use Rattle.gix_odb_events.specs.declared.answer.Ask.TheVariants as asks
use Rattle.gix_odb_search.specs.declared.lister.ListHead.{ListHead}
use Rattle.gix_odb_search.specs.declared.lister.ListStage.{ListStage}
use Rattle.gix_odb_search.specs.declared.lister.ListStage.TheVariants as stages
use Rattle.gix_odb_search.specs.declared.lister.ListStep.{ListStep}
use Rattle.gix_odb_search.specs.declared.lister.ListStep.TheVariants as ends
use Rattle.gix_odb_search.specs.declared.lister.Lister.{Lister}
use Rattle.gix_odb.specs.ListingCaused.{IsBlocked, IsNoFolder, NamesTooMany}
use Rattle.gix_odb.specs.Exchange.{Exchange, HasFailed, WasTold}
use Rattle.gix_odb.specs.Store.{Setting, listed_for}
use Rattle.gix_odb.specs.Suited.{Suits}
use Rattle.gix_odb.proofs.ListerLaws.Folders.{IsAtFolder}
use Rattle.gix_odb_search.specs.ListedStore.{ListedStore}
use Rattle.gix_odb_search.specs.declared.folders.IndexPath.{IndexPath}
use Rattle.gix_odb_search.specs.declared.folders.IndexPath.TheVariants as files
use Rattle.gix_odb_search.specs.MultiPack.{is_multi_index, most_packs, packs_named}
use Rattle.gix_odb_search.proofs.MultiReadLaws.{multi_leads}

-- ---- failures in exchanges

pub HasFailed-more : (past more : List Exchange) → HasFailed past → HasFailed (past ++ more)
HasFailed-more past more is = record { exchange = is.exchange; among = Contains-append_left past more is.exchange is.among; failed = is.failed }

pub HasFailed-from_told : (exchanges : List Exchange) (ask : Ask) (answer : Answer) → WasTold exchanges ask answer
    → answer ≡ told.Disk (answers.Refused disk_errors.Failed)
    → HasFailed exchanges
HasFailed-from_told exchanges ask answer was is = record { exchange = record { ask = ask; answer = answer }; among = was; failed = is }

-- ---- why a listing breaks

-- a stream that is closed since it could not be read on shows a failure
abbrev pub Breaks : List Exchange → ListStage → Type 0
Breaks exchanges stages.Opening = Unit {0}
Breaks exchanges (stages.Reading dir entries) = Unit {0}
Breaks exchanges (stages.Closing dir entries) = Unit {0}
Breaks exchanges (stages.Breaking dir) = HasFailed exchanges
Breaks exchanges (stages.Index path left) = Unit {0}
Breaks exchanges (stages.Pack row left) = Unit {0}
Breaks exchanges (stages.Multi left) = Unit {0}

module _ (setting : Setting) (exchanges : List Exchange) where
  abbrev pub ListedTells : ListStep → Type 0
  ListedTells (ends.More lister) = Breaks exchanges lister.stage
  ListedTells (ends.Listed listing) = Unit {0}
  ListedTells ends.Broken = HasFailed exchanges ⊎ IsNoFolder setting exchanges
  ListedTells (ends.TooManyPacks actual path) = NamesTooMany setting exchanges actual most_packs path

  abbrev store : ListedStore
  store = listed_for setting.parts

  behind_folder-tells : (head : ListHead) (next : Option Path) → ListedTells (behind_folder head next)
  behind_folder-tells head None = tt
  behind_folder-tells head (Some folder) = tt

  at_paths-tells : (head : ListHead) (paths : List IndexPath) → ListedTells (at_paths store head paths)
  at_paths-tells head [] = behind_folder-tells head (slice_get store.folders head.next)
  at_paths-tells head (files.Single path ∷ left) = tt
  at_paths-tells head (files.Multi ∷ left) = tt

  module _ (head : ListHead) where
    by_kind-tells : (path : Path) (left : List IndexPath) (meta : Meta) (kind : NodeKind) → ListedTells (by_kind store head path left meta kind)
    by_kind-tells path left meta kinds.File = tt
    by_kind-tells path left meta kind = at_paths-tells head left

    by_pack_kind-tells : (row : ListingRow) (left : List IndexPath) (kind : NodeKind) → ListedTells (by_pack_kind store head row left kind)
    by_pack_kind-tells row left kinds.File = at_paths-tells (with_row head row) left
    by_pack_kind-tells row left kind = at_paths-tells head left

    -- ---- answers

    module _ (stage : ListStage) where
      abbrev Was : DiskAnswer → Type 0
      Was answer = WasTold exchanges (asks.Disk (ask_at head.folder stage)) (told.Disk answer)

      failed : Was (answers.Refused disk_errors.Failed) → HasFailed exchanges
      failed was = HasFailed-from_told exchanges (asks.Disk (ask_at head.folder stage)) (told.Disk (answers.Refused disk_errors.Failed)) was refl

    no_folder : IsAtFolder setting head → (error : DiskError) → IsBlocked error → Was stages.Opening (answers.Refused error)
        → IsNoFolder setting exchanges
    no_folder (folder, among, is) error blocked was =
        record {
          folder = folder;
          among = among;
          error = error;
          blocked = blocked;
          told = subst (λ path. WasTold exchanges (asks.Disk (disk_asks.OpenDir path)) (told.Disk (answers.Refused error))) is was;
        }

    opened-tells : IsAtFolder setting head → (answer : DiskAnswer) → Suits (ask_at head.folder stages.Opening) answer → Was stages.Opening answer
        → ListedTells (opened store head answer)
    opened-tells at (answers.Dir dir) suits was = tt
    opened-tells at (answers.Refused disk_errors.Absent) suits was = behind_folder-tells head (slice_get store.folders head.next)
    opened-tells at (answers.Refused disk_errors.WrongKind) suits was = inr (no_folder at disk_errors.WrongKind (inl refl) was)
    opened-tells at (answers.Refused disk_errors.LinkLoop) suits was = inr (no_folder at disk_errors.LinkLoop (inr refl) was)
    opened-tells at (answers.Refused disk_errors.Failed) suits was = inl (failed stages.Opening was)
    opened-tells at (answers.Refused disk_errors.Exists) suits was = absurd suits
    opened-tells at (answers.Refused disk_errors.NotEmpty) suits was = absurd suits
    opened-tells at (answers.Refused disk_errors.NoMemory) suits was = absurd suits
    opened-tells at (answers.Meta meta) suits was = absurd suits
    opened-tells at (answers.File bytes time) suits was = absurd suits
    opened-tells at (answers.Entry entry) suits was = absurd suits
    opened-tells at answers.End suits was = absurd suits
    opened-tells at answers.Done suits was = absurd suits

    read-tells : (dir : ℕ) (entries : List Entry) (answer : DiskAnswer) → Suits (disk_asks.NextEntry dir) answer → Was (stages.Reading dir entries) answer
        → ListedTells (read head dir entries answer)
    read-tells dir entries (answers.Entry entry) suits was = tt
    read-tells dir entries answers.End suits was = tt
    read-tells dir entries (answers.Refused error) suits was =
        failed (stages.Reading dir entries) (subst (λ e. Was (stages.Reading dir entries) (answers.Refused e)) suits was)
    read-tells dir entries (answers.Meta meta) suits was = absurd suits
    read-tells dir entries (answers.File bytes time) suits was = absurd suits
    read-tells dir entries (answers.Dir other) suits was = absurd suits
    read-tells dir entries answers.Done suits was = absurd suits

    by_index-tells : (path : Path) (left : List IndexPath) (answer : DiskAnswer) → Was (stages.Index path left) answer
        → ListedTells (by_index store head path left answer)
    by_index-tells path left (answers.Meta meta) was = by_kind-tells path left meta meta.kind
    by_index-tells path left (answers.Refused disk_errors.Failed) was = inl (failed (stages.Index path left) was)
    by_index-tells path left answer was = at_paths-tells head left

    by_pack-tells : (row : ListingRow) (left : List IndexPath) (answer : DiskAnswer) → Was (stages.Pack row left) answer
        → ListedTells (by_pack store head row left answer)
    by_pack-tells row left (answers.Meta meta) was = by_pack_kind-tells row left meta.kind
    by_pack-tells row left (answers.Refused disk_errors.Failed) was = inl (failed (stages.Pack row left) was)
    by_pack-tells row left answer was = at_paths-tells head left

    many_named : IsAtFolder setting head → (left : List IndexPath) (answer : DiskAnswer) → Was (stages.Multi left) answer
        → (bytes : List ℕ) (time : ℕ) → answer ≡ answers.File bytes time → is_multi_index store.multi bytes ≡ true → most_packs < packs_named bytes
        → NamesTooMany setting exchanges (packs_named bytes) most_packs (multi_index_path head.folder)
    many_named at left answer was bytes time is multi many = record {
      folder = at.0;
      among = at.1;
      is = ap multi_index_path at.2;
      bytes = bytes;
      time = time;
      told = subst (λ (a : DiskAnswer). WasTold exchanges (asks.Disk (disk_asks.Read (multi_index_path head.folder))) (told.Disk a)) is was;
      multi = multi;
      names = refl;
      most = refl;
      many = many;
    }

    by_multi-tells : IsAtFolder setting head → (left : List IndexPath) (answer : DiskAnswer) → Was (stages.Multi left) answer
        → ListedTells (by_multi store head left answer)
    by_multi-tells at left answer was =
        multi_leads ListedTells store head left answer
        (λ bytes time is usable. at_paths-tells (with_row head (multi_row (multi_index_path head.folder) bytes time)) left)
        (many_named at left answer was) (at_paths-tells head left)
        (λ is. inl (failed (stages.Multi left) (subst (Was (stages.Multi left)) is was)))

    fed_at-tells : IsAtFolder setting head → (stage : ListStage) → Breaks exchanges stage → (answer : DiskAnswer)
        → Suits (ask_at head.folder stage) answer → Was stage answer
        → ListedTells (fed_at store head stage answer)
    fed_at-tells at stages.Opening breaks answer suits was = opened-tells at answer suits was
    fed_at-tells at (stages.Reading dir entries) breaks answer suits was = read-tells dir entries answer suits was
    fed_at-tells at (stages.Closing dir entries) breaks answer suits was = at_paths-tells head (index_paths (is_some store.multi) head.folder entries)
    fed_at-tells at (stages.Breaking dir) breaks answer suits was = inl breaks
    fed_at-tells at (stages.Index path left) breaks answer suits was = by_index-tells path left answer was
    fed_at-tells at (stages.Pack row left) breaks answer suits was = by_pack-tells row left answer was
    fed_at-tells at (stages.Multi left) breaks answer suits was = by_multi-tells at left answer was

  pub fed-tells : (lister : Lister) → IsAtFolder setting lister.head → Breaks exchanges lister.stage → (answer : DiskAnswer) → Suits (ask_of lister) answer
      → WasTold exchanges (asks.Disk (ask_of lister)) (told.Disk answer)
      → ListedTells (fed (listed_for setting.parts) lister answer)
  fed-tells lister at breaks answer suits was = fed_at-tells lister.head at lister.stage breaks answer suits was
