-- Listing the folders of packs while an object stays unchanged in one of them: the rows have a carrier of it.
use Rattle.std.proofs.Common.{◌≡◌, ◌⊎◌, inl, inr, ℕ, ◌&&◌, ◌||◌, ◌++◌, Bool, true, List, [], ◌∷◌, slice_get, drop, Contains, Option, Some, None, is_some}
use Rattle.std.proofs.Common.{refl, sym, ap, ◌∙◌, subst}
use Rattle.std.proofs.lemmas.List.Elements.{All-nil, All-push, Contains-append_left, Contains-push}
use Rattle.std.specs.Cmp.Lexicographic.{bytes_decides}
use Rattle.std.proofs.lemmas.Bool.{and_parts}
use Rattle.std.proofs.lemmas.Option.{same_Some}
use Rattle.odb_base.specs.Path.{Name, Path}
use Rattle.odb_disk.specs.declared.ask.DiskAnswer.{DiskAnswer}
use Rattle.odb_disk.specs.declared.ask.DiskAnswer.TheVariants as answers
use Rattle.odb_disk.specs.declared.disk_error.DiskError.TheVariants as disk_errors
use Rattle.odb_disk.specs.declared.entry.Entry.{Entry}
use Rattle.odb_disk.specs.declared.meta.Kind.{Kind as NodeKind}
use Rattle.odb_disk.specs.declared.meta.Kind.TheVariants as kinds
use Rattle.odb_disk.specs.declared.meta.Meta.{Meta}
use Rattle.gix_hash.specs.declared.kind.Kind.{Kind}
use Rattle.gix_hash.specs.declared.object_id.ObjectId.{ObjectId}
use Rattle.gix_pack_read.specs.MultiIndex.{told as index_in}
use Rattle.gix_odb_events.specs.PackPath.{pack_path}
use Rattle.gix_odb_events.specs.declared.listing.ListingRow.{ListingRow}
use Rattle.gix_odb_search.specs.ListOrder.{ask_at, at_paths, behind_folder, by_index, by_kind, by_multi, by_pack, by_pack_kind, closed, fed_at, multi_row, opened}
use Rattle.gix_odb_search.specs.ListOrder.{read, started, with_row}
use Rattle.gix_odb_search.specs.ListedStore.{ListedStore}
use Rattle.gix_odb_search.specs.MultiPack.{is_multi_index, is_usable}
use Rattle.gix_odb_search.specs.PackFolder.{index_paths, is_index_name, is_multi_index_name, multi_index_name, multi_index_path, pack_folder, path_by}
use Rattle.gix_odb_search.specs.declared.folders.IndexPath.{IndexPath}
use Rattle.gix_odb_search.specs.declared.folders.IndexPath.TheVariants as files
use Rattle.gix_odb_search.specs.declared.multi_pack.MultiUse.{MultiUse}
use Rattle.gix_odb_events.specs.declared.answer.Answer.TheVariants as told
use Rattle.gix_odb_events.specs.declared.answer.Ask.TheVariants as part_asks
use Rattle.gix_odb_search.specs.declared.lister.ListHead.{ListHead}
use Rattle.gix_odb_search.specs.declared.lister.ListStage.{ListStage}
use Rattle.gix_odb_search.specs.declared.lister.ListStage.TheVariants as stages
use Rattle.gix_odb_search.specs.declared.lister.ListStep.{ListStep}
use Rattle.gix_odb_search.specs.declared.lister.ListStep.TheVariants as ends
use Rattle.gix_odb.specs.LookExchanges.{Exchange}
use Rattle.gix_odb.specs.Fair.{Carrier, IsCarried, IsCarriedBy, IsFair, IsIndexBy, IsItsIndex, IsMultiFair, IsMultiSound, ItsIndex, PackedPlace, TheMulti}
use Rattle.gix_odb.specs.Fair.{carrier_name, index_at, name_by}
use Rattle.gix_odb.specs.Stream.{Stream, stream_by, stream_in}
use Rattle.gix_odb_search.proofs.MultiReadLaws.{multi_leads_as_read}
use Rattle.gix_odb_search.proofs.ReachLemmas.{first_or_later, none_in}
use Rattle.gix_odb.proofs.MissLaws.Carried.{Agrees, AgreesAt, AllAgree, HasRow, IsCarrierRow, listed_has}
use Rattle.gix_odb.proofs.MissLaws.Lists.{drop_none, here_or_behind, nothing_ahead}
use Rattle.gix_odb.proofs.PathsApart.{no_index_name}
use Rattle.gix_odb.proofs.MissLaws.Rows.{AreFiles, HasName, path_kept}

-- the path of a carrier among those of a folder
abbrev path_in : Carrier → (index : Path) → IndexPath
path_in ItsIndex index = files.Single index
path_in TheMulti index = files.Multi

single_is : (carrier : Carrier) (index path : Path) → files.Single path ≡ path_in carrier index → IsIndexBy carrier index path
single_is ItsIndex index path is = cc is
single_is TheMulti index path is = absurd (cc is)

multi_is : (carrier : Carrier) (index : Path) → files.Multi ≡ path_in carrier index → carrier ≡ TheMulti
multi_is ItsIndex index is = absurd (cc is)
multi_is TheMulti index is = refl

pub its_index_is : (carrier : Carrier) (index path : Path) → IsIndexBy carrier index path → path ≡ index
its_index_is ItsIndex index path is = is
its_index_is TheMulti index path is = absurd is

-- the carrier is an index by its name, or the multi-pack index
carrier_named : (multi : Option MultiUse) (name : Name) (carrier : Carrier) → IsCarriedBy multi name carrier
    → (is_index_name (name_by carrier name) || (is_some multi && is_multi_index_name (name_by carrier name))) ≡ true
carrier_named multi name ItsIndex carried = ap (λ (b : Bool). b || (is_some multi && is_multi_index_name name)) carried
carrier_named multi name TheMulti carried =
    ap (λ (b : Bool). b || (is_some multi && is_multi_index_name multi_index_name)) no_index_name
    ∙ ap (λ (b : Bool). b && is_multi_index_name multi_index_name) carried ∙ (bytes_decides multi_index_name multi_index_name).1 refl

carrier_path : (multi : Option MultiUse) (folder : Path) (name : Name) (carrier : Carrier) → IsCarriedBy multi name carrier
    → path_by (is_index_name (name_by carrier name)) folder (name_by carrier name) ≡ path_in carrier (folder ++ name ∷ [])
carrier_path multi folder name ItsIndex carried = ap (λ (b : Bool). path_by b folder name) carried
carrier_path multi folder name TheMulti carried = ap (λ (b : Bool). path_by b folder multi_index_name) no_index_name

module _ (store : ListedStore) (hash : Kind) (id : ObjectId) (place : PackedPlace) (carried : IsCarried store.multi place) where
  -- ---- what is known of a listing

  abbrev pub RowThere : List ListingRow → Type 0
  RowThere rows = HasRow store.multi hash id place rows

  -- there is a row of a carrier, or its folder is still to come
  abbrev pub IsComing : ListHead → Type 0
  IsComing head = RowThere head.rows ⊎ Contains (drop head.next store.folders) place.folder

  -- or it is among the paths that are left of its folder
  abbrev pub IsAmong : ListHead → List IndexPath → Type 0
  IsAmong head left = (head.folder ≡ pack_folder place.folder) × Contains left (path_in place.carrier (index_at place))

  abbrev pub IsLeft : ListHead → List IndexPath → Type 0
  IsLeft head left = IsAmong head left ⊎ IsComing head

  -- the stream of the place's folder gave these entries, those of the carrier's name as files
  pub record IsReading (stream : Option Stream) (head : ListHead) (dir : ℕ) (entries : List Entry) : Type 0 where
    pub folder : head.folder ≡ pack_folder place.folder
    pub stream_is : stream ≡ Some (record { folder = head.folder; dir = dir; entries = entries })
    pub files : AreFiles (carrier_name place) entries

  pub record IsRead (head : ListHead) (entries : List Entry) : Type 0 where
    pub folder : head.folder ≡ pack_folder place.folder
    pub files : AreFiles (carrier_name place) entries
    pub has : HasName (carrier_name place) entries

  abbrev pub Way : Option Stream → ListHead → ListStage → Type 0
  Way stream head stages.Opening = (head.folder ≡ pack_folder place.folder) ⊎ IsComing head
  Way stream head (stages.Reading dir entries) = IsReading stream head dir entries ⊎ IsComing head
  Way stream head (stages.Closing dir entries) = IsRead head entries ⊎ IsComing head
  Way stream head (stages.Breaking dir) = Unit {0}
  Way stream head (stages.Index path left) = IsItsIndex place path ⊎ IsLeft head left
  Way stream head (stages.Pack row left) = (row.multi ≡ None) × (IsItsIndex place row.path ⊎ IsLeft head left)
  Way stream head (stages.Multi left) = ((head.folder ≡ pack_folder place.folder) × (place.carrier ≡ TheMulti)) ⊎ IsLeft head left

  -- a folder of packs is listed, and the multi-pack indices among the rows agree with the place
  pub record Stays (head : ListHead) : Type 0 where
    pub folder : Path
    pub is : head.folder ≡ pack_folder folder
    pub agree : AllAgree store.multi hash id place head.rows

  abbrev pub IsOnWay : Option Stream → ListHead → ListStage → Type 0
  IsOnWay stream head stage = Stays head × Way stream head stage

  abbrev pub StepsOn : Option Stream → ListStep → Type 0
  StepsOn stream (ends.More lister) = IsOnWay stream lister.head lister.stage
  StepsOn stream (ends.Listed listing) = RowThere listing.rows
  StepsOn stream ends.Broken = Unit {0}
  StepsOn stream (ends.TooManyPacks actual path) = Unit {0}

  -- ---- folders and paths

  pub begins : (objects : Path) (base : ℕ) (stream : Option Stream) → Contains (objects ∷ store.folders) place.folder
      → IsOnWay stream (started objects base).head (started objects base).stage
  begins objects base stream among = (
    record { folder = objects; is = refl; agree = All-nil (Agrees store.multi hash id place) },
    elim (first_or_later objects store.folders place.folder among) [
      | inl is ↦ inl (ap pack_folder is)
      | inr later ↦ inr (inr (subst (λ (rest : List Path). Contains rest place.folder) (sym (drop_none store.folders)) later))
    ],
  )

  folder_goes : (stream : Option Stream) (head : ListHead) → Stays head → IsComing head → (next : Option Path) → slice_get store.folders head.next ≡ next
      → StepsOn stream (behind_folder head next)
  folder_goes stream head stays (inl has) None is = listed_has store.multi hash id place carried head.rows stays.agree has
  folder_goes stream head stays (inr ahead) None is = absurd (nothing_ahead store.folders head.next place.folder is ahead)
  folder_goes stream head stays (inl has) (Some folder) is = (record { folder = folder; is = refl; agree = stays.agree }, inr (inl has))
  folder_goes stream head stays (inr ahead) (Some folder) is = (
    record { folder = folder; is = refl; agree = stays.agree },
    elim (here_or_behind store.folders head.next folder place.folder is ahead) [
      | inl same ↦ inl (ap pack_folder same)
      | inr later ↦ inr (inr later)
    ],
  )

  paths_go : (stream : Option Stream) (head : ListHead) → Stays head → (left : List IndexPath) → IsLeft head left → StepsOn stream (at_paths store head left)
  paths_go stream head stays [] (inl among) = absurd (none_in (path_in place.carrier (index_at place)) among.1)
  paths_go stream head stays [] (inr coming) = folder_goes stream head stays coming (slice_get store.folders head.next) refl
  paths_go stream head stays (files.Single path ∷ left) (inl among) = (
    stays,
    elim (first_or_later (files.Single path) left (path_in place.carrier (index_at place)) among.1) [
      | inl is ↦ inl (single_is place.carrier (index_at place) path is)
      | inr later ↦ inr (inl (among.0, later))
    ],
  )
  paths_go stream head stays (files.Multi ∷ left) (inl among) = (
    stays,
    elim (first_or_later files.Multi left (path_in place.carrier (index_at place)) among.1) [
      | inl is ↦ inl (among.0, multi_is place.carrier (index_at place) is)
      | inr later ↦ inr (inl (among.0, later))
    ],
  )
  paths_go stream head stays (files.Single path ∷ left) (inr coming) = (stays, inr (inr coming))
  paths_go stream head stays (files.Multi ∷ left) (inr coming) = (stays, inr (inr coming))

  -- one more row
  row_stays : (head : ListHead) → Stays head → (row : ListingRow) → Agrees store.multi hash id place row → Stays (with_row head row)
  row_stays head stays row agrees =
      record { folder = stays.folder; is = stays.is; agree = All-push (Agrees store.multi hash id place) head.rows row stays.agree agrees }

  row_left : (head : ListHead) (row : ListingRow) (left : List IndexPath) → IsLeft head left → IsLeft (with_row head row) left
  row_left head row left (inl among) = inl among
  row_left head row left (inr (inl (other, among, own))) = inr (inl (other, Contains-append_left head.rows (row ∷ []) other among, own))
  row_left head row left (inr (inr ahead)) = inr (inr ahead)

  -- ---- answers

  module _ (past : List Exchange) (head : ListHead) (stays : Stays head) where
    abbrev FairAt : ListStage → DiskAnswer → Type 0
    FairAt stage answer = IsFair store.multi hash id place past (part_asks.Disk (ask_at head.folder stage)) (told.Disk answer)

    -- the stream after the answer
    abbrev stream_then : ListStage → DiskAnswer → Option Stream
    stream_then stage answer = stream_by (stream_in past) (part_asks.Disk (ask_at head.folder stage)) (told.Disk answer)

    abbrev Goes : ListStage → DiskAnswer → ListStep → Type 0
    Goes stage answer step = StepsOn (stream_then stage answer) step

    open_goes : (answer : DiskAnswer) → FairAt stages.Opening answer → (head.folder ≡ pack_folder place.folder) ⊎ IsComing head
        → Goes stages.Opening answer (opened store head answer)
    open_goes (answers.Dir dir) fair (inl is) = (
      stays,
      inl (record { folder = is; stream_is = refl; files = All-nil (λ (e : Entry). e.name ≡ carrier_name place → e.kind ≡ kinds.File) }),
    )
    open_goes (answers.Dir dir) fair (inr coming) = (stays, inr coming)
    open_goes (answers.Refused disk_errors.Absent) fair (inl is) = absurd (fair is)
    open_goes (answers.Refused disk_errors.Absent) fair (inr coming) = folder_goes None head stays coming (slice_get store.folders head.next) refl
    open_goes answer fair way = tt

    read_goes : (dir : ℕ) (entries : List Entry) (answer : DiskAnswer) → FairAt (stages.Reading dir entries) answer
        → IsReading (stream_in past) head dir entries ⊎ IsComing head → Goes (stages.Reading dir entries) answer (read head dir entries answer)
    read_goes dir entries (answers.Entry entry) fair (inl here) =
        let own : entry.name ≡ carrier_name place → entry.kind ≡ kinds.File = (rw here.stream_is at fair) here.folder in (
          stays,
          inl (record {
            folder = here.folder;
            stream_is = rw here.stream_is refl;
            files = All-push (λ (e : Entry). e.name ≡ carrier_name place → e.kind ≡ kinds.File) entries entry here.files own;
          }),
        )
    read_goes dir entries (answers.Entry entry) fair (inr coming) = (stays, inr coming)
    read_goes dir entries answers.End fair (inl here) =
        let own : HasName (carrier_name place) entries = (rw here.stream_is at fair) here.folder in
        (stays, inl (record { folder = here.folder; files = here.files; has = own }))
    read_goes dir entries answers.End fair (inr coming) = (stays, inr coming)
    read_goes dir entries answer fair way = (stays, tt)

    close_goes : (stream : Option Stream) (entries : List Entry) → IsRead head entries ⊎ IsComing head → StepsOn stream (closed store head entries)
    close_goes stream entries (inr coming) = paths_go stream head stays (index_paths (is_some store.multi) head.folder entries) (inr coming)
    close_goes stream entries (inl here) =
        paths_go stream head stays (index_paths (is_some store.multi) head.folder entries)
        (inl (
          here.folder,
          path_kept (carrier_name place) (is_some store.multi) head.folder entries (path_in place.carrier (index_at place))
              (carrier_named store.multi place.name place.carrier carried)
              (ap (λ (folder : Path). path_by (is_index_name (carrier_name place)) folder (carrier_name place)) here.folder
              ∙ carrier_path store.multi (pack_folder place.folder) place.name place.carrier carried)
              here.has here.files,
        ))

    -- an index that isn't the place's may have no row
    kind_goes : (stream : Option Stream) (path : Path) (left : List IndexPath) (meta : Meta) → IsItsIndex place path ⊎ IsLeft head left → (kind : NodeKind)
        → (IsItsIndex place path → kind ≡ kinds.File) → StepsOn stream (by_kind store head path left meta kind)
    kind_goes stream path left meta way kinds.File fair = (stays, (refl, way))
    kind_goes stream path left meta (inl is) kinds.Dir fair = let wrong = fair is in absurd (cc wrong)
    kind_goes stream path left meta (inl is) kinds.Link fair = let wrong = fair is in absurd (cc wrong)
    kind_goes stream path left meta (inr left_over) kinds.Dir fair = paths_go stream head stays left left_over
    kind_goes stream path left meta (inr left_over) kinds.Link fair = paths_go stream head stays left left_over

    index_goes : (path : Path) (left : List IndexPath) (answer : DiskAnswer) → FairAt (stages.Index path left) answer → IsItsIndex place path ⊎ IsLeft head left
        → StepsOn (stream_in past) (by_index store head path left answer)
    index_goes path left (answers.Meta meta) fair way = kind_goes (stream_in past) path left meta way meta.kind fair.0
    index_goes path left (answers.Refused disk_errors.Failed) fair way = tt
    index_goes path left answer fair (inl is) = absurd (fair.0 is)
    index_goes path left answer fair (inr left_over) = paths_go (stream_in past) head stays left left_over

    single_agrees : (row : ListingRow) → row.multi ≡ None → Agrees store.multi hash id place row
    single_agrees row single bytes is = let wrong : ◌≡◌ {A = Option (List ℕ)} None (Some bytes) = sym single ∙ is in absurd (cc wrong)

    with_row_goes : (stream : Option Stream) (row : ListingRow) → row.multi ≡ None → (left : List IndexPath) → IsItsIndex place row.path ⊎ IsLeft head left
        → StepsOn stream (at_paths store (with_row head row) left)
    with_row_goes stream row single left way =
        paths_go stream (with_row head row) (row_stays head stays row (single_agrees row single)) left (by way)
      where
        by : IsItsIndex place row.path ⊎ IsLeft head left → IsLeft (with_row head row) left
        by (inl is) = inr (inl (row, Contains-push head.rows row, inl (single, is)))
        by (inr left_over) = row_left head row left left_over

    pack_kind_goes : (stream : Option Stream) (row : ListingRow) → row.multi ≡ None → (left : List IndexPath) → IsItsIndex place row.path ⊎ IsLeft head left
        → (kind : NodeKind) → (IsItsIndex place row.path → kind ≡ kinds.File) → StepsOn stream (by_pack_kind store head row left kind)
    pack_kind_goes stream row single left way kinds.File fair = with_row_goes stream row single left way
    pack_kind_goes stream row single left (inl is) kinds.Dir fair = let wrong = fair is in absurd (cc wrong)
    pack_kind_goes stream row single left (inl is) kinds.Link fair = let wrong = fair is in absurd (cc wrong)
    pack_kind_goes stream row single left (inr left_over) kinds.Dir fair = paths_go stream head stays left left_over
    pack_kind_goes stream row single left (inr left_over) kinds.Link fair = paths_go stream head stays left left_over

    its_pack : (row : ListingRow) → IsItsIndex place row.path → pack_path row.path ≡ pack_path (index_at place)
    its_pack row is = ap pack_path (its_index_is place.carrier (index_at place) row.path is)

    pack_goes : (row : ListingRow) → row.multi ≡ None → (left : List IndexPath) (answer : DiskAnswer) → FairAt (stages.Pack row left) answer
        → IsItsIndex place row.path ⊎ IsLeft head left → StepsOn (stream_in past) (by_pack store head row left answer)
    pack_goes row single left (answers.Meta meta) fair way =
        pack_kind_goes (stream_in past) row single left way meta.kind (λ is. fair.1 (its_pack row is) refl)
    pack_goes row single left (answers.Refused disk_errors.Failed) fair way = tt
    pack_goes row single left answer fair (inl is) = absurd (fair.1 (its_pack row is) refl)
    pack_goes row single left answer fair (inr left_over) = paths_go (stream_in past) head stays left left_over

    -- ---- the multi-pack index

    abbrev path_read : Path
    path_read = multi_index_path head.folder

    -- what is read of it in the place's folder is fair
    fair_there : (answer : DiskAnswer) (left : List IndexPath) → FairAt (stages.Multi left) answer → head.folder ≡ pack_folder place.folder
        → IsMultiFair store.multi hash id place place.carrier answer
    fair_there answer left fair is = fair.1 (ap multi_index_path is)

    carrier_row : (bytes : List ℕ) (time : ℕ) → head.folder ≡ pack_folder place.folder
        → IsMultiFair store.multi hash id place TheMulti (answers.File bytes time) → IsCarrierRow store.multi hash id place (multi_row path_read bytes time)
    carrier_row bytes time is sound = inr (record { bytes = bytes; content = refl; path = ap multi_index_path is; sound = sound })

    agrees_by : (carrier : Carrier) (bytes : List ℕ) (time : ℕ) → is_usable store.multi bytes ≡ true
        → IsMultiFair store.multi hash id place carrier (answers.File bytes time)
        → Contains (index_in bytes).names place.name → IsMultiSound store.multi hash id place bytes
    agrees_by ItsIndex bytes time usable fair names = fair usable names
    agrees_by TheMulti bytes time usable fair names = fair

    multi_agrees : (answer : DiskAnswer) (left : List IndexPath) → FairAt (stages.Multi left) answer → (bytes : List ℕ) (time : ℕ)
        → answer ≡ answers.File bytes time → is_usable store.multi bytes ≡ true → Agrees store.multi hash id place (multi_row path_read bytes time)
    multi_agrees answer left fair bytes time is usable other same =
        subst (AgreesAt store.multi hash id place path_read) (same_Some bytes other same)
        (record {
          folder = stays.folder;
          is = ap multi_index_path stays.is;
          agrees = λ here names.
              agrees_by place.carrier bytes time usable
              (subst (IsMultiFair store.multi hash id place place.carrier) is (fair_there answer left fair (stays.is ∙ here))) names;
        })

    -- what is read of the carrier has a row
    row_has : (answer : DiskAnswer) (left : List IndexPath) → FairAt (stages.Multi left) answer → (bytes : List ℕ) (time : ℕ) → answer ≡ answers.File bytes time
        → Way (stream_in past) head (stages.Multi left) → IsLeft (with_row head (multi_row path_read bytes time)) left
    row_has answer left fair bytes time is (inr left_over) = row_left head (multi_row path_read bytes time) left left_over
    row_has answer left fair bytes time is (inl (here, carrier)) =
        inr (inl (
          multi_row path_read bytes time,
          Contains-push head.rows (multi_row path_read bytes time),
          carrier_row bytes time here
              (subst (λ (c : Carrier). IsMultiFair store.multi hash id place c (answers.File bytes time)) carrier
              (subst (IsMultiFair store.multi hash id place place.carrier) is (fair_there answer left fair here))),
        ))

    -- a carrier is usable, so that it has a row
    sound_is_read : (answer : DiskAnswer) → IsMultiFair store.multi hash id place TheMulti answer
        → ¬ ((bytes : List ℕ) (time : ℕ) → answer ≡ answers.File bytes time → ¬ (is_multi_index store.multi bytes ≡ true))
    sound_is_read (answers.File bytes time) sound none = none bytes time refl (and_parts (is_multi_index store.multi bytes) _ sound.usable).0
    sound_is_read answer sound none = sound

    without_row : (answer : DiskAnswer) (left : List IndexPath) → FairAt (stages.Multi left) answer → Way (stream_in past) head (stages.Multi left)
        → ((bytes : List ℕ) (time : ℕ) → answer ≡ answers.File bytes time → ¬ (is_multi_index store.multi bytes ≡ true)) → IsLeft head left
    without_row answer left fair (inr left_over) none = left_over
    without_row answer left fair (inl (here, carrier)) none =
        absurd (sound_is_read answer (subst (λ (c : Carrier). IsMultiFair store.multi hash id place c answer) carrier (fair_there answer left fair here)) none)

    multi_goes : (left : List IndexPath) (answer : DiskAnswer) → FairAt (stages.Multi left) answer → Way (stream_in past) head (stages.Multi left)
        → StepsOn (stream_in past) (by_multi store head left answer)
    multi_goes left answer fair way =
        multi_leads_as_read (StepsOn (stream_in past)) store head left answer
        (λ bytes time is usable. paths_go (stream_in past) (with_row head (multi_row path_read bytes time))
        (row_stays head stays (multi_row path_read bytes time) (multi_agrees answer left fair bytes time is usable)) left
        (row_has answer left fair bytes time is way))
        (λ bytes time is read many. tt) (λ none. paths_go (stream_in past) head stays left (without_row answer left fair way none)) (λ is. tt)

    -- a listing that has a carrier in sight keeps one in sight
    pub listing_goes : (stage : ListStage) → Way (stream_in past) head stage → (answer : DiskAnswer) → FairAt stage answer
        → Goes stage answer (fed_at store head stage answer)
    listing_goes stages.Opening way answer fair = open_goes answer fair way
    listing_goes (stages.Reading dir entries) way answer fair = read_goes dir entries answer fair way
    listing_goes (stages.Closing dir entries) way answer fair = close_goes None entries way
    listing_goes (stages.Breaking dir) way answer fair = tt
    listing_goes (stages.Index path left) way answer fair = index_goes path left answer fair way
    listing_goes (stages.Pack row left) way answer fair = pack_goes row way.0 left answer fair way.1
    listing_goes (stages.Multi left) way answer fair = multi_goes left answer fair way
