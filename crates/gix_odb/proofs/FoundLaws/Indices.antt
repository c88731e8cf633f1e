-- An index or a multi-pack index that was shown leads to something that was shown, or to a pack of it that is still to be read.
use Rattle.std.proofs.Common.{◌≡◌, inl, inr, ℕ, Bool, true, List, [], ◌∷◌, map, All, Contains, slice_get, Option, Some, None, Result, Ok, Err, option_map}
use Rattle.std.proofs.Common.{Ordering, Less, Equal, Greater, is_eq, refl, sym, subst, ap, ◌∙◌}
use Rattle.std.specs.List.{find}
use Rattle.std.proofs.lemmas.List.Elements.{All-contains}
use Rattle.std.proofs.lemmas.Option.{same_Some, slice_get-map}
use Rattle.odb_base.specs.Path.{Name, Path}
use Rattle.gix_hash.specs.ObjectId.{id_cmp}
use Rattle.gix_hash.specs.declared.kind.Kind.{Kind}
use Rattle.gix_hash.specs.declared.object_id.ObjectId.{ObjectId}
use Rattle.gix_hash.proofs.IdOrderLaws.{same_id}
use Rattle.gix_pack_read.specs.FileBytes.{FileBytes}
use Rattle.gix_pack_read.specs.Index.{index_rows}
use Rattle.gix_pack_read.specs.Pack.{Entry, entry_at, header_at}
use Rattle.gix_pack_read.specs.declared.data.Error as pack_data
use Rattle.gix_pack_read.specs.declared.data.Error.TheVariants as data_errors
use Rattle.gix_pack_read.specs.declared.data.entry.Header as pack_header
use Rattle.gix_pack_read.specs.MultiIndex.{told}
use Rattle.gix_pack_read.specs.Rows.{PackRow, Row}
use Rattle.gix_odb_events.specs.OnDiskFile.{loaded}
use Rattle.gix_odb_events.specs.PackPath.{folder_of, pack_in, pack_path}
use Rattle.gix_odb_events.specs.PackFiles.{PackFile}
use Rattle.gix_odb_events.specs.declared.loaded.LoadedIndex.{LoadedIndex}
use Rattle.gix_odb_events.specs.declared.loaded.LoadedIndex.TheVariants.{Single, Multi}
use Rattle.gix_odb_events.specs.declared.loaded.SnapshotIndex.{SnapshotIndex}
use Rattle.gix_odb_search.specs.Goal.{error_of, given_by, header_in, object_in}
use Rattle.gix_odb_search.specs.Search.{at_spot, given_or_not, in_file, in_packs, tried}
use Rattle.gix_odb_search.specs.Spot.{spot_in}
use Rattle.gix_odb_search.specs.declared.goal.Error as goals
use Rattle.gix_odb_search.specs.declared.goal.Found.{Found}
use Rattle.gix_odb_search.specs.declared.goal.Goal.{Goal}
use Rattle.gix_odb_search.specs.declared.search.AbsentFile.{AbsentFile}
use Rattle.gix_odb_search.specs.declared.search.WantedPack.{WantedPack}
use Rattle.gix_odb_search.proofs.MultiRowLaws.{pack_is_named, usable_is_one}
use Rattle.gix_odb_search.proofs.SeekLaws.{Comes, unloaded_comes}
use Rattle.gix_odb_calls.specs.declared.call.Reply.TheVariants as replies
use Rattle.gix_odb_calls.specs.declared.find.Header.TheVariants as headers
use Rattle.gix_object.specs.declared.want.Want.{Want}
use Rattle.gix_object.specs.declared.want.Want.TheVariants.{Object, Header, Presence}
use Rattle.gix_odb.specs.Caused.{IsCaused}
use Rattle.gix_odb.specs.LookExchanges.{Exchange}
use Rattle.gix_odb.specs.Found.{IsEntryReply, IsHeaderReply, IsInIndex, IsInPack}
use Rattle.gix_odb.specs.LookUpOrder.{Setting, find_error}
use Rattle.gix_odb.specs.Shown.{IsFileShown, IsIndexShown, IsMultiShown, IsPackShown, IsPackShownAt, IsSingleShown, packs_of}
use Rattle.gix_odb.specs.Store.{listed_for}
use Rattle.gix_odb.proofs.FoundLaws.Known.{IsCausedHere, IsFoundHere, IsWanted, KnowsGiven, goal_for}
use Rattle.gix_odb.proofs.ListerLaws.Lists.{at_place, find_passes}
use Rattle.gix_odb.proofs.FoundLaws.PackErrors.{IsOfEntry, IsOfHeader, entry_error, header_error}

equal : (order : Ordering) → is_eq order ≡ true → order ≡ Equal
equal Less is = cc is
equal Equal is = refl
equal Greater is = cc is

module _ (Shown : Path → ℕ → List ℕ → Type 0) (setting : Setting) (hash : Kind) (id : ObjectId)
    (exchanges : List Exchange) where
  abbrev aim : Want → Goal
  aim want = goal_for setting want id

  abbrev Hits : Want → Found → Type 0
  Hits want found = IsFoundHere Shown setting hash id exchanges want found

  abbrev Bads : Want → goals.Error → Type 0
  Bads want error = IsCausedHere Shown setting hash id exchanges want error

  abbrev Wanted : WantedPack → Type 0
  Wanted pack = IsWanted Shown setting hash id pack

  abbrev GivenOf : Want → Result Found goals.Error → Type 0
  GivenOf want given = KnowsGiven Shown setting hash id exchanges want given

  -- ---- what a pack gives

  module _ (path : Path) (offset : ℕ) (index : IsInIndex Shown setting hash id path offset) (file : FileBytes)
      (read : IsPackShownAt Shown setting hash path file) where
    within : (Content : List ℕ → ℕ → Type 0) → Content file.bytes offset → IsInPack Shown setting hash id Content
    within Content content =
        record { path = path; offset = offset; index = index; pack = file.bytes; parsed = read.parsed; shown = read.shown; content = content }

    abbrev IsCausedBy : Want → pack_data.Error → Type 0
    IsCausedBy want error = IsCaused Shown setting hash id want exchanges (find_error (error_of error))

    entry_refused : (error : pack_data.Error) → entry_at hash file.bytes offset setting.parts.alloc_limit_bytes ≡ Err error → IsOfEntry error
        → IsCausedBy Object error
    entry_refused data_errors.BadPack is fits = absurd fits
    entry_refused data_errors.BadEntry is fits = within (λ pack at. entry_at hash pack at setting.parts.alloc_limit_bytes ≡ Err data_errors.BadEntry) is
    entry_refused data_errors.DeltaEntry is fits = within (λ pack at. entry_at hash pack at setting.parts.alloc_limit_bytes ≡ Err data_errors.DeltaEntry) is
    entry_refused (data_errors.OutOfMemory size) is fits = within (λ pack at. entry_at hash pack at setting.parts.alloc_limit_bytes ≡ Err (data_errors.OutOfMemory size)) is
    entry_refused (data_errors.EntryType code) is fits = within (λ pack at. entry_at hash pack at setting.parts.alloc_limit_bytes ≡ Err (data_errors.EntryType code)) is

    header_refused : (error : pack_data.Error) → header_at hash file.bytes offset ≡ Err error → IsOfHeader error
        → IsCausedBy Header error
    header_refused data_errors.BadPack is fits = absurd fits
    header_refused data_errors.BadEntry is fits = within (λ pack at. header_at hash pack at ≡ Err data_errors.BadEntry) is
    header_refused data_errors.DeltaEntry is fits = within (λ pack at. header_at hash pack at ≡ Err data_errors.DeltaEntry) is
    header_refused (data_errors.OutOfMemory size) is fits = absurd fits
    header_refused (data_errors.EntryType code) is fits = within (λ pack at. header_at hash pack at ≡ Err (data_errors.EntryType code)) is

    object_given : (result : Result Entry pack_data.Error) → entry_at hash file.bytes offset setting.parts.alloc_limit_bytes ≡ result
        → GivenOf Object (object_in result)
    object_given (Ok entry) is =
        within (λ pack at. IsEntryReply hash setting.parts.alloc_limit_bytes pack at (replies.Found entry.kind entry.bytes)) (record { entry = entry; there = is; is = refl })
    object_given (Err error) is = entry_refused error is (entry_error hash file.bytes offset setting.parts.alloc_limit_bytes error is)

    header_given : (result : Result pack_header.Header pack_data.Error) → header_at hash file.bytes offset ≡ result
        → GivenOf Header (header_in result)
    header_given (Ok header) is =
        within (λ pack at. IsHeaderReply hash pack at (replies.Header (headers.Packed header.kind header.size)))
        (record { header = header; there = is; is = refl })
    header_given (Err error) is = header_refused error is (header_error hash file.bytes offset error is)

    pub given_known : (want : Want) → GivenOf want (given_by want setting.parts.alloc_limit_bytes file offset)
    given_known Object =
        object_given (entry_at file.kind file.bytes offset setting.parts.alloc_limit_bytes)
        (ap (λ (kind : Kind). entry_at kind file.bytes offset setting.parts.alloc_limit_bytes) (sym read.kind))
    given_known Header =
        header_given (header_at file.kind file.bytes offset) (ap (λ (kind : Kind). header_at kind file.bytes offset) (sym read.kind))
    given_known Presence = (path, offset, index, refl)

  -- ---- one index

  sought_given : (want : Want) (given : Result Found goals.Error) → GivenOf want given → Comes (Hits want) (Bads want) Wanted (given_or_not given)
  sought_given want (Ok found) known = known
  sought_given want (Err error) known = known

  abbrev path_of : PackFile → Path
  path_of pack = pack.path

  -- an index gives the id an offset in a pack, which is that of one of its places
  module _ (want : Want) (absent : List AbsentFile) (index : SnapshotIndex) (place offset : ℕ) (path : Path)
      (known : IsInIndex Shown setting hash id path offset) where
    file_known : (own : Path) → own ≡ path → (file : Option FileBytes)
        → ((bytes : FileBytes) → file ≡ Some bytes → IsPackShownAt Shown setting hash own bytes)
        → Comes (Hits want) (Bads want) Wanted (in_file (aim want) absent index (record { place = place; offset = offset }) own file)
    file_known own same None read =
        unloaded_comes (Hits want) (Bads want) Wanted (aim want) absent index (record { place = place; offset = offset }) own
        (subst (λ (p : Path). IsInIndex Shown setting hash id p offset) (sym same) known)
    file_known own same (Some file) read =
        sought_given want (given_by want setting.parts.alloc_limit_bytes file offset)
        (given_known path offset known file (subst (λ (p : Path). IsPackShownAt Shown setting hash p file) same (read file refl)) want)

    pack_known : (found : Option PackFile) → option_map path_of found ≡ Some path
        → ((pack : PackFile) → found ≡ Some pack → IsPackShown Shown setting hash pack)
        → Comes (Hits want) (Bads want) Wanted (in_packs (aim want) absent index (record { place = place; offset = offset }) found)
    pack_known None at read = tt
    pack_known (Some pack) at read = file_known pack.path (same_Some pack.path path at) (loaded pack.state) (read pack refl)

    place_known : slice_get (map path_of index.packs) place ≡ Some path → All (IsPackShown Shown setting hash) index.packs
        → Comes (Hits want) (Bads want) Wanted (in_packs (aim want) absent index (record { place = place; offset = offset }) (slice_get index.packs place))
    place_known at read =
        pack_known (slice_get index.packs place) (sym (slice_get-map path_of index.packs place) ∙ at)
        (λ pack is. All-contains (IsPackShown Shown setting hash) index.packs pack read (at_place index.packs place pack is))

  spot_known : (want : Want) (absent : List AbsentFile) (index : SnapshotIndex) (place offset : ℕ) (path : Path) → IsInIndex Shown setting hash id path offset
      → slice_get (map path_of index.packs) place ≡ Some path → All (IsPackShown Shown setting hash) index.packs
      → Comes (Hits want) (Bads want) Wanted (at_spot want (aim want) absent index (Some (record { place = place; offset = offset })))
  spot_known Object absent index place offset path known at read = place_known Object absent index place offset path known at read
  spot_known Header absent index place offset path known at read = place_known Header absent index place offset path known at read
  spot_known Presence absent index place offset path known at read = (path, offset, known, refl)

  -- ---- a single index

  abbrev has_id : Row → Bool
  has_id row = is_eq (id_cmp row.id id)

  row_gives : (path : Path) (file : FileBytes) → IsSingleShown Shown setting hash path file → (row : Row)
      → find has_id (index_rows file.kind file.bytes) ≡ Some row
      → IsInIndex Shown setting hash id (pack_path path) row.offset
  row_gives path file shown row is =
      let found = find_passes has_id (index_rows file.kind file.bytes) row is in
      inl (record {
        path = path;
        at = shown.at;
        is = refl;
        bytes = file.bytes;
        shown = shown.there.shown;
        gives = record {
          parsed = shown.there.parsed;
          row = row;
          among = subst (λ (kind : Kind). Contains (index_rows kind file.bytes) row) shown.there.kind found.0;
          of_id = same_id row.id id (equal (id_cmp row.id id) found.1);
          at = refl;
        };
      })

  module _ (want : Want) (absent : List AbsentFile) (index : SnapshotIndex) (read : All (IsPackShown Shown setting hash) index.packs) where
    single_known : (file : FileBytes) → IsSingleShown Shown setting hash index.path file → map path_of index.packs ≡ pack_path index.path ∷ []
        → (found : Option Row) → find has_id (index_rows file.kind file.bytes) ≡ found
        → Comes (Hits want) (Bads want) Wanted
        (at_spot want (aim want) absent index (option_map (λ (row : Row). record { place = 0; offset = row.offset }) found))
    single_known file shown are None is = tt
    single_known file shown are (Some row) is =
        spot_known want absent index 0 row.offset (pack_path index.path) (row_gives index.path file shown row is)
        (ap (λ (paths : List Path). slice_get paths 0) are) read

    -- ---- a multi-pack index

    abbrev has_id_too : PackRow → Bool
    has_id_too row = is_eq (id_cmp row.id id)

    multi_row_known : (bytes : List ℕ) → IsMultiShown Shown setting hash index.path bytes
        → map path_of index.packs ≡ map (pack_in (folder_of index.path)) (told bytes).names
        → (row : PackRow) → Contains (told bytes).rows row → row.id ≡ id → (name : Name) → slice_get (told bytes).names row.pack ≡ Some name
        → Comes (Hits want) (Bads want) Wanted (at_spot want (aim want) absent index (Some (record { place = row.pack; offset = row.offset })))
    multi_row_known bytes shown are row among own name named =
        let folder = folder_of index.path in
        spot_known want absent index row.pack row.offset (pack_in folder name)
        (inr (record {
          path = index.path;
          at = shown.at.at;
          name = name;
          is = refl;
          bytes = bytes;
          shown = shown.shown;
          gives = record { usable = shown.at.usable; row = row; among = among; of_id = own; named = named; at = refl };
        }))
        (ap (λ (paths : List Path). slice_get paths row.pack) are ∙ slice_get-map (pack_in folder) (told bytes).names row.pack
        ∙ ap (option_map (pack_in folder)) named)
        read

    multi_known : (bytes : List ℕ) → IsMultiShown Shown setting hash index.path bytes
        → map path_of index.packs ≡ map (pack_in (folder_of index.path)) (told bytes).names
        → (found : Option PackRow) → find has_id_too (told bytes).rows ≡ found
        → Comes (Hits want) (Bads want) Wanted (at_spot want (aim want) absent index (option_map (λ (row : PackRow). record { place = row.pack; offset = row.offset }) found))
    multi_known bytes shown are None is = tt
    multi_known bytes shown are (Some row) is =
        let found = find_passes has_id_too (told bytes).rows row is in
        let whole = usable_is_one (listed_for setting.parts).multi bytes shown.at.usable in
        let named = pack_is_named bytes whole row found.0 in
        multi_row_known bytes shown are row found.0 (same_id row.id id (equal (id_cmp row.id id) found.1)) named.0 named.1

    index_known : (own : LoadedIndex) → IsFileShown Shown setting hash index.path own → map path_of index.packs ≡ packs_of index.path own
        → Comes (Hits want) (Bads want) Wanted (at_spot want (aim want) absent index (spot_in own id))
    index_known (Single file) shown are = single_known file shown are (find has_id (index_rows file.kind file.bytes)) refl
    index_known (Multi bytes) shown are = multi_known bytes shown are (find has_id_too (told bytes).rows) refl

  pub tried_known : (want : Want) (absent : List AbsentFile) (index : SnapshotIndex) → IsIndexShown Shown setting hash index
      → Comes (Hits want) (Bads want) Wanted (tried (aim want) absent index)
  tried_known want absent index shown = index_known want absent index shown.packs index.index shown.file shown.are
