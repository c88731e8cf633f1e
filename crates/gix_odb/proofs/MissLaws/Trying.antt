-- Trying indices among which is a carrier of a place that an object lies at: with fair answers the try never misses.
use Rattle.std.proofs.Common.{◌≡◌, inl, inr, ℕ, Bool, true, false, cond, List, [], ◌∷◌, slice_get, Option, Some, option_map, unwrap_or, Result, Ok, Err, refl, sym, ap, ◌∙◌, subst}
use Rattle.std.specs.List.{All}
use Rattle.std.proofs.lemmas.Bool.{cond-true}
use Rattle.std.proofs.lemmas.List.Elements.{All-weaker}
use Rattle.std.proofs.lemmas.Option.{slice_get-map}
use Rattle.odb_base.specs.Path.{Path}
use Rattle.odb_disk.specs.declared.ask.DiskAnswer.{DiskAnswer}
use Rattle.odb_disk.specs.declared.ask.DiskAnswer.TheVariants as answers
use Rattle.odb_disk.specs.declared.disk_error.DiskError.TheVariants as disk_errors
use Rattle.gix_hash.specs.ObjectId.{kind_of}
use Rattle.gix_hash.specs.declared.kind.Kind.{Kind}
use Rattle.gix_hash.specs.declared.object_id.ObjectId.{ObjectId}
use Rattle.gix_pack_read.specs.Index.{is_index}
use Rattle.gix_pack_read.specs.Pack.{is_pack}
use Rattle.gix_pack_read.specs.MultiIndex.{told as told_in}
use Rattle.gix_odb_events.specs.PackPath.{folder_of, pack_in, pack_path}
use Rattle.gix_odb_events.specs.declared.listing.ListingRow.{ListingRow}
use Rattle.gix_odb_events.specs.declared.loaded.SnapshotIndex.{SnapshotIndex}
use Rattle.gix_odb_events.specs.Answers.{view_in}
use Rattle.gix_odb_events.specs.declared.event.Effect.{Effect}
use Rattle.gix_odb_events.specs.declared.event.PassWhy.TheVariants as whys
use Rattle.gix_odb_events.specs.declared.view.View.{View}
use Rattle.gix_odb_search.specs.Goal.{given_by}
use Rattle.gix_odb_search.specs.LoadOrder as load
use Rattle.gix_odb_search.specs.TryOrder.{ask_at, at, by_answer, by_given, fed, pack_behind, pack_read}
use Rattle.gix_odb_events.specs.declared.answer.Answer.{Answer}
use Rattle.gix_odb_events.specs.declared.answer.Answer.TheVariants as told
use Rattle.gix_odb_search.specs.declared.goal.Error.{Error}
use Rattle.gix_odb_search.specs.declared.goal.Error.TheVariants as errors
use Rattle.gix_odb_search.specs.declared.goal.Found.{Found}
use Rattle.gix_odb_search.specs.declared.goal.Goal.{Goal}
use Rattle.gix_odb_search.specs.declared.index_loader.IndexLoader.{IndexLoader}
use Rattle.gix_odb_search.specs.declared.index_loader.IndexLoader.TheVariants as loaders
use Rattle.gix_odb_search.specs.declared.index_loader.IndexPlace.{IndexPlace}
use Rattle.gix_odb_search.specs.declared.search.WantedPack.{WantedPack}
use Rattle.gix_odb_search.specs.declared.trier.Ahead.{Ahead}
use Rattle.gix_odb_search.specs.declared.trier.Stage.{Stage}
use Rattle.gix_odb_search.specs.declared.trier.Stage.TheVariants as stages
use Rattle.gix_odb_search.specs.declared.trier.Tried.{Tried}
use Rattle.gix_odb_search.specs.declared.trier.Tried.TheVariants as ends
use Rattle.gix_odb_search.specs.declared.trier.Trier.{Trier}
use Rattle.gix_odb_search.proofs.ReachLaws.{IsAtHand, IsKept, IsNoMiss, IsOnWay, IsSearchable, IsTracked, LeadsIfThere, load_goes, passed_goes, stored_leads}
use Rattle.gix_odb_search.proofs.MultiRowLaws.{usable_is_one}
use Rattle.gix_odb_search.proofs.ReachLemmas.{Leads}
use Rattle.gix_odb_search.specs.PackFolder.{multi_index_name, pack_folder}
use Rattle.gix_odb_search.specs.declared.multi_pack.MultiUse.{MultiUse}
use Rattle.gix_odb.specs.LookExchanges.{Exchange}
use Rattle.gix_odb.specs.Fair.{IsFair, IsFairIfThere, IsIndexFair, IsItsIndex, IsMultiSound, IsViewFair, PackedPlace, ShowsContent, index_at, multi_at, pack_at}
use Rattle.gix_odb.proofs.PathsApart.{folder_of-push, pack_path-push}
use Rattle.gix_odb.proofs.MissLaws.Listing.{its_index_is}
use Rattle.gix_odb.specs.Found.{Gives}

module _ (multi : Option MultiUse) (hash : Kind) (id : ObjectId) (place : PackedPlace) where
  leads_fair : (index : SnapshotIndex) → IsIndexFair multi hash id place index → Leads (pack_at place) hash id index
  leads_fair index fair =
      inl (record {
        file = fair.file;
        single = fair.single;
        kind = fair.kind;
        row = fair.sound.row;
        among = fair.sound.among;
        of_id = fair.sound.of_id;
        one = fair.one;
      })

  -- a multi-pack index that a view shows for the row of a sound one
  pub content_leads : (view : View) (row : ListingRow) (bytes : List ℕ) → row.path ≡ multi_at place → IsMultiSound multi hash id place bytes
      → (shown : ShowsContent view row bytes) → Leads (pack_at place) hash id shown.index
  content_leads view row bytes at sound shown =
      let folder : folder_of row.path ≡ pack_folder place.folder = ap folder_of at ∙ folder_of-push (pack_folder place.folder) multi_index_name in
      inr (record {
        bytes = bytes;
        multi = shown.multi;
        whole = usable_is_one multi bytes sound.usable;
        row = sound.row;
        among = sound.among;
        of_id = sound.of_id;
        at =
            ap (λ (paths : List Path). slice_get paths sound.row.pack) shown.packs
            ∙ slice_get-map (pack_in (folder_of row.path)) (told_in bytes).names sound.row.pack
            ∙ ap (option_map (pack_in (folder_of row.path))) sound.named
            ∙ ap (λ (f : Path). Some (pack_in f place.name)) folder
            ∙ ap Some (sym (pack_path-push (pack_folder place.folder) place.name));
      })

  pub lead_if_fair : (indices : List SnapshotIndex)
      → All (IsFairIfThere multi hash id place) indices
      → All (LeadsIfThere hash id (pack_at place) (IsItsIndex place)) indices
  lead_if_fair indices fair =
      All-weaker (IsFairIfThere multi hash id place) (LeadsIfThere hash id (pack_at place) (IsItsIndex place))
      (λ index sound there. leads_fair index (sound there)) indices fair

  module _ (past : List Exchange) (of_hash : kind_of id ≡ hash) where
    abbrev FairAt : Stage → Answer → Type 0
    FairAt stage answer = IsFair multi hash id place past (ask_at stage) answer

    abbrev NoMiss : Tried → Type 0
    NoMiss = IsNoMiss hash id (pack_at place) (IsItsIndex place)

    abbrev Way : Ahead → Stage → Type 0
    Way = IsOnWay hash id (pack_at place) (IsItsIndex place)

    views_lead : (effect : Effect) → ((view : View) → view_in (Ok effect) ≡ Some view → IsViewFair multi hash id place view) → (view : View)
        → view_in (Ok effect) ≡ Some view
        → All (LeadsIfThere hash id (pack_at place) (IsItsIndex place)) view.snapshot.indices × All (LeadsIfThere hash id (pack_at place) (IsItsIndex place)) view.snapshot.kept
    views_lead effect fair view is =
        let shown = fair view is in (lead_if_fair view.snapshot.indices shown.indices, lead_if_fair view.snapshot.kept shown.kept)

    -- ---- an index that is loaded

    abbrev AtHand : IndexLoader → Type 0
    AtHand = IsAtHand hash id (pack_at place) (IsItsIndex place)

    -- an index that was read at the place's path leads to the place's pack
    own_leads : (at : IndexPlace) (bytes : List ℕ) → IsItsIndex place at.path → Gives hash bytes id place.offset
        → Leads (pack_at place) hash id (load.own_index at (record { kind = hash; bytes = bytes }))
    own_leads at bytes is gives =
        inl (record {
          file = record { kind = hash; bytes = bytes };
          single = refl;
          kind = refl;
          row = gives.row;
          among = gives.among;
          of_id = gives.of_id;
          one = ap (λ (path : Path). pack_path path ∷ []) (its_index_is place.carrier (index_at place) at.path is);
        })

    read_goes : (at : IndexPlace) (answer : DiskAnswer) → IsItsIndex place at.path → IsFair multi hash id place past (load.read_of at.path) (told.Disk answer)
        → AtHand (load.index_read hash at answer)
    read_goes at (answers.File bytes time) is fair =
        let gives = fair.0 is in
        subst AtHand
        (sym (cond-true (is_index hash bytes) (loaders.Storing at (record { kind = hash; bytes = bytes })) (loaders.Passing at whys.Bad) gives.parsed))
        (is, own_leads at bytes is gives)
    read_goes at answer is fair = absurd (fair.0 is)

    -- an index that is loading still is, or is loaded
    loader_goes : (loader : IndexLoader) → AtHand loader → (answer : Answer) → IsFair multi hash id place past (load.ask_of loader) answer
        → IsKept hash id (pack_at place) (IsItsIndex place) (load.fed hash loader answer)
    loader_goes (loaders.Reading at) here (told.Disk answer) fair = read_goes at answer here fair
    loader_goes (loaders.Reading at) here (told.Core answer) fair = absurd fair
    loader_goes (loaders.Storing at file) here (told.Core (Ok effect)) fair =
        stored_leads hash id (pack_at place) (IsItsIndex place) at file effect here (views_lead effect fair.0)
    loader_goes (loaders.Storing at file) here (told.Core (Err refusal)) fair = tt
    loader_goes (loaders.Storing at file) here (told.Disk answer) fair = absurd fair
    loader_goes (loaders.Passing at why) here answer fair = absurd here

    module _ (goal : Goal) (own : goal.id ≡ id) (ahead : Ahead) (able : IsSearchable hash id (pack_at place) (IsItsIndex place) ahead) where
      -- ---- packs

      given_goes : (given : Result Found Error) → NoMiss (by_given given)
      given_goes (Ok what) = tt
      given_goes (Err error) = tt

      pack_goes : (wanted : WantedPack) (bytes : List ℕ) (b : Bool)
          → NoMiss (cond b (at goal ahead (stages.StoringPack wanted (record { kind = kind_of goal.id; bytes = bytes }))) (ends.Bad errors.LoadPack))
      pack_goes wanted bytes true = record { of_id = own; searchable = able; way = tt }
      pack_goes wanted bytes false = tt

      pack_read_goes : (wanted : WantedPack) (answer : DiskAnswer) → FairAt (stages.ReadingPack wanted) (told.Disk answer)
          → Way ahead (stages.ReadingPack wanted) → NoMiss (pack_read goal ahead wanted answer)
      pack_read_goes wanted (answers.File bytes time) fair way = pack_goes wanted bytes (is_pack (kind_of goal.id) bytes)
      pack_read_goes wanted (answers.Refused disk_errors.Absent) fair (inl is) = absurd (fair.2 is)
      pack_read_goes wanted (answers.Refused disk_errors.Absent) fair (inr has) = record { of_id = own; searchable = able; way = (fair.2, has) }
      pack_read_goes wanted answer fair way = tt

      -- ---- an answer

      answer_goes : (stage : Stage) → Way ahead stage → (answer : Answer) → FairAt stage answer → NoMiss (by_answer goal ahead stage answer)
      answer_goes (stages.Loading loader) (inl here) answer fair =
          load_goes hash id (pack_at place) (IsItsIndex place) goal own ahead able (load.fed (kind_of goal.id) loader answer)
          (inl (subst (λ (kind : Kind). IsKept hash id (pack_at place) (IsItsIndex place) (load.fed kind loader answer)) (sym (ap kind_of own ∙ of_hash))
          (loader_goes loader here answer fair)))
      answer_goes (stages.Loading loader) (inr has) answer fair =
          load_goes hash id (pack_at place) (IsItsIndex place) goal own ahead able (load.fed (kind_of goal.id) loader answer) (inr has)
      answer_goes (stages.ReadingPack wanted) way (told.Disk answer) fair = pack_read_goes wanted answer fair way
      answer_goes (stages.ReadingPack wanted) way (told.Core answer) fair = absurd fair
      answer_goes (stages.StoringPack wanted file) way (told.Disk answer) fair = absurd fair
      answer_goes (stages.StoringPack wanted file) way (told.Core (Ok effect)) fair =
          given_goes (given_by goal.want goal.limit (unwrap_or (pack_behind wanted effect) file) wanted.offset)
      answer_goes (stages.StoringPack wanted file) way (told.Core (Err refusal)) fair = tt
      answer_goes (stages.PassingPack wanted) way (told.Disk answer) fair = absurd fair
      answer_goes (stages.PassingPack wanted) way (told.Core (Ok effect)) fair = passed_goes hash id (pack_at place) (IsItsIndex place) goal own ahead able wanted way
      answer_goes (stages.PassingPack wanted) way (told.Core (Err refusal)) fair = tt

    -- a try that is on its way still is, and doesn't miss
    pub try_goes : (trier : Trier) → IsTracked hash id (pack_at place) (IsItsIndex place) trier → (answer : Answer) → FairAt trier.stage answer → NoMiss (fed trier answer)
    try_goes trier tracked answer fair = answer_goes trier.goal tracked.of_id trier.ahead tracked.searchable trier.stage tracked.way answer fair
