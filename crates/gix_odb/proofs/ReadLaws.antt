-- Laws of what look-ups read: it is passed to the core in the next turn, and nothing else is.
mod Stored
use Rattle.std.proofs.Common.{◌≡◌, inl, inr, ℕ, Bool, true, false, cond, List, [], ◌∷◌, ◌++◌, codes, Option, Some, sym, ap, ◌∙◌, subst}
use Rattle.std.proofs.lemmas.Option.{same_Some}
use Rattle.odb_base.specs.Path.{Name, Path}
use Rattle.odb_disk.specs.declared.ask.DiskAnswer.{DiskAnswer}
use Rattle.odb_disk.specs.declared.ask.DiskAnswer.TheVariants as answers
use Rattle.odb_disk.specs.declared.ask.DiskAsk.TheVariants as disk_asks
use Rattle.odb_disk.specs.declared.disk_error.DiskError.TheVariants as disk_errors
use Rattle.gix_hash.specs.ObjectId.{kind_of}
use Rattle.gix_hash.specs.declared.kind.Kind.{Kind}
use Rattle.gix_hash.specs.declared.object_id.ObjectId.{ObjectId}
use Rattle.gix_pack_read.specs.FileBytes.{FileBytes}
use Rattle.gix_pack_read.specs.Index.{is_index}
use Rattle.gix_pack_read.specs.Pack.{is_pack}
use Rattle.gix_odb_events.specs.declared.pack_id.PackId.{PackId}
use Rattle.gix_odb_loose.specs.LooseFile.{loose_path}
use Rattle.gix_odb_events.specs.declared.event.Event.{Event}
use Rattle.gix_odb_events.specs.declared.event.Event.TheVariants as events
use Rattle.gix_odb_events.specs.declared.event.PassWhy.TheVariants as whys
use Rattle.gix_odb_events.specs.declared.view.View.{View}
use Rattle.gix_odb_search.specs.ListOrder as lists
use Rattle.gix_odb_search.specs.PackFolder.{multi_index_path, pack_folder}
use Rattle.gix_odb_search.specs.TryOrder as tries
use Rattle.gix_odb_events.specs.declared.answer.Answer.{Answer}
use Rattle.gix_odb_events.specs.declared.answer.Answer.TheVariants as told
use Rattle.gix_odb_events.specs.declared.answer.Ask.{Ask}
use Rattle.gix_odb_events.specs.declared.answer.Ask.TheVariants as asks
use Rattle.gix_odb_search.specs.declared.goal.Error.TheVariants as errors
use Rattle.gix_odb_search.specs.declared.goal.Goal.{Goal}
use Rattle.gix_odb_search.specs.declared.index_loader.IndexLoader.TheVariants as loaders
use Rattle.gix_odb_search.specs.declared.index_loader.IndexPlace.{IndexPlace}
use Rattle.gix_odb_search.specs.declared.lister.ListStage.{ListStage}
use Rattle.gix_odb_search.specs.declared.lister.ListStage.TheVariants as list_stages
use Rattle.gix_odb_search.specs.declared.trier.Ahead.{Ahead}
use Rattle.gix_odb_search.specs.declared.search.WantedPack.{WantedPack}
use Rattle.gix_odb_search.specs.declared.trier.Stage.{Stage}
use Rattle.gix_odb_search.specs.declared.trier.Stage.TheVariants as tries_stages
use Rattle.gix_odb_search.specs.declared.trier.Tried.TheVariants as ends
use Rattle.gix_odb_search.specs.declared.trier.Trier.{Trier}
use Rattle.gix_odb_calls.specs.Verdict.{asking, folder_ask}
use Rattle.gix_odb_calls.specs.declared.verdict.FolderCall.{FolderCall}
use Rattle.gix_object.specs.declared.want.Want.{Want}
use Rattle.gix_object.specs.declared.want.Want.TheVariants.{Object, Header, Presence}
use Rattle.gix_odb.specs.Found.{IsInIndex}
use Rattle.gix_odb.specs.LookExchanges.{AreAsked, Exchange, behind}
use Rattle.gix_odb.specs.LookUpOrder.{Setting, ask_at, ask_of, by_tried, fed, fed_at, seen, started}
use Rattle.gix_odb.specs.Shown.{IsIndexPath, IsShownView}
use Rattle.gix_odb.specs.True.{AreTrue, IsTrue}
use Rattle.gix_odb.specs.declared.refresh.Refresh.TheVariants as fronts
use Rattle.gix_odb.specs.declared.look_up.LookHead.{LookHead}
use Rattle.gix_odb.specs.declared.look_up.LookStage.{LookStage}
use Rattle.gix_odb.specs.declared.look_up.LookStage.TheVariants as stages
use Rattle.gix_odb.specs.declared.look_up.LookUp.{LookUp}
use Rattle.gix_odb.specs.declared.look_up.Part.{Part}
use Rattle.gix_odb.specs.declared.refresh_mode.RefreshMode.{RefreshMode}
use Rattle.gix_odb.proofs.FoundLaws.Behind.{look_known}
use Rattle.gix_odb.proofs.FoundLaws.Known.{KnowsLook, KnowsLookStage, KnowsLoose, KnowsStage, KnowsTrier}
use Rattle.gix_odb.proofs.HandedLaws.Stages.{same_ask}
use Rattle.gix_odb.specs.JustRead.{GotLast, IsOfLastRead, IsPackPath, ReadLast, read_of}
use Rattle.gix_odb.proofs.LastExchange.{Cut, asked-push, behind-push, none_or_cut, true_before, true_last}
use Rattle.gix_odb.proofs.PathsApart.{index_is_no_multi, index_is_no_pack, index_is_no_pack_in_multi, index_is_no_pack_of, loose_is_in_no_pack_folder, multi_is_no_pack}
use Rattle.gix_odb.proofs.ReadLaws.Stored.{IsRead, IsReadAt, answer_goes, seek_goes}
use Rattle.gix_odb.proofs.TrierAtHand.{Goes, OfStage, stage_goes, start_has}

-- ---- a read that is asked for

-- a listing reads the multi-pack index of its folder alone
lister_reads : (folder : Path) (stage : ListStage) (path : Path) → Some (asks.Disk (lists.ask_at folder stage)) ≡ Some (asks.Disk (disk_asks.Read path))
    → multi_index_path folder ≡ path
lister_reads folder list_stages.Opening path is = absurd (cc is)
lister_reads folder (list_stages.Reading dir entries) path is = absurd (cc is)
lister_reads folder (list_stages.Closing dir entries) path is = absurd (cc is)
lister_reads folder (list_stages.Breaking dir) path is = absurd (cc is)
lister_reads folder (list_stages.Index own left) path is = absurd (cc is)
lister_reads folder (list_stages.Pack row left) path is = absurd (cc is)
lister_reads folder (list_stages.Multi left) path is = cc is

-- the loose objects of a folder are read at one path
loose_reads : (limit : Option ℕ) (want : Want) (id : ObjectId) (folder path : Path)
    → Some (asks.Disk (folder_ask (asking limit want id folder))) ≡ Some (asks.Disk (disk_asks.Read path)) → loose_path folder id ≡ path
loose_reads limit Object id folder path is = cc is
loose_reads limit Header id folder path is = cc is
loose_reads limit Presence id folder path is = absurd (cc is)

module _ (Shown : Path → ℕ → List ℕ → Type 0) (setting : Setting) (hash : Kind) (want : Want) (id : ObjectId) (same : kind_of id ≡ hash) where
  no_loose : (all : List Exchange) (call : FolderCall) → KnowsLoose Shown setting hash id all want call → (folder : Path) (name : Name)
      → ¬ (Some (asks.Disk (folder_ask call)) ≡ Some (asks.Disk (disk_asks.Read (pack_folder folder ++ name ∷ []))))
  no_loose all call known folder name is =
      loose_is_in_no_pack_folder known.folder folder id name
      (loose_reads setting.parts.alloc_limit_bytes want id known.folder (pack_folder folder ++ name ∷ [])
      (ap (λ (c : FolderCall). Some (asks.Disk (folder_ask c))) (sym known.is) ∙ is))

  -- ---- an index that was read

  module _ (path : Path) (bytes : List ℕ) (time : ℕ) where
    abbrev file : FileBytes
    file = record { kind = hash; bytes = bytes }

    abbrev answer : Answer
    answer = told.Disk (answers.File bytes time)

    abbrev PutsIndex : Option Ask → Type 0
    PutsIndex ask = (slot : ℕ) × (ask ≡ Some (asks.Core (events.PutIndex slot path file)))

    abbrev PutsPack : Option Ask → Type 0
    PutsPack ask = (pack : PackId) × (ask ≡ Some (asks.Core (events.PutPack pack path file)))

    module _ (head : LookHead) (part : Part) (goal : Goal) (of_hash : kind_of goal.id ≡ hash) (ahead : Ahead) where
      abbrev next_by : Stage → Option Ask
      next_by stage = ask_at (by_tried setting head part (tries.by_answer goal ahead stage answer))

      index_tested : (place : IndexPlace) → place.path ≡ path → (b : Bool) → b ≡ true
          → PutsIndex (ask_at (by_tried setting head part (tries.at goal ahead
          (tries_stages.Loading (cond b (loaders.Storing place (record { kind = kind_of goal.id; bytes = bytes })) (loaders.Passing place whys.Bad))))))
      index_tested place at true is = (
        place.slot,
        ap (λ (p : Path). Some (asks.Core (events.PutIndex place.slot p (record { kind = kind_of goal.id; bytes = bytes })))) at
            ∙ ap (λ (kind : Kind). Some (asks.Core (events.PutIndex place.slot path (record { kind = kind; bytes = bytes })))) of_hash,
      )
      index_tested place at false is = absurd (cc is)

      -- an index has not the path of a pack in which an index gives the id an offset
      no_pack : IsIndexPath setting path → (other : Path) (offset : ℕ) → IsInIndex Shown setting hash id other offset → ¬ (path ≡ other)
      no_pack index other offset (inl single) is = index_is_no_pack_of setting path index single.path single.at (is ∙ single.is)
      no_pack index other offset (inr multi) is = index_is_no_pack_in_multi setting path index multi.path multi.at multi.name (is ∙ multi.is)

      index_put : IsIndexPath setting path → is_index hash bytes ≡ true → (stage : Stage) → KnowsStage Shown setting hash id stage
          → Some (tries.ask_at stage) ≡ Some (asks.Disk (disk_asks.Read path)) → PutsIndex (next_by stage)
      index_put index parsed (tries_stages.Loading (loaders.Reading place)) known is =
          index_tested place (cc is) (is_index (kind_of goal.id) bytes) (subst (λ (kind : Kind). is_index kind bytes ≡ true) (sym of_hash) parsed)
      index_put index parsed (tries_stages.ReadingPack pack) known is =
          let at : pack.path ≡ path = cc is in absurd (no_pack index pack.path pack.offset known (sym at))
      index_put index parsed (tries_stages.Loading (loaders.Storing place own)) known is = absurd (cc is)
      index_put index parsed (tries_stages.Loading (loaders.Passing place why)) known is = absurd (cc is)
      index_put index parsed (tries_stages.StoringPack pack own) known is = absurd (cc is)
      index_put index parsed (tries_stages.PassingPack pack) known is = absurd (cc is)

      pack_tested : (pack : WantedPack) → pack.path ≡ path → (b : Bool) → b ≡ true
          → PutsPack (ask_at (by_tried setting head part
          (cond b (tries.at goal ahead (tries_stages.StoringPack pack (record { kind = kind_of goal.id; bytes = bytes }))) (ends.Bad errors.LoadPack))))
      pack_tested pack at true is =
          let place : PackId = record { index = pack.slot; multipack_index = pack.place } in (
            place,
            ap (λ (p : Path). Some (asks.Core (events.PutPack place p (record { kind = kind_of goal.id; bytes = bytes })))) at
                ∙ ap (λ (kind : Kind). Some (asks.Core (events.PutPack place path (record { kind = kind; bytes = bytes })))) of_hash,
          )
      pack_tested pack at false is = absurd (cc is)

      pack_put : IsPackPath setting path → is_pack hash bytes ≡ true → (stage : Stage) → KnowsStage Shown setting hash id stage
          → Some (tries.ask_at stage) ≡ Some (asks.Disk (disk_asks.Read path)) → PutsPack (next_by stage)
      pack_put pack parsed (tries_stages.ReadingPack wanted) known is =
          pack_tested wanted (cc is) (is_pack (kind_of goal.id) bytes) (subst (λ (kind : Kind). is_pack kind bytes ≡ true) (sym of_hash) parsed)
      pack_put pack parsed (tries_stages.Loading (loaders.Reading place)) known is =
          let at : place.path ≡ path = cc is in
          absurd (index_is_no_pack setting place.path known (pack_folder pack.folder) pack.stem (at ∙ pack.is))
      pack_put pack parsed (tries_stages.Loading (loaders.Storing place own)) known is = absurd (cc is)
      pack_put pack parsed (tries_stages.Loading (loaders.Passing place why)) known is = absurd (cc is)
      pack_put pack parsed (tries_stages.StoringPack wanted own) known is = absurd (cc is)
      pack_put pack parsed (tries_stages.PassingPack wanted) known is = absurd (cc is)

    module _ (all : List Exchange) where
      goal_of_hash : (trier : Trier) → KnowsTrier Shown setting hash id all want trier → kind_of trier.goal.id ≡ hash
      goal_of_hash trier known = ap (λ (goal : Goal). kind_of goal.id) known.goal ∙ same

      abbrev Knows : LookStage → Type 0
      Knows stage = KnowsLookStage Shown setting hash id all want stage

      index_stage : IsIndexPath setting path → is_index hash bytes ≡ true → (head : LookHead) (stage : LookStage) → Knows stage
          → ask_at stage ≡ Some (asks.Disk (disk_asks.Read path)) → PutsIndex (ask_of (fed_at setting head stage answer))
      index_stage index parsed head (stages.Trying trier part) known is =
          index_put head part trier.goal (goal_of_hash trier known) trier.ahead index parsed trier.stage known.stage is
      index_stage index parsed head (stages.Loose round call) known is =
          absurd (no_loose all call known index.folder index.name (is ∙ ap (λ (p : Path). Some (asks.Disk (disk_asks.Read p))) index.is))
      index_stage index parsed head (stages.Refreshing fronts.Reading purpose notes) known is = absurd (cc is)
      index_stage index parsed head (stages.Refreshing (fronts.Listing lister) purpose notes) known is =
          absurd (index_is_no_multi setting path index lister.head.folder (sym (lister_reads lister.head.folder lister.stage path is)))
      index_stage index parsed head (stages.Refreshing (fronts.Publishing listing) purpose notes) known is = absurd (cc is)
      index_stage index parsed head (stages.Checking list_no notes) known is = absurd (cc is)
      index_stage index parsed head (stages.Done reply) known is = absurd (cc is)

      pack_stage : IsPackPath setting path → is_pack hash bytes ≡ true → (head : LookHead) (stage : LookStage) → Knows stage
          → ask_at stage ≡ Some (asks.Disk (disk_asks.Read path)) → PutsPack (ask_of (fed_at setting head stage answer))
      pack_stage pack parsed head (stages.Trying trier part) known is =
          pack_put head part trier.goal (goal_of_hash trier known) trier.ahead pack parsed trier.stage known.stage is
      pack_stage pack parsed head (stages.Loose round call) known is =
          absurd (no_loose all call known pack.folder (pack.stem ++ codes ".pack") (is ∙ ap (λ (p : Path). Some (asks.Disk (disk_asks.Read p))) pack.is))
      pack_stage pack parsed head (stages.Refreshing fronts.Reading purpose notes) known is = absurd (cc is)
      pack_stage pack parsed head (stages.Refreshing (fronts.Listing lister) purpose notes) known is =
          absurd (multi_is_no_pack lister.head.folder (pack_folder pack.folder) pack.stem (lister_reads lister.head.folder lister.stage path is ∙ pack.is))
      pack_stage pack parsed head (stages.Refreshing (fronts.Publishing listing) purpose notes) known is = absurd (cc is)
      pack_stage pack parsed head (stages.Checking list_no notes) known is = absurd (cc is)
      pack_stage pack parsed head (stages.Done reply) known is = absurd (cc is)

  -- ---- an event that is asked for

  module _ (all : List Exchange) where
    abbrev Read : Path → DiskAnswer → Type 0
    Read path own = ReadLast all path own

    abbrev Backed : Ask → Type 0
    Backed (asks.Core event) = IsOfLastRead hash all event
    Backed ask = Unit {0}

    trier_backed : (stage : Stage) → IsReadAt Read hash stage → Backed (tries.ask_at stage)
    trier_backed (tries_stages.Loading (loaders.Reading place)) here = tt
    trier_backed (tries_stages.Loading (loaders.Storing place own)) here = record { time = here.0; last = here.1 }
    trier_backed (tries_stages.Loading (loaders.Passing place why)) here = record { answer = here.0; last = here.1; reason = here.2 }
    trier_backed (tries_stages.ReadingPack pack) here = tt
    trier_backed (tries_stages.StoringPack pack own) here = record { time = here.0; last = here.1 }
    trier_backed (tries_stages.PassingPack pack) here = record { answer = answers.Refused disk_errors.Absent; last = here; reason = tt }

    stage_backed : (stage : LookStage) → OfStage (IsRead Read hash) stage → (ask : Ask) → ask_at stage ≡ Some ask → Backed ask
    stage_backed (stages.Trying trier part) here ask is = same_ask Backed ask (tries.ask_of trier) (trier_backed trier.stage here) is
    stage_backed (stages.Loose round call) here ask is = same_ask Backed ask (asks.Disk (folder_ask call)) tt is
    stage_backed (stages.Refreshing fronts.Reading purpose notes) here ask is = same_ask Backed ask (asks.Core events.Look) tt is
    stage_backed (stages.Refreshing (fronts.Listing lister) purpose notes) here ask is = same_ask Backed ask (asks.Disk (lists.ask_of lister)) tt is
    stage_backed (stages.Refreshing (fronts.Publishing listing) purpose notes) here ask is = same_ask Backed ask (asks.Core (events.Publish listing)) tt is
    stage_backed (stages.Checking list_no notes) here ask is = same_ask Backed ask (asks.Core events.Look) tt is
    stage_backed (stages.Done reply) here ask is = absurd (cc is)

    module _ (last : Exchange) (just : (path : Path) (own : DiskAnswer) → last ≡ read_of path own → Read path own) where
      goes : (past : List Exchange) (stage : LookStage) → KnowsLookStage Shown setting hash id past want stage → ask_at stage ≡ Some last.ask
          → IsTrue Shown setting hash last.ask last.answer → Goes (IsRead Read hash) stage last.answer
      goes past (stages.Trying trier part) known is truth =
          let own_ask : tries.ask_of trier ≡ last.ask = same_Some _ last.ask is in
          answer_goes Read hash trier.goal (ap (λ (goal : Goal). kind_of goal.id) known.goal ∙ same) trier.ahead Shown setting trier.stage last.answer
          (subst (λ (a : Ask). IsTrue Shown setting hash a last.answer) (sym own_ask) truth)
          (λ path own reads answered.
          let asked : last.ask ≡ asks.Disk (disk_asks.Read path) = sym own_ask ∙ reads in
          just path own (λ i. record { ask = asked i; answer = answered i }))
      goes past (stages.Loose round call) known is truth = tt
      goes past (stages.Refreshing refresh purpose notes) known is truth = tt
      goes past (stages.Checking list_no notes) known is truth = tt
      goes past (stages.Done reply) known is truth = tt

  -- ---- the laws

  module _ (mode : RefreshMode) (view : View) (shown : IsShownView Shown setting hash view) where
    abbrev start : LookUp
    start = started setting mode view want id

    module _ (past : List Exchange) (last : Exchange) (asked : AreAsked setting start (past ++ last ∷ [])) (truth : AreTrue Shown setting hash (past ++ last ∷ [])) where
      abbrev before : LookUp
      before = behind setting start past

      known_before : KnowsLook Shown setting hash id past want before
      known_before =
          look_known Shown setting hash want id same mode view shown past (asked-push setting start past last asked).0 (true_before Shown setting hash past last truth)

      is_asked : ask_of before ≡ Some last.ask
      is_asked = (asked-push setting start past last asked).1

      behind_last : behind setting start (past ++ last ∷ []) ≡ fed setting before last.answer
      behind_last = behind-push setting start past last

    read_then_put : (past : List Exchange) (path : Path) (bytes : List ℕ) (time : ℕ) → AreAsked setting start (past ++ read_of path (answers.File bytes time) ∷ [])
        → AreTrue Shown setting hash (past ++ read_of path (answers.File bytes time) ∷ []) → IsIndexPath setting path → is_index hash bytes ≡ true
        → PutsIndex path bytes time (ask_of (behind setting start (past ++ read_of path (answers.File bytes time) ∷ [])))
    read_then_put past path bytes time asked truth index parsed =
        let last = read_of path (answers.File bytes time) in
        let earlier = before past last asked truth in
        subst (λ (look : LookUp). PutsIndex path bytes time (ask_of look)) (sym (behind_last past last asked truth))
        (index_stage path bytes time past index parsed (seen earlier.head last.answer) earlier.stage (known_before past last asked truth).stage
        (is_asked past last asked truth))

    read_then_put_pack : (past : List Exchange) (path : Path) (bytes : List ℕ) (time : ℕ)
        → AreAsked setting start (past ++ read_of path (answers.File bytes time) ∷ [])
        → AreTrue Shown setting hash (past ++ read_of path (answers.File bytes time) ∷ []) → IsPackPath setting path → is_pack hash bytes ≡ true
        → PutsPack path bytes time (ask_of (behind setting start (past ++ read_of path (answers.File bytes time) ∷ [])))
    read_then_put_pack past path bytes time asked truth pack parsed =
        let last = read_of path (answers.File bytes time) in
        let earlier = before past last asked truth in
        subst (λ (look : LookUp). PutsPack path bytes time (ask_of look)) (sym (behind_last past last asked truth))
        (pack_stage path bytes time past pack parsed (seen earlier.head last.answer) earlier.stage (known_before past last asked truth).stage
        (is_asked past last asked truth))

    module _ (exchanges : List Exchange) (asked : AreAsked setting start exchanges) (truth : AreTrue Shown setting hash exchanges) where
      abbrev look : LookUp
      look = behind setting start exchanges

      -- An index that was just read, with bytes that parse, is stored in the next turn.
      pub index_that_was_read_is_stored_next : (path : Path) (bytes : List ℕ) → IsIndexPath setting path → is_index hash bytes ≡ true → GotLast exchanges path bytes
          → (slot : ℕ) × (ask_of look ≡ Some (asks.Core (events.PutIndex slot path (record { kind = hash; bytes = bytes }))))
      index_that_was_read_is_stored_next path bytes index parsed got =
          let split = got.last.1 in
          subst (λ (es : List Exchange). PutsIndex path bytes got.time (ask_of (behind setting start es))) (sym split)
          (read_then_put got.last.0 path bytes got.time (subst (AreAsked setting start) split asked) (subst (AreTrue Shown setting hash) split truth) index parsed)

      -- So is a pack.
      pub pack_that_was_read_is_stored_next : (path : Path) (bytes : List ℕ) → IsPackPath setting path → is_pack hash bytes ≡ true → GotLast exchanges path bytes
          → (pack : PackId) × (ask_of look ≡ Some (asks.Core (events.PutPack pack path (record { kind = hash; bytes = bytes }))))
      pack_that_was_read_is_stored_next path bytes pack parsed got =
          let split = got.last.1 in
          subst (λ (es : List Exchange). PutsPack path bytes got.time (ask_of (behind setting start es))) (sym split)
          (read_then_put_pack got.last.0 path bytes got.time (subst (AreAsked setting start) split asked) (subst (AreTrue Shown setting hash) split truth) pack parsed)

      cut_reads : (cut : Cut exchanges) → OfStage (IsRead (Read exchanges) hash) look.stage
      cut_reads cut =
          let asked_so = subst (AreAsked setting start) cut.is asked in
          let truth_so = subst (AreTrue Shown setting hash) cut.is truth in
          let earlier = before cut.past cut.last asked_so truth_so in
          subst (λ (es : List Exchange). OfStage (IsRead (Read exchanges) hash) (behind setting start es).stage) (sym cut.is)
          (subst (λ (l : LookUp). OfStage (IsRead (Read exchanges) hash) l.stage) (sym (behind_last cut.past cut.last asked_so truth_so))
          (stage_goes (IsRead (Read exchanges) hash) setting (seek_goes (Read exchanges) hash) (seen earlier.head cut.last.answer) earlier.stage cut.last.answer
          (goes exchanges cut.last (λ path own same_so. (cut.past, cut.is ∙ ap (λ (e : Exchange). cut.past ++ e ∷ []) same_so)) cut.past earlier.stage
          (known_before cut.past cut.last asked_so truth_so).stage (is_asked cut.past cut.last asked_so truth_so)
          (true_last Shown setting hash cut.past cut.last truth_so))))

      reads : OfStage (IsRead (Read exchanges) hash) look.stage
      reads =
          elim (none_or_cut exchanges) [
            | inl none ↦
                subst (λ (es : List Exchange). OfStage (IsRead (Read exchanges) hash) (behind setting start es).stage) none
                (start_has (IsRead (Read exchanges) hash) setting (seek_goes (Read exchanges) hash) mode view want id)
            | inr cut ↦ cut_reads cut
          ]

      -- A file that is stored is what was read in the turn before, at its path; and a file is passed over in the turn after a read of its path,
      -- for what that read gave.
      pub what_is_stored_or_passed_over_was_just_read : (event : Event) → ask_of look ≡ Some (asks.Core event) → IsOfLastRead hash exchanges event
      what_is_stored_or_passed_over_was_just_read event is = stage_backed exchanges look.stage reads (asks.Core event) is
