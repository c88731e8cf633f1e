-- The reply of a query keeps its promise, where all answers to its handle are true of the run.
use Rattle.std.proofs.Common.{◌≡◌, ℕ, ◌≤◌, true, false, List, length, Contains, Ok, inl, inr, refl, sym, ◌∙◌, ap, subst, arith}
use Rattle.odb_base.specs.Path.{Name, Path}
use Rattle.odb_disk.specs.Tree.{Tree}
use Rattle.odb_disk.specs.MemDisk.{Volume, next_fails}
use Rattle.gix_hash.specs.ObjectId.{kind_of}
use Rattle.gix_hash.specs.declared.object_id.ObjectId.{ObjectId}
use Rattle.gix_odb_events.specs.declared.event.Refusal.{Refusal}
use Rattle.gix_odb_events.specs.declared.event.Refusal.TheVariants as refusals
use Rattle.gix_odb_events.specs.declared.view.View.{View}
use Rattle.gix_odb_loose.proofs.CauseLaws.{Cause-wider}
use Rattle.gix_odb_loose.specs.LooseFile.{LeadsToFile, loose_path}
use Rattle.gix_odb_loose.specs.LooseOrder.{job_of}
use Rattle.gix_odb_loose.specs.declared.find.Error as loose
use Rattle.gix_odb_calls.specs.Verdict.{asking, folder_ask, folder_verdict, refused}
use Rattle.gix_odb_calls.specs.declared.call.CallError.TheVariants as call_errors
use Rattle.gix_odb_calls.specs.declared.call.Reply.{Reply}
use Rattle.gix_odb_calls.specs.declared.call.Reply.TheVariants as replies
use Rattle.gix_odb_calls.specs.declared.find.Error as finding
use Rattle.gix_odb_calls.specs.declared.find.Error.TheVariants as errors
use Rattle.gix_odb_calls.specs.declared.find.Header.TheVariants as headers
use Rattle.gix_odb_calls.specs.declared.load_index.Error.TheVariants as load_errors
use Rattle.gix_odb_calls.specs.declared.query.Query.{Query}
use Rattle.gix_object.specs.declared.want.Want.{Want}
use Rattle.gix_object.specs.declared.want.Want.TheVariants as wants
use Rattle.gix_odb_calls.specs.declared.verdict.FolderCall.{FolderCall}
use Rattle.gix_odb_calls.specs.declared.verdict.Verdict.{Verdict}
use Rattle.gix_odb_calls.specs.declared.verdict.Verdict.TheVariants as verdicts
use Rattle.gix_odb_events.specs.PackPath.{folder_of, pack_in, pack_path}
use Rattle.gix_odb_search.specs.PackFolder.{multi_index_name, pack_folder}
use Rattle.gix_pack_read.specs.Pack.{entry_at, header_at, is_pack}
use Rattle.gix_odb.specs.Caused.{IsCaused}
use Rattle.gix_odb.specs.LookExchanges.{AreAsked, Exchange, HasVerdict, behind}
use Rattle.gix_odb.specs.Fair.{ItsIndex, PackedPlace, TheMulti}
use Rattle.gix_odb.specs.Found.{Gives, IsEntryReply, IsFound, IsHeaderReply, IsInIndex, IsInPack}
use Rattle.gix_odb.specs.LookUpOrder.{Setting, not_found, result_of, started}
use Rattle.gix_odb.specs.Reply.{IsAnswer, IsReplyTo}
use Rattle.gix_odb.specs.declared.look_up.LookUp.{LookUp}
use Rattle.gix_odb.proofs.CauseLaws.{each_refusal_has_its_cause, replies_are_of_the_query}
use Rattle.gix_odb.proofs.FoundLaws.{what_is_found_was_shown}
use Rattle.gix_odb.proofs.MissLaws.{not_found_had_no_failure, not_found_missed_in_each_folder, nothing_still_in_packs_is_missed, nothing_still_since_the_opening_is_missed}
use Rattle.gix_odb.specs.Contents.{Answer, Contents, HeaderOf, Holds, HoldsEntry, InIndex, InMulti, InMultiPack, InPack, LooseFile, Object, Presence, folder_list, sought}
use Rattle.gix_odb.specs.Held.{Held, InLooseFile, InMultiPackFile, InPackFile, LiesAt, Place, Still, WasShown, WasShownAt, WasShownWith, index_path, multi_path}
use Rattle.gix_odb.specs.Moments.{Throughout}
use Rattle.gix_odb.specs.Shown.{ShowedBytes}
use Rattle.gix_odb.specs.Store.{listed_for}
use Rattle.gix_odb.specs.declared.refresh_mode.RefreshMode.{RefreshMode}
use Rattle.gix_odb.specs.declared.refresh_mode.RefreshMode.TheVariants.{AfterAllIndicesLoaded, Never}
use Rattle.gix_odb_world.specs.AtWork.{Modes, Store, setting_in}
use Rattle.gix_odb_world.specs.Causes.{FindCause, GaveSometime, LooseCause, Sometime}
use Rattle.gix_odb_history.specs.Event.{Event}
use Rattle.gix_odb_world.specs.Promise.{Claim, Keeps, QueryPromise, claim_of, still_from}
use Rattle.gix_odb_history.specs.Run.{FailedSince, tree_at}
use Rattle.gix_odb_world.specs.Refused.{RefusedSince}
use Rattle.gix_odb_world.specs.Running.PackedStill.{IndicesShowOne, IsPackedStill}
use Rattle.gix_odb_world.specs.Running.Refused.{AreRefused}
use Rattle.gix_odb_world.specs.Running.Query.{IsFit, IsGiven, IsToldWell}
use Rattle.gix_odb_world.specs.Told.{look_begun, look_now, told_since, view_then}
use Rattle.gix_odb_history.proofs.FailedLemmas.{fails_now-still}
use Rattle.gix_odb_world.proofs.FolderLemmas.{VerdictSays, folder_asks_still, folder_says}
use Rattle.gix_odb_world.proofs.PackPaths.{folder_of-push}
use Rattle.gix_odb_world.proofs.PackedStill.Contents.{lies_by_index, lies_by_multi, packed_at, sound_multi_gives, uses_multis}
use Rattle.gix_odb_world.proofs.PackedStill.Moments.{still_later}
use Rattle.gix_odb_world.proofs.ReadsShown.{shown_at}
use Rattle.gix_odb_world.proofs.RefusedLemmas.{never_for_memory, since_told}

-- what held at some moment held until later
sometime_later : (begun moment now : ℕ) → moment ≤ now → (P : ℕ → Type 0) → Sometime begun moment P → Sometime begun now P
sometime_later begun moment now to P was =
    let own = was.to in record { moment = was.moment; from = was.from; to = omega (arith, own, to); was = was.was }

module _ (first : Volume) (events : List Event) (handle : ℕ) (store : Store) (modes : Modes) (begun : ℕ) (query : Query) (fits : IsFit store modes query)
    (asked : AreAsked (setting_in store) (look_begun events handle store modes begun query) (told_since events handle begun))
    (well : IsToldWell first events handle store modes begun) (refusing : AreRefused events handle modes.core begun)
    (rule : IndicesShowOne (tree_at first events) store (length events)) where
  abbrev trees : ℕ → Tree
  trees = tree_at first events

  abbrev now : ℕ
  now = length events

  abbrev Failed : Type 0
  Failed = FailedSince events handle begun

  abbrev Refused : Refusal → Type 0
  Refused refusal = RefusedSince events handle modes.core begun refusal

  abbrev told : List Exchange
  told = told_since events handle begun

  abbrev want : Want
  want = query.want

  abbrev id : ObjectId
  id = sought store.parts modes.ignoring query

  abbrev view : View
  view = view_then events handle modes.core begun

  abbrev setting : Setting
  setting = setting_in store

  abbrev Shown : Path → ℕ → List ℕ → Type 0
  Shown path time bytes = WasShownWith trees store.opened now path time bytes

  abbrev look : LookUp
  look = look_now events handle store modes begun query

  abbrev Says : Claim → Type 0
  Says claim = Keeps trees Failed Refused told store modes.refresh begun now want id claim

  abbrev IsHeld : Answer → Type 0
  IsHeld answer = Held trees store.parts store.opened begun now want id answer

  -- ---- what held at a moment of the query holds of the query

  module _ (moment : ℕ) (to : moment ≤ now) where
    shown_later : (folder : Path) (contents : Contents) → WasShown trees store.opened begun moment folder id contents
        → WasShown trees store.opened begun now folder id contents
    shown_later folder (LooseFile bytes) was = sometime_later begun moment now to _ was
    shown_later folder (InIndex name index offset) was = (was.0, sometime_later store.opened moment now to _ was.1)
    shown_later folder (InPack name index pack offset) was =
        (was.0, sometime_later store.opened moment now to _ was.1, sometime_later store.opened moment now to _ was.2)
    shown_later folder (InMulti name multi offset) was = sometime_later store.opened moment now to _ was
    shown_later folder (InMultiPack name multi pack offset) was = (sometime_later store.opened moment now to _ was.0, sometime_later store.opened moment now to _ was.1)

    held_later : (answer : Answer) → Held trees store.parts store.opened begun moment want id answer → IsHeld answer
    held_later answer held =
        record { folder = held.folder; among = held.among; contents = held.contents; shown = shown_later held.folder held.contents held.shown; holds = held.holds }

    cause_later : (error : loose.Error) → LooseCause trees Failed store begun moment want id error → LooseCause trees Failed store begun now want id error
    cause_later error caused = record {
      folder = caused.folder;
      among = caused.among;
      cause =
          Cause-wider (GaveSometime trees begun moment (loose_path caused.folder id)) (GaveSometime trees begun now (loose_path caused.folder id))
          (λ read was. sometime_later begun moment now to _ was) Failed Failed ⊥ ⊥ (λ failed. failed) (λ never. never)
          (job_of want id) (loose_path caused.folder id) store.parts.alloc_limit_bytes error caused.cause;
    }

  -- ---- what the loose objects of a folder said

  module _ (folder : Path) (among : Contains (folder_list store.parts) folder) (verdict : Verdict) (has : HasVerdict setting want id told folder verdict) where
    abbrev call : FolderCall
    call = asking store.parts.alloc_limit_bytes want id folder

    given : IsGiven first events handle begun (folder_ask call) has.answer
    given = well.given (folder_ask call) has.answer has.told

    -- a failed call of the folder is one of the query
    fails : next_fails given.disk ≡ true → Failed
    fails is = given.failed (fails_now-still given.disk (folder_ask call) (folder_asks_still store.parts.alloc_limit_bytes want id folder) ∙ is)

    said : VerdictSays trees Failed Refused told store modes.refresh begun given.moment want id folder (next_fails given.disk) verdict
    said =
        let says = folder_says trees Failed Refused told store modes.refresh begun given.moment given.from given.disk given.shown fails id folder among want in
        subst (VerdictSays trees Failed Refused told store modes.refresh begun given.moment want id folder (next_fails given.disk))
        (ap (folder_verdict call) (sym given.is) ∙ has.is) says

  -- what a folder's loose objects said of a reply, and so of a claim
  claim_later : (moment : ℕ) → moment ≤ now → (reply : Reply) → IsAnswer reply
      → Keeps trees Failed Refused told store modes.refresh begun moment want id (claim_of want reply) → Says (claim_of want reply)
  claim_later moment to reply answer keeps = by want reply answer keeps
    where
      by : (wanted : Want) (reply : Reply) → IsAnswer reply → Keeps trees Failed Refused told store modes.refresh begun moment want id (claim_of wanted reply) → Says (claim_of wanted reply)
      by wants.Object (replies.Found kind bytes) answer keeps = held_later moment to (Object kind bytes) keeps
      by wants.Object (replies.Header header) answer keeps = keeps
      by wants.Object (replies.Tested true) answer keeps = keeps
      by wants.Header (replies.Header header) answer keeps = held_later moment to (HeaderOf header) keeps
      by wants.Header (replies.Found kind bytes) answer keeps = keeps
      by wants.Header (replies.Tested true) answer keeps = keeps
      by wants.Presence (replies.Tested true) answer keeps = held_later moment to Presence keeps
      by wants.Presence (replies.Found kind bytes) answer keeps = keeps
      by wants.Presence (replies.Header header) answer keeps = keeps
      by wanted (replies.Tested false) answer keeps = absurd answer
      by wanted replies.NotFound answer keeps = absurd answer
      by wanted (replies.Refused error) answer keeps = absurd answer
      by wanted (replies.Wrote id) answer keeps = absurd answer
      by wanted (replies.Opened slots) answer keeps = absurd answer

  -- ---- what was found in packs

  -- what was shown at a path, by another name of the path
  was_at : (path other : Path) (bytes : List ℕ) → path ≡ other → ShowedBytes Shown path bytes → WasShownAt trees store.opened now other bytes
  was_at path other bytes is shown = subst (λ (p : Path). WasShownAt trees store.opened now p bytes) is (shown_at trees store.opened now path bytes shown)

  -- the row of an index, or of a multi-pack index, answers a test
  row_held : (pack : Path) (offset : ℕ) → IsInIndex Shown setting store.parts.object_hash id pack offset → want ≡ wants.Presence → IsHeld Presence
  row_held pack offset (inl row) is = record {
    folder = row.at.folder;
    among = row.at.among;
    contents = InIndex row.at.name row.bytes offset;
    shown = (row.at.named, was_at row.path (index_path row.at.folder row.at.name) row.bytes row.at.is row.shown);
    holds =
        subst (λ q. Holds store.parts q id (InIndex row.at.name row.bytes offset) Presence) (sym is)
        (subst (λ hash. Gives hash row.bytes id offset) (sym fits.hashed) row.gives, refl);
  }
  row_held pack offset (inr row) is = record {
    folder = row.at.folder;
    among = row.at.among;
    contents = InMulti row.name row.bytes offset;
    shown = was_at row.path (multi_path row.at.folder) row.bytes row.at.is row.shown;
    holds = subst (λ q. Holds store.parts q id (InMulti row.name row.bytes offset) Presence) (sym is) (row.gives, refl);
  }

  -- an index, or a multi-pack index, and a pack hold what the pack has at the offset
  module _ (Content : (pack : List ℕ) (offset : ℕ) → Type 0) (in_pack : IsInPack Shown setting store.parts.object_hash id Content) where
    parsed : is_pack (kind_of id) in_pack.pack ≡ true
    parsed = subst (λ hash. is_pack hash in_pack.pack ≡ true) (sym fits.hashed) in_pack.parsed

    pack_held : (answer : Answer) → HoldsEntry store.parts want (kind_of id) in_pack.pack in_pack.offset answer → IsHeld answer
    pack_held answer holds = by in_pack.index
      where
        by : IsInIndex Shown setting store.parts.object_hash id in_pack.path in_pack.offset → IsHeld answer
        by (inl row) = record {
          folder = row.at.folder;
          among = row.at.among;
          contents = InPack row.at.name row.bytes in_pack.pack in_pack.offset;
          shown = (
            row.at.named,
            was_at row.path (index_path row.at.folder row.at.name) row.bytes row.at.is row.shown,
            was_at in_pack.path (pack_path (index_path row.at.folder row.at.name)) in_pack.pack (row.is ∙ ap pack_path row.at.is) in_pack.shown,
          );
          holds = (subst (λ hash. Gives hash row.bytes id in_pack.offset) (sym fits.hashed) row.gives, parsed, holds);
        }
        by (inr row) =
            let parent : folder_of row.path ≡ pack_folder row.at.folder = ap folder_of row.at.is ∙ folder_of-push (pack_folder row.at.folder) multi_index_name in
            record {
              folder = row.at.folder;
              among = row.at.among;
              contents = InMultiPack row.name row.bytes in_pack.pack in_pack.offset;
              shown = (
                was_at row.path (multi_path row.at.folder) row.bytes row.at.is row.shown,
                was_at in_pack.path (pack_in (pack_folder row.at.folder) row.name) in_pack.pack (row.is ∙ ap (λ (f : Path). pack_in f row.name) parent) in_pack.shown,
              );
              holds = (row.gives, parsed, holds);
            }

  found : (wanted : Want) (reply : Reply) → want ≡ wanted → IsFound Shown setting store.parts.object_hash id wanted reply → Says (claim_of wanted reply)
  found wants.Object reply is in_pack =
      let own = in_pack.content in
      subst (λ r. Says (claim_of wants.Object r)) (sym own.is)
      (pack_held (λ pack offset. IsEntryReply store.parts.object_hash setting.parts.alloc_limit_bytes pack offset reply) in_pack (Object own.entry.kind own.entry.bytes)
      (subst (λ q. HoldsEntry store.parts q (kind_of id) in_pack.pack in_pack.offset (Object own.entry.kind own.entry.bytes)) (sym is)
      (own.entry, ap (λ hash. entry_at hash in_pack.pack in_pack.offset store.parts.alloc_limit_bytes) fits.hashed ∙ own.there, refl)))
  found wants.Header reply is in_pack =
      let own = in_pack.content in
      subst (λ r. Says (claim_of wants.Header r)) (sym own.is)
      (pack_held (λ pack offset. IsHeaderReply store.parts.object_hash pack offset reply) in_pack (HeaderOf (headers.Packed own.header.kind own.header.size))
      (subst (λ q. HoldsEntry store.parts q (kind_of id) in_pack.pack in_pack.offset (HeaderOf (headers.Packed own.header.kind own.header.size))) (sym is)
      (own.header, ap (λ hash. header_at hash in_pack.pack in_pack.offset) fits.hashed ∙ own.there, refl)))
  found wants.Presence reply is row =
      subst (λ r. Says (claim_of wants.Presence r)) (sym row.3) (row_held row.0 row.1 row.2 is)

  -- ---- the promise

  answered : (reply : Reply) → result_of look ≡ Ok reply → IsAnswer reply → Says (claim_of want reply)
  answered reply is answer =
      elim (what_is_found_was_shown Shown setting store.parts.object_hash want id fits.hashed modes.refresh view well.snapshot told asked well.truth reply is answer) [
        | inl in_packs ↦ found want reply refl in_packs
        | inr loose ↦
            let at = given loose.0 loose.1 (verdicts.Ends reply) loose.2 in
            claim_later at.moment at.to reply answer (said loose.0 loose.1 (verdicts.Ends reply) loose.2)
      ]

  -- ---- nothing was found

  -- the moment from which an object has to stay unchanged, and so one that isn't found must not have
  abbrev since : ℕ
  since = still_from modes.refresh store begun

  since_early : since ≤ begun
  since_early = by modes.refresh
    where
      by : (mode : RefreshMode) → still_from mode store begun ≤ begun
      by Never = well.opened
      by AfterAllIndicesLoaded = omega arith

  since_then : (moment : ℕ) → begun ≤ moment → since ≤ moment
  since_then moment from = let early = since_early in omega (arith, early, from)

  module _ (is : result_of look ≡ Ok (not_found want)) where
    none_failed : ¬ Failed
    none_failed failed = not_found_had_no_failure setting want id Shown store.parts.object_hash modes.refresh view told asked well.truth is (well.failures failed)

    module _ (folder : Path) (among : Contains (folder_list store.parts) folder) where
      abbrev has : HasVerdict setting want id told folder verdicts.Misses
      has = not_found_missed_in_each_folder setting want id modes.refresh view told asked is folder among

      -- the moment at which its loose objects were asked
      abbrev at : IsGiven first events handle begun (folder_ask (asking store.parts.alloc_limit_bytes want id folder)) has.answer
      at = given folder among verdicts.Misses has

      passed : ¬ (LeadsToFile (trees at.moment) (loose_path folder id))
      passed = (said folder among verdicts.Misses has).1

      -- nothing stayed unchanged in a pack of the folder
      none_packed : (place : PackedPlace) → place.folder ≡ folder → ¬ (IsPackedStill trees store since now id place)
      none_packed place here = by modes.refresh refl
        where
          among_them : Contains (folder_list store.parts) place.folder
          among_them = subst (Contains (folder_list store.parts)) (sym here) among

          by : (mode : RefreshMode) → modes.refresh ≡ mode → ¬ (IsPackedStill trees store (still_from mode store begun) now id place)
          by AfterAllIndicesLoaded mode still =
              nothing_still_in_packs_is_missed setting store.parts.object_hash view want id told fits.hashed place still.carried among_them
              (subst (λ (m : RefreshMode). AreAsked setting (started setting m view want id) told) mode asked) (well.fair id place none_failed still)
              (sym (ap (λ (m : RefreshMode). result_of (behind setting (started setting m view want id) told)) mode) ∙ is)
          by Never mode still =
              nothing_still_since_the_opening_is_missed setting store.parts.object_hash view want id told fits.hashed place still.carried among_them
              (subst (λ (m : RefreshMode). AreAsked setting (started setting m view want id) told) mode asked)
              (well.fair id place none_failed (still_later trees store store.opened begun now id place well.opened still)) (well.listed id place among_them still)
              (sym (ap (λ (m : RefreshMode). result_of (behind setting (started setting m view want id) told)) mode) ∙ is)

      -- no index gave it an offset throughout, with a pack of the same name
      not_in_pack : (name : Name) (offset : ℕ) → ¬ (Throughout since now (λ moment. LiesAt store.parts want (trees moment) folder id (InPackFile name offset)))
      not_in_pack name offset always =
          let named = (always at.moment (since_then at.moment at.from) at.to).named in
          none_packed (packed_at folder ItsIndex name offset) refl
          (record {
            carried = named;
            always = λ moment from to. lies_by_index store.parts want (trees moment) id fits.hashed folder name offset (always moment from to);
            one = rule folder among name named;
          })

      -- and no multi-pack index did, with a pack that it names
      not_by_multi : (name : Name) (offset : ℕ) → ¬ (Throughout since now (λ moment. LiesAt store.parts want (trees moment) folder id (InMultiPackFile name offset)))
      not_by_multi name offset always =
          let lies = always at.moment (since_then at.moment at.from) at.to in
          let gives = sound_multi_gives store.parts want id name lies.multi lies.pack offset lies.sound in
          none_packed (packed_at folder TheMulti name offset) refl
          (record {
            carried = uses_multis (listed_for store.parts).multi lies.multi gives.usable;
            always = λ moment from to. lies_by_multi store.parts want (trees moment) id folder name offset (always moment from to);
            one = tt;
          })

      none_still : (place : Place) → ¬ (Throughout since now (λ moment. LiesAt store.parts want (trees moment) folder id place))
      none_still InLooseFile always =
          let here = always at.moment (since_then at.moment at.from) at.to in passed (record { bytes = here.0; time = here.1.0; given = here.1.1; holds = tt })
      none_still (InPackFile name offset) always = not_in_pack name offset always
      none_still (InMultiPackFile name offset) always = not_by_multi name offset always

    missed : (¬ Failed) × (¬ (Still trees store.parts since now want id))
    missed = (none_failed, λ still. none_still still.folder still.among still.place still.always)

  refusal : (error : finding.Error) → result_of look ≡ Ok (replies.Refused (call_errors.Find error)) → FindCause trees Failed Refused told store begun now want id error
  refusal error is = by error (each_refusal_has_its_cause Shown setting store.parts.object_hash want id fits.hashed modes.refresh view well.snapshot told asked well.truth modes.slots 0 well.numbered error is)
    where
      by : (error : finding.Error) → IsCaused Shown setting store.parts.object_hash id want told error → FindCause trees Failed Refused told store begun now want id error
      by (errors.Loose error) caused =
          let at = given caused.0 caused.1 (verdicts.Ends (refused error)) caused.2 in
          cause_later at.moment at.to error (said caused.0 caused.1 (verdicts.Ends (refused error)) caused.2)
      by (errors.LoadIndex load_errors.Io) caused = caused
      by (errors.LoadIndex (load_errors.InsufficientSlots current needed)) caused =
          since_told events handle modes.core begun refusing (refusals.InsufficientSlots current needed) caused
      by (errors.LoadIndex load_errors.GenerationOverflow) caused = since_told events handle modes.core begun refusing refusals.GenerationOverflow caused
      by (errors.LoadIndex (load_errors.TooManyPacksInMultiIndex actual limit path)) caused = caused
      by (errors.LoadIndex (load_errors.Unsettled first_no own last)) caused = caused
      by (errors.LoadIndex load_errors.NoMemory) caused = never_for_memory events handle modes.core begun refusing caused
      by errors.LoadPack caused = caused
      by errors.Pack caused = caused
      by (errors.EntryType code) caused = caused
      by errors.DeltaEntry caused = caused
      by (errors.OutOfMemory size) caused = caused
      by errors.NoMemory caused = caused

  pub query_promise : (reply : Reply) → result_of look ≡ Ok reply → QueryPromise trees Failed Refused told store modes begun now query reply
  query_promise reply is = by want reply refl (replies_are_of_the_query setting modes.refresh view want id told reply is) is
    where
      missing : (reply : Reply) → result_of look ≡ Ok reply → reply ≡ not_found want → (¬ Failed) × (¬ (Still trees store.parts since now want id))
      missing reply is same = missed (is ∙ ap Ok same)

      by : (wanted : Want) (reply : Reply) → want ≡ wanted → IsReplyTo wanted reply → result_of look ≡ Ok reply → Says (claim_of wanted reply)
      by wants.Object (replies.Found kind bytes) same of is = subst (λ q. Says (claim_of q (replies.Found kind bytes))) same (answered (replies.Found kind bytes) is tt)
      by wants.Object replies.NotFound same of is =
          let none = missing replies.NotFound is (sym (ap not_found same)) in record { no_failure = none.0; none_still = none.1 }
      by wants.Object (replies.Refused (call_errors.Find error)) same of is = refusal error is
      by wants.Header (replies.Header header) same of is = subst (λ q. Says (claim_of q (replies.Header header))) same (answered (replies.Header header) is tt)
      by wants.Header replies.NotFound same of is =
          let none = missing replies.NotFound is (sym (ap not_found same)) in record { no_failure = none.0; none_still = none.1 }
      by wants.Header (replies.Refused (call_errors.Find error)) same of is = refusal error is
      by wants.Presence (replies.Tested true) same of is = subst (λ q. Says (claim_of q (replies.Tested true))) same (answered (replies.Tested true) is tt)
      by wants.Presence (replies.Tested false) same of is =
          let none = missing (replies.Tested false) is (sym (ap not_found same)) in record { no_failure = none.0; none_still = none.1 }
      by wants.Presence (replies.Refused (call_errors.Find error)) same of is = refusal error is
      by wanted reply same of is = absurd of
