-- What is known of a look-up behind exchanges: what its notes, its counts and its reply tell of them.
use Rattle.std.proofs.Common.{◌≡◌, ℕ, true, false, Bool, List, Contains, Option, Some, None, Result, Ok, Err, ◌⊎◌, refl, inl, inr}
use Rattle.odb_base.specs.Path.{Path}
use Rattle.odb_disk.specs.declared.ask.DiskAnswer.{DiskAnswer}
use Rattle.odb_disk.specs.declared.ask.DiskAnswer.TheVariants as answers
use Rattle.odb_disk.specs.declared.disk_error.DiskError.TheVariants as disk_errors
use Rattle.gix_hash.specs.declared.kind.Kind.{Kind}
use Rattle.gix_hash.specs.declared.object_id.ObjectId.{ObjectId}
use Rattle.gix_odb_loose.specs.LooseFile.{loose_path}
use Rattle.gix_odb_loose.specs.LooseOrder.Answered.{found_by, header_by, tested_by}
use Rattle.gix_odb_loose.specs.declared.find.Error as loose
use Rattle.gix_odb_loose.specs.declared.find.Error.TheVariants as loose_errors
use Rattle.gix_odb_events.specs.declared.event.Refusal.{Refusal}
use Rattle.gix_odb_events.specs.declared.event.Refusal.TheVariants as refusals
use Rattle.gix_odb_search.specs.declared.goal.Error as pack
use Rattle.gix_odb_search.specs.declared.goal.Error.TheVariants as pack_errors
use Rattle.gix_odb_search.specs.declared.goal.Found.{Found}
use Rattle.gix_odb_search.specs.declared.goal.Found.TheVariants as found
use Rattle.gix_odb_search.proofs.TrierLaws.{Passes}
use Rattle.gix_odb_calls.specs.Verdict.{asking, folder_verdict, refused, verdict_on_find, verdict_on_header, verdict_on_test}
use Rattle.gix_odb_calls.specs.declared.call.CallError.TheVariants as call_errors
use Rattle.gix_odb_calls.specs.declared.call.Reply.{Reply}
use Rattle.gix_odb_calls.specs.declared.call.Reply.TheVariants as replies
use Rattle.gix_odb_calls.specs.declared.find.Error.{Error}
use Rattle.gix_odb_calls.specs.declared.find.Error.TheVariants as find_errors
use Rattle.gix_object.specs.declared.kind.Kind as object
use Rattle.gix_object.specs.declared.want.Want.{Want}
use Rattle.gix_object.specs.declared.want.Want.TheVariants.{Object, Header, Presence}
use Rattle.gix_odb_calls.specs.declared.verdict.Verdict.{Verdict}
use Rattle.gix_odb_calls.specs.declared.verdict.Verdict.TheVariants as verdicts
use Rattle.gix_odb.specs.Caused.{IsLoadCaused, IsRefused}
use Rattle.gix_odb.specs.LookExchanges.{Exchange, HasFailed, HasVerdict, first_number, published_in}
use Rattle.gix_odb.specs.LoadIndex.{of_refusal}
use Rattle.gix_odb.specs.LookUpOrder.{Setting}
use Rattle.gix_odb.specs.LookUpOrder.{find_error, not_found}
use Rattle.gix_odb.specs.LookUpOrder.{reply_found}
use Rattle.gix_odb.specs.Shown.{folders_of}
use Rattle.gix_odb.specs.declared.refresh.Refresh.TheVariants as fronts
use Rattle.gix_odb.specs.declared.look_up.LookHead.{LookHead}
use Rattle.gix_odb.specs.declared.look_up.LookStage.{LookStage}
use Rattle.gix_odb.specs.declared.look_up.LookStage.TheVariants as stages
use Rattle.gix_odb.specs.declared.look_up.Part.{Part}
use Rattle.gix_odb.specs.declared.look_up.Part.TheVariants as parts
use Rattle.gix_odb.proofs.ListerLaws.Tells.{Breaks}
use Rattle.gix_odb.proofs.CauseLaws.Pasts.{Noted}

-- the core passed a view
abbrev pub HasBegun : LookHead → Type 0
HasBegun head = (number : ℕ) × (head.begun ≡ Some number)

-- after the snapshot a list is tried only if a view showed it
abbrev pub ShowedPart : LookHead → Part → Type 0
ShowedPart head parts.Snapshot = Unit {0}
ShowedPart head (parts.List list_no loose) = HasBegun head
ShowedPart head (parts.Published list_no) = HasBegun head

-- the counts of a look-up are those of its exchanges
pub record Counts (exchanges : List Exchange) (head : LookHead) : Type 0 where
  pub begun : head.begun ≡ first_number exchanges
  pub own : head.own ≡ published_in exchanges

module _ (Shown : Path → ℕ → List ℕ → Type 0) (setting : Setting) (hash : Kind) (id : ObjectId)
    (exchanges : List Exchange) where
  -- Why the loose objects of a folder, or the lists of packs, refuse a look-up. Running out of memory refuses none.
  abbrev pub IsListCaused : Want → Error → Type 0
  IsListCaused want (find_errors.Loose error) =
      (folder : Path) × Contains (folders_of setting) folder × HasVerdict setting want id exchanges folder (verdicts.Ends (refused error))
  IsListCaused want (find_errors.LoadIndex error) = IsLoadCaused Shown setting hash id exchanges error
  IsListCaused want find_errors.NoMemory = ⊥
  IsListCaused want error = Unit {0}

  abbrev pub IsExplained : Want → Reply → Type 0
  IsExplained want (replies.Refused (call_errors.Find error)) = IsListCaused want error
  IsExplained want reply = Unit {0}

  -- what is known at each stage
  abbrev pub KnowsAt : LookHead → LookStage → Type 0
  KnowsAt head (stages.Trying trier part) = Noted exchanges trier.ahead.notes × ShowedPart head part × Passes (HasFailed exchanges) trier.stage
  KnowsAt head (stages.Loose round call) = Noted exchanges round.notes × ShowedPart head round.part
  KnowsAt head (stages.Refreshing fronts.Reading purpose notes) = Noted exchanges notes
  KnowsAt head (stages.Refreshing (fronts.Listing lister) purpose notes) = Noted exchanges notes × HasBegun head × Breaks exchanges lister.stage
  KnowsAt head (stages.Refreshing (fronts.Publishing listing) purpose notes) = Noted exchanges notes × HasBegun head
  KnowsAt head (stages.Checking list_no notes) = Noted exchanges notes
  KnowsAt head (stages.Done reply) = IsExplained head.want reply

  -- ---- replies

  pub found_explained : (want : Want) (found : Found) → IsExplained want (reply_found found)
  found_explained want (found.Object kind bytes) = tt
  found_explained want (found.Header kind size) = tt
  found_explained want found.Presence = tt

  pub bad_explained : (want : Want) (error : pack.Error) → IsListCaused want (find_error error)
  bad_explained want pack_errors.LoadPack = tt
  bad_explained want pack_errors.Pack = tt
  bad_explained want (pack_errors.EntryType code) = tt
  bad_explained want pack_errors.DeltaEntry = tt
  bad_explained want (pack_errors.OutOfMemory size) = tt

  pub not_found_explained : (want : Want) → IsExplained want (not_found want)
  not_found_explained Object = tt
  not_found_explained Header = tt
  not_found_explained Presence = tt

  pub refusal_explained : (want : Want) (refusal : Refusal) → IsRefused exchanges refusal
      → IsListCaused want (find_errors.LoadIndex (of_refusal refusal))
  refusal_explained want (refusals.InsufficientSlots current needed) was = was
  refusal_explained want refusals.GenerationOverflow was = was
  refusal_explained want refusals.NoMemory was = was

  -- a verdict on the loose objects of a folder ends with an explained reply, or notes a failure
  abbrev pub VerdictTells : Want → Verdict → Type 0
  VerdictTells want (verdicts.Ends reply) = IsExplained want reply
  VerdictTells want verdicts.Misses = Unit {0}
  VerdictTells want (verdicts.Notes error) = HasFailed exchanges

  find_tells : (folder : Path) → Contains (folders_of setting) folder → (want : Want) (answer : Result (Option (object.Kind × List ℕ)) loose.Error)
      → HasVerdict setting want id exchanges folder (verdict_on_find answer) → VerdictTells want (verdict_on_find answer)
  find_tells folder among want (Ok (Some found)) says = tt
  find_tells folder among want (Ok None) says = tt
  find_tells folder among want (Err error) says = (folder, among, says)

  header_tells : (folder : Path) → Contains (folders_of setting) folder → (want : Want) (answer : Result (Option (ℕ × object.Kind)) loose.Error)
      → HasVerdict setting want id exchanges folder (verdict_on_header answer) → VerdictTells want (verdict_on_header answer)
  header_tells folder among want (Ok (Some found)) says = tt
  header_tells folder among want (Ok None) says = tt
  header_tells folder among want (Err error) says = (folder, among, says)

  test_tells : (folder : Path) → Contains (folders_of setting) folder → (want : Want) (answer : Result Bool loose.Error)
      → ((error : loose.Error) → answer ≡ Err error → HasFailed exchanges ⊎ (error ≡ loose_errors.NoMemory))
      → HasVerdict setting want id exchanges folder (verdict_on_test answer) → VerdictTells want (verdict_on_test answer)
  test_tells folder among want (Ok true) fails says = tt
  test_tells folder among want (Ok false) fails says = tt
  test_tells folder among want (Err loose_errors.NoMemory) fails says = (folder, among, says)
  test_tells folder among want (Err error) fails says =
      elim (fails error refl) [ inl failed ↦ failed | inr none ↦ absurd (cc none) ]

  -- a stat that failed is noted by its error
  tested_failed : (path : Path) (answer : DiskAnswer) → (answer ≡ answers.Refused disk_errors.Failed → HasFailed exchanges) → (error : loose.Error)
      → tested_by path answer ≡ Err error → HasFailed exchanges ⊎ (error ≡ loose_errors.NoMemory)
  tested_failed path (answers.Refused disk_errors.Failed) fails error is = inl (fails refl)
  tested_failed path (answers.Refused disk_errors.NoMemory) fails error is = inr cc
  tested_failed path (answers.Meta meta) fails error is = absurd (cc is)
  tested_failed path answer fails error is = absurd (cc is)

  -- the stage after a folder's answer
  pub folder_tells : (want : Want) (folder : Path) → Contains (folders_of setting) folder → (answer : DiskAnswer)
      → (answer ≡ answers.Refused disk_errors.Failed → HasFailed exchanges)
      → HasVerdict setting want id exchanges folder (folder_verdict (asking setting.parts.alloc_limit_bytes want id folder) answer)
      → VerdictTells want (folder_verdict (asking setting.parts.alloc_limit_bytes want id folder) answer)
  folder_tells Object folder among answer fails says = find_tells folder among Object (found_by (loose_path folder id) setting.parts.alloc_limit_bytes answer) says
  folder_tells Header folder among answer fails says = header_tells folder among Header (header_by (loose_path folder id) answer) says
  folder_tells Presence folder among answer fails says =
      test_tells folder among Presence (tested_by (loose_path folder id) answer) (tested_failed (loose_path folder id) answer fails) says
