-- What is known of a look-up behind exchanges: what it hands to the core, what it found, and why packs refuse it.
use Rattle.std.proofs.Common.{◌≡◌, ℕ, List, [], ◌∷◌, Contains, Some, Ok, refl, subst}
use Rattle.odb_base.specs.Path.{Path}
use Rattle.gix_hash.specs.ObjectId.{kind_of}
use Rattle.gix_hash.specs.declared.kind.Kind.{Kind}
use Rattle.gix_hash.specs.declared.object_id.ObjectId.{ObjectId}
use Rattle.gix_odb_calls.specs.Verdict.{folder_ask}
use Rattle.gix_odb_events.specs.declared.event.Event.TheVariants as events
use Rattle.gix_odb_events.specs.declared.view.View.{View}
use Rattle.gix_odb_search.specs.TryOrder as tries
use Rattle.gix_odb_events.specs.declared.answer.Ask.TheVariants as asks
use Rattle.gix_odb_events.specs.declared.answer.Ask.{Ask}
use Rattle.gix_odb_search.specs.declared.index_loader.IndexLoader.TheVariants as loaders
use Rattle.gix_odb_search.specs.declared.trier.Stage.TheVariants as tries_stages
use Rattle.gix_odb_search.specs.declared.trier.Stage.{Stage}
use Rattle.gix_odb_calls.specs.declared.call.CallError.TheVariants as call_errors
use Rattle.gix_odb_calls.specs.declared.call.Reply.TheVariants as replies
use Rattle.gix_odb_calls.specs.declared.call.Reply.{Reply}
use Rattle.gix_odb_calls.specs.declared.find.Error.{Error}
use Rattle.gix_object.specs.declared.want.Want.{Want}
use Rattle.gix_odb.specs.Caused.{IsCaused}
use Rattle.gix_odb.specs.LookExchanges.{AreAsked, Exchange, behind}
use Rattle.gix_odb.specs.LookUpOrder.{Setting, ask_at, fed, result_at, result_of, seen, started}
use Rattle.gix_odb.specs.Shown.{IsHandedBy, IsShownView}
use Rattle.gix_odb.specs.True.{AreTrue}
use Rattle.gix_odb.specs.RefreshOrder as refreshes
use Rattle.gix_odb.specs.declared.refresh.Refresh.{Refresh}
use Rattle.gix_odb.specs.declared.refresh.Refresh.TheVariants as fronts
use Rattle.gix_odb.specs.declared.look_up.LookHead.{LookHead}
use Rattle.gix_odb.specs.declared.look_up.LookStage.TheVariants as stages
use Rattle.gix_odb.specs.declared.look_up.LookStage.{LookStage}
use Rattle.gix_odb.specs.declared.look_up.LookUp.{LookUp}
use Rattle.gix_odb.specs.declared.refresh_mode.RefreshMode.{RefreshMode}
use Rattle.gix_odb.proofs.FoundLaws.Known.{KnowsLook, KnowsLookStage, KnowsRefresh, KnowsReply, KnowsStage}
use Rattle.gix_odb.proofs.ListerLaws.Lists.{has_first, has_later}
use Rattle.gix_odb.proofs.ListingLaws.HandedRows.{rows_handed}
use Rattle.gix_odb.proofs.FoundLaws.Looking.{begun_known, stage_known}
pub use Rattle.gix_odb.proofs.FoundLaws.Known.{IsOfPack}

module _ (Shown : Path → ℕ → List ℕ → Type 0) (setting : Setting) (hash : Kind) (want : Want) (id : ObjectId) where
  trier_hands : (stage : Stage) → KnowsStage Shown setting hash id stage → IsHandedBy Shown setting hash (tries.ask_at stage)
  trier_hands (tries_stages.Loading (loaders.Storing place file)) here = here
  trier_hands (tries_stages.StoringPack pack file) here = here.1
  trier_hands stage here = tt

  refresh_hands : (refresh : Refresh) → KnowsRefresh Shown setting refresh → IsHandedBy Shown setting hash (refreshes.ask_of refresh)
  refresh_hands fronts.Reading here = tt
  refresh_hands (fronts.Listing lister) here = tt
  refresh_hands (fronts.Publishing listing) here = rows_handed Shown setting hash listing.rows here.0 here.1

  -- ---- after exchanges

  module _ (exchanges : List Exchange) where
    abbrev pub Knows : LookUp → Type 0
    Knows look = KnowsLook Shown setting hash id exchanges want look

    abbrev pub Stands : LookStage → Type 0
    Stands stage = KnowsLookStage Shown setting hash id exchanges want stage

    rest_known : kind_of id ≡ hash → AreTrue Shown setting hash exchanges → (rest : List Exchange) (look : LookUp)
        → ((exchange : Exchange) → Contains rest exchange → Contains exchanges exchange)
        → AreAsked setting look rest
        → Knows look
        → Knows (behind setting look rest)
    rest_known same truth [] look among asked known = known
    rest_known same truth (exchange ∷ rest) look among asked known =
        let here = among exchange (has_first exchange rest) in
        rest_known same truth rest (fed setting look exchange.answer) (λ other is. among other (has_later exchange rest other is)) asked.1
        (stage_known Shown setting hash id exchanges want same (seen look.head exchange.answer) look.stage exchange.ask exchange.answer
        (record { want_is = known.head.want_is; id_is = known.head.id_is }) known.stage asked.0 (truth exchange here) here)

    -- what a stage passes to the core
    pub stage_hands : (stage : LookStage) (ask : Ask) → Stands stage → ask_at stage ≡ Some ask → IsHandedBy Shown setting hash ask
    stage_hands (stages.Trying trier part) ask here is =
        let same : tries.ask_of trier ≡ ask = cc is in
        subst (IsHandedBy Shown setting hash) same (trier_hands trier.stage here.stage)
    stage_hands (stages.Loose round call) ask here is =
        let same : asks.Disk (folder_ask call) ≡ ask = cc is in
        subst (IsHandedBy Shown setting hash) same tt
    stage_hands (stages.Refreshing refresh purpose notes) ask here is =
        let same : refreshes.ask_of refresh ≡ ask = cc is in
        subst (IsHandedBy Shown setting hash) same (refresh_hands refresh here)
    stage_hands (stages.Checking list_no notes) ask here is =
        let same : asks.Core events.Look ≡ ask = cc is in
        subst (IsHandedBy Shown setting hash) same tt
    stage_hands (stages.Done reply) ask here is = absurd (cc is)

    -- what is known of the reply of a look-up that is done
    pub done_known : (head : LookHead) (stage : LookStage) (reply : Reply) → Stands stage → result_at head stage ≡ Ok reply
        → KnowsReply Shown setting hash id exchanges want reply
    done_known head (stages.Done own) reply here is =
        let same : own ≡ reply = cc is in
        subst (λ (other : Reply). KnowsReply Shown setting hash id exchanges want other) same here
    done_known head stage reply here is = absurd (cc is)

  module _ (same : kind_of id ≡ hash) (mode : RefreshMode) (view : View) (shown : IsShownView Shown setting hash view) (exchanges : List Exchange)
      (asked : AreAsked setting (started setting mode view want id) exchanges) (truth : AreTrue Shown setting hash exchanges) where
    abbrev pub look : LookUp
    look = behind setting (started setting mode view want id) exchanges

    pub look_known : KnowsLook Shown setting hash id exchanges want look
    look_known =
        rest_known exchanges same truth exchanges (started setting mode view want id) (λ exchange is. is) asked
        (begun_known Shown setting hash id exchanges want mode view shown)

    -- an error that packs give has its cause
    pub pack_refusal_caused : (error : Error) → result_of look ≡ Ok (replies.Refused (call_errors.Find error)) → IsOfPack error
        → IsCaused Shown setting hash id want exchanges error
    pack_refusal_caused error is of =
        (done_known exchanges look.head look.stage (replies.Refused (call_errors.Find error)) look_known.stage is).caused error refl of
