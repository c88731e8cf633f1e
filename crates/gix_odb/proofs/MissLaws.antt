-- What follows where a look-up found nothing: it missed no object that stayed unchanged in a pack, while it worked or, where its handle never
-- refreshes its list, since the store was opened; and it asked each folder.
pub mod Lists
pub mod Replies
mod Trying
mod Rows
mod Carried
pub mod Listing
pub mod Track
mod Present
mod Frozen
pub mod Folders
mod Failures
use Rattle.std.proofs.Common.{◌≡◌, inl, inr, ℕ, List, [], ◌∷◌, Contains, Some, Ok, sym, ap, ◌∙◌, subst}
use Rattle.odb_base.specs.Path.{Path}
use Rattle.gix_hash.specs.ObjectId.{kind_of}
use Rattle.gix_hash.specs.declared.kind.Kind.{Kind}
use Rattle.gix_hash.specs.declared.object_id.ObjectId.{ObjectId}
use Rattle.gix_odb_events.specs.declared.view.View.{View}
use Rattle.gix_odb_events.specs.declared.answer.Answer.{Answer}
use Rattle.gix_odb_events.specs.declared.answer.Ask.{Ask}
use Rattle.gix_odb_events.specs.declared.answer.Ask.TheVariants as asks
use Rattle.gix_object.specs.declared.want.Want.{Want}
use Rattle.gix_odb_calls.specs.declared.verdict.Verdict.{Verdict}
use Rattle.gix_odb_calls.specs.declared.verdict.Verdict.TheVariants as verdicts
use Rattle.gix_odb.specs.LookExchanges.{AreAsked, Exchange, HasFailed, HasVerdict, behind}
use Rattle.gix_odb.specs.Fair.{AreFair, IsCarried, PackedPlace}
use Rattle.gix_odb.specs.LookUpOrder.{Setting, ask_of, fed, not_found, result_of, started}
use Rattle.gix_odb.specs.Shown.{folders_of}
use Rattle.gix_odb.specs.StillListed.{AreListed}
use Rattle.gix_odb.specs.Store.{listed_for}
use Rattle.gix_odb.specs.True.{AreTrue, IsTrue}
use Rattle.gix_odb.specs.declared.look_up.LookStage.{LookStage}
use Rattle.gix_odb.specs.declared.look_up.LookStage.TheVariants as stages
use Rattle.gix_odb.specs.declared.look_up.LookUp.{LookUp}
use Rattle.gix_odb.specs.declared.refresh_mode.RefreshMode.{RefreshMode}
use Rattle.gix_odb.specs.declared.refresh_mode.RefreshMode.TheVariants.{AfterAllIndicesLoaded, Never}
use Rattle.gix_odb_search.proofs.NotedLaws.{failed}
use Rattle.gix_odb_search.proofs.ReachLemmas.{first_or_later, none_in}
use Rattle.gix_odb.proofs.MissLaws.Failures.{CanFail, IsAskingAt, IsLookMarred, failure_mars, marred_is_no_miss, stays_marred}
use Rattle.gix_odb.proofs.MissLaws.Folders.{IsLookPassing, IsPassing, look_passes_on, missed_at_end, passes_at_start}
use Rattle.gix_odb.proofs.MissLaws.Frozen.{frozen_never_missed, frozen_starts}
use Rattle.gix_odb.proofs.MissLaws.Lists.{first_in, later_in}
use Rattle.gix_odb.proofs.MissLaws.Track.{never_missed, starts}

-- an object that stays unchanged in a pack while a look-up of a handle that refreshes its list works, with fair answers, is not said to be missing
pub nothing_still_in_packs_is_missed : (setting : Setting) (hash : Kind) (view : View) (want : Want) (id : ObjectId) (exchanges : List Exchange)
    → kind_of id ≡ hash → (place : PackedPlace) → IsCarried (listed_for setting.parts).multi place → Contains (folders_of setting) place.folder
    → AreAsked setting (started setting AfterAllIndicesLoaded view want id) exchanges → AreFair (listed_for setting.parts).multi hash id place [] exchanges
    → ¬ (result_of (behind setting (started setting AfterAllIndicesLoaded view want id) exchanges) ≡ Ok (not_found want))
nothing_still_in_packs_is_missed setting hash view want id exchanges of_hash place carried among asked fair =
    never_missed setting hash want id of_hash place carried among [] (started setting AfterAllIndicesLoaded view want id)
    (starts setting hash want id of_hash place carried among view) exchanges asked fair

-- an object that stayed unchanged in a pack since the store was opened is not said to be missing by a look-up of a handle that never refreshes its
-- list: here each list that was published has a row of the object, in the place of the look-up's own listing
pub nothing_still_since_the_opening_is_missed : (setting : Setting) (hash : Kind) (view : View) (want : Want) (id : ObjectId) (exchanges : List Exchange)
    → kind_of id ≡ hash → (place : PackedPlace) → IsCarried (listed_for setting.parts).multi place → Contains (folders_of setting) place.folder
    → AreAsked setting (started setting Never view want id) exchanges → AreFair (listed_for setting.parts).multi hash id place [] exchanges
    → AreListed (listed_for setting.parts).multi hash id place exchanges
    → ¬ (result_of (behind setting (started setting Never view want id) exchanges) ≡ Ok (not_found want))
nothing_still_since_the_opening_is_missed setting hash view want id exchanges of_hash place carried among asked fair shows =
    frozen_never_missed setting hash want id of_hash place carried among [] (started setting Never view want id)
    (frozen_starts setting hash want id of_hash place carried among view) exchanges asked fair shows

module _ (setting : Setting) (want : Want) (id : ObjectId) where
  -- ---- each folder was asked

  module _ (all : List Exchange) where
    abbrev Passes : LookUp → Type 0
    Passes look = IsLookPassing setting want id all look

    passes_one : (look : LookUp) → Passes look → (exchange : Exchange) → Contains all exchange → ask_of look ≡ Some exchange.ask
        → Passes (fed setting look exchange.answer)
    passes_one look passing exchange among asked = look_passes_on setting want id all look passing exchange.ask exchange.answer asked among

    folders_passed : (look : LookUp) → Passes look → (exchanges : List Exchange) → ((exchange : Exchange) → Contains exchanges exchange → Contains all exchange)
        → AreAsked setting look exchanges → Passes (behind setting look exchanges)
    folders_passed look passing [] among asked = passing
    folders_passed look passing (exchange ∷ exchanges) among asked =
        folders_passed (fed setting look exchange.answer) (passes_one look passing exchange (among exchange (first_in exchange exchanges)) asked.0)
        exchanges (λ other is. among other (later_in exchange exchanges other is)) asked.1

    asking_at : (stage : LookStage) → IsPassing setting want id all stage → IsAskingAt setting want stage
    asking_at (stages.Loose round call) passing = (id, passing.asked, passing.call_is)
    asking_at stage passing = tt

  -- A look-up that found nothing asked the loose objects of each folder, and missed there.
  pub not_found_missed_in_each_folder : (mode : RefreshMode) (view : View) (exchanges : List Exchange) → AreAsked setting (started setting mode view want id) exchanges
      → result_of (behind setting (started setting mode view want id) exchanges) ≡ Ok (not_found want)
      → (folder : Path) → Contains (folders_of setting) folder → HasVerdict setting want id exchanges folder verdicts.Misses
  not_found_missed_in_each_folder mode view exchanges asked is =
      let start = started setting mode view want id in
      let look = behind setting start exchanges in
      let passing = folders_passed exchanges start (passes_at_start setting want id exchanges mode view) exchanges (λ exchange among. among) asked in
      missed_at_end setting want id exchanges look.head look.stage passing.stage is

  -- ---- no call failed

  marred_behind : (look : LookUp) → IsLookMarred setting want look → (exchanges : List Exchange) → IsLookMarred setting want (behind setting look exchanges)
  marred_behind look marred [] = marred
  marred_behind look marred (exchange ∷ exchanges) =
      marred_behind (fed setting look exchange.answer) (stays_marred setting want look marred exchange.answer) exchanges

  module _ (Shown : Path → ℕ → List ℕ → Type 0) (hash : Kind) where
    can_fail : (ask : Ask) → IsTrue Shown setting hash ask failed → CanFail ask
    can_fail (asks.Disk ask) truth = truth.0
    can_fail (asks.Core event) truth = truth
    can_fail (asks.NewCore slots folders) truth = truth

    module _ (all : List Exchange) (truth : AreTrue Shown setting hash all) where
      failure_told : (look : LookUp) → Passes all look → (exchange : Exchange) → Contains all exchange → ask_of look ≡ Some exchange.ask
          → exchange.answer ≡ failed → IsLookMarred setting want (fed setting look exchange.answer)
      failure_told look passing exchange among is failed_so =
          subst (λ (answer : Answer). IsLookMarred setting want (fed setting look answer)) (sym failed_so)
          (failure_mars setting want look passing.own.want_is (asking_at all look.stage passing.stage) exchange.ask is
          (can_fail exchange.ask (subst (λ (answer : Answer). IsTrue Shown setting hash exchange.ask answer) failed_so (truth exchange among))))

      failures_mar : (look : LookUp) → Passes all look → (exchanges : List Exchange)
          → ((exchange : Exchange) → Contains exchanges exchange → Contains all exchange)
          → AreAsked setting look exchanges → HasFailed exchanges → IsLookMarred setting want (behind setting look exchanges)
      failures_mar look passing [] among asked has = absurd (none_in has.exchange has.among)
      failures_mar look passing (exchange ∷ exchanges) among asked has =
          let here = among exchange (first_in exchange exchanges) in
          elim (first_or_later exchange exchanges has.exchange has.among) [
            | inl is ↦
                marred_behind (fed setting look exchange.answer)
                (failure_told look passing exchange here asked.0 (ap (λ (e : Exchange). e.answer) is ∙ has.failed))
                exchanges
            | inr later ↦
                failures_mar (fed setting look exchange.answer) (passes_one all look passing exchange here asked.0)
                exchanges (λ other is. among other (later_in exchange exchanges other is)) asked.1
                (record { exchange = has.exchange; among = later; failed = has.failed })
          ]

    -- none of the calls of the disk of a look-up that found nothing failed
    pub not_found_had_no_failure : (mode : RefreshMode) (view : View) (exchanges : List Exchange) → AreAsked setting (started setting mode view want id) exchanges
        → AreTrue Shown setting hash exchanges
        → result_of (behind setting (started setting mode view want id) exchanges) ≡ Ok (not_found want) → ¬ (HasFailed exchanges)
    not_found_had_no_failure mode view exchanges asked truth is has =
        let start = started setting mode view want id in
        let look = behind setting start exchanges in
        let marred = failures_mar exchanges truth start (passes_at_start setting want id exchanges mode view) exchanges (λ exchange among. among) asked has in
        marred_is_no_miss setting want look.head look.stage marred.stage is
