-- Laws of look-ups: what is passed to the core was shown, as was what is found in packs.
mod PackErrors
pub mod Known
mod Views
mod Loading
mod Indices
mod Trying
mod Replies
mod Looking
pub mod Behind
use Rattle.std.proofs.Common.{◌≡◌, ◌⊎◌, ℕ, List, [], ◌∷◌, Contains, Option, Some, None, Ok, refl, subst}
use Rattle.odb_base.specs.Path.{Path}
use Rattle.gix_hash.specs.ObjectId.{kind_of}
use Rattle.gix_hash.specs.declared.kind.Kind.{Kind}
use Rattle.gix_hash.specs.declared.object_id.ObjectId.{ObjectId}
use Rattle.gix_odb_events.specs.declared.event.Event.TheVariants as events
use Rattle.gix_odb_events.specs.declared.view.View.{View}
use Rattle.gix_odb_search.specs.ListOrder as lists
use Rattle.gix_odb_search.specs.TryOrder as tries
use Rattle.gix_odb_events.specs.declared.answer.Ask.TheVariants as asks
use Rattle.gix_odb_events.specs.declared.answer.Ask.{Ask}
use Rattle.gix_odb_search.specs.declared.trier.Stage.TheVariants as tries_stages
use Rattle.gix_odb_search.specs.declared.trier.Stage.{Stage}
use Rattle.gix_odb_calls.specs.declared.call.CallError.TheVariants as call_errors
use Rattle.gix_odb_calls.specs.declared.call.Reply.TheVariants as replies
use Rattle.gix_odb_calls.specs.declared.call.Reply.{Reply}
use Rattle.gix_odb_calls.specs.declared.find.Error.{Error}
use Rattle.gix_object.specs.declared.want.Want.{Want}
use Rattle.gix_odb_calls.specs.declared.verdict.Verdict.TheVariants as verdicts
use Rattle.gix_odb_calls.specs.declared.verdict.Verdict.{Verdict}
use Rattle.gix_odb.specs.Caused.{IsCaused}
use Rattle.gix_odb.specs.LookExchanges.{AreAsked, Exchange, HasVerdict, behind}
use Rattle.gix_odb.specs.Found.{IsFound}
use Rattle.gix_odb.specs.LookUpOrder.{Setting, ask_at, ask_of, fed, result_at, result_of, seen, started}
use Rattle.gix_odb.specs.Reply.{IsAnswer}
use Rattle.gix_odb.specs.Shown.{IsHandedBy, IsShownView, folders_of}
use Rattle.gix_odb.specs.True.{AreTrue}
use Rattle.gix_odb.specs.declared.look_up.LookHead.{LookHead}
use Rattle.gix_odb.specs.declared.look_up.LookStage.TheVariants as stages
use Rattle.gix_odb.specs.declared.look_up.LookStage.{LookStage}
use Rattle.gix_odb.specs.declared.look_up.LookUp.{LookUp}
use Rattle.gix_odb.specs.declared.refresh_mode.RefreshMode.{RefreshMode}
use Rattle.gix_odb.proofs.FoundLaws.Behind.{done_known, look_known, stage_hands}

module _ (Shown : Path → ℕ → List ℕ → Type 0) (setting : Setting) (hash : Kind) (want : Want) (id : ObjectId) (same : kind_of id ≡ hash)
    (mode : RefreshMode) (view : View) (shown : IsShownView Shown setting hash view) (exchanges : List Exchange)
    (asked : AreAsked setting (started setting mode view want id) exchanges) (truth : AreTrue Shown setting hash exchanges) where
  abbrev look : LookUp
  look = behind setting (started setting mode view want id) exchanges

  -- A file that a look-up passes to the core was shown at its path. A listing that it publishes has only rows of indices of the folders, and of
  -- multi-pack indices that were shown there.
  pub what_is_handed_was_shown : (ask : Ask) → ask_of look ≡ Some ask → IsHandedBy Shown setting hash ask
  what_is_handed_was_shown ask is =
      stage_hands Shown setting hash want id exchanges look.stage ask (look_known Shown setting hash want id same mode view shown exchanges asked truth).stage is

  -- an answer was found in a pack that was shown, or is what the loose objects of a folder said
  pub what_is_found_was_shown : (reply : Reply) → result_of look ≡ Ok reply → IsAnswer reply
      → (IsFound Shown setting hash id want reply)
      ⊎ ((folder : Path) × Contains (folders_of setting) folder × HasVerdict setting want id exchanges folder (verdicts.Ends reply))
  what_is_found_was_shown reply is answer =
      (done_known Shown setting hash want id exchanges look.head look.stage reply
      (look_known Shown setting hash want id same mode view shown exchanges asked truth).stage is).found answer
