-- An event that the core refuses ends a look-up.
use Rattle.std.proofs.Common.{◌≡◌, List, [], ◌∷◌, ◌++◌, Some, Ok, Err, refl}
use Rattle.std.proofs.lemmas.Option.{same_Some}
use Rattle.gix_odb_events.specs.declared.event.Event.{Event}
use Rattle.gix_odb_events.specs.declared.event.Refusal.{Refusal}
use Rattle.gix_odb_search.specs.TryOrder as tries
use Rattle.gix_odb_search.specs.TryOrder.{by_answer}
use Rattle.gix_odb_events.specs.declared.answer.Answer.TheVariants as told
use Rattle.gix_odb_events.specs.declared.answer.Ask.TheVariants as asks
use Rattle.gix_odb_search.specs.declared.goal.Goal.{Goal}
use Rattle.gix_odb_search.specs.declared.index_loader.IndexLoader.TheVariants as loaders
use Rattle.gix_odb_search.specs.declared.trier.Ahead.{Ahead}
use Rattle.gix_odb_search.specs.declared.trier.Stage.{Stage}
use Rattle.gix_odb_search.specs.declared.trier.Stage.TheVariants as try_stages
use Rattle.gix_odb.specs.LookExchanges.{AreAsked, Exchange, behind}
use Rattle.gix_odb.specs.LoadIndex.{of_refusal}
use Rattle.gix_odb.specs.LookUpOrder.{Setting, ask_at, by_tried, fed, fed_at, load_refused, result_of, seen}
use Rattle.gix_odb.specs.declared.refresh.Refresh.TheVariants as fronts
use Rattle.gix_odb.specs.declared.look_up.LookHead.{LookHead}
use Rattle.gix_odb.specs.declared.look_up.LookStage.{LookStage}
use Rattle.gix_odb.specs.declared.look_up.LookStage.TheVariants as stages
use Rattle.gix_odb.specs.declared.look_up.LookUp.{LookUp}
use Rattle.gix_odb.specs.declared.look_up.Part.{Part}

module _ (setting : Setting) (event : Event) (refusal : Refusal) where
  -- the look-up has the error of the refusal
  abbrev Ends : LookUp → Type 0
  Ends look = result_of look ≡ Ok (load_refused (of_refusal refusal))

  trier_ends : (head : LookHead) (part : Part) (goal : Goal) (ahead : Ahead) (stage : Stage) → tries.ask_at stage ≡ asks.Core event
      → Ends (record { head = head; stage = by_tried setting head part (by_answer goal ahead stage (told.Core (Err refusal))) })
  trier_ends head part goal ahead (try_stages.Loading (loaders.Reading place)) asked = absurd (cc asked)
  trier_ends head part goal ahead (try_stages.Loading (loaders.Storing place file)) asked = refl
  trier_ends head part goal ahead (try_stages.Loading (loaders.Passing place why)) asked = refl
  trier_ends head part goal ahead (try_stages.ReadingPack pack) asked = absurd (cc asked)
  trier_ends head part goal ahead (try_stages.StoringPack pack file) asked = refl
  trier_ends head part goal ahead (try_stages.PassingPack pack) asked = refl

  stage_ends : (head : LookHead) (stage : LookStage) → ask_at stage ≡ Some (asks.Core event) → Ends (fed_at setting head stage (told.Core (Err refusal)))
  stage_ends head (stages.Trying trier part) asked = trier_ends head part trier.goal trier.ahead trier.stage (same_Some _ _ asked)
  stage_ends head (stages.Loose round call) asked = absurd (cc asked)
  stage_ends head (stages.Refreshing fronts.Reading purpose notes) asked = refl
  stage_ends head (stages.Refreshing (fronts.Listing lister) purpose notes) asked = absurd (cc asked)
  stage_ends head (stages.Refreshing (fronts.Publishing listing) purpose notes) asked = refl
  stage_ends head (stages.Checking list_no notes) asked = refl
  stage_ends head (stages.Done reply) asked = absurd (cc asked)

  abbrev refused_event : Exchange
  refused_event = record { ask = asks.Core event; answer = told.Core (Err refusal) }

  pub refused_event_ends : (earlier : List Exchange) (look : LookUp) → AreAsked setting look (earlier ++ refused_event ∷ [])
      → Ends (behind setting look (earlier ++ refused_event ∷ []))
  refused_event_ends [] look asked = stage_ends (seen look.head (told.Core (Err refusal))) look.stage asked.0
  refused_event_ends (exchange ∷ earlier) look asked = refused_event_ends earlier (fed setting look exchange.answer) asked.1
