-- Laws of runs about queries that end with "not found".
use Rattle.std.proofs.Common.{◌≡◌, ℕ, ◌+◌, List, [], ◌∷◌, ◌++◌, Ok, take, sym, subst}
use Rattle.odb_disk.specs.MemDisk.{Volume}
use Rattle.gix_odb_calls.specs.declared.query.Query.{Query}
use Rattle.gix_odb_calls.specs.declared.step.Outcome.TheVariants as outcomes
use Rattle.gix_odb.specs.LookExchanges.{AreAsked, Exchange, behind}
use Rattle.gix_odb.specs.LookUpOrder.{Setting, not_found, result_of, started}
use Rattle.gix_odb.specs.declared.refresh_mode.RefreshMode.{RefreshMode}
use Rattle.gix_odb.specs.declared.refresh_mode.RefreshMode.TheVariants.{AfterAllIndicesLoaded}
use Rattle.gix_odb_events.specs.declared.view.View.{View}
use Rattle.gix_odb.specs.Contents.{sought}
use Rattle.gix_odb_history.specs.Event.{Event}
use Rattle.gix_odb_world.specs.AtWork.{Running, setting_in}
use Rattle.gix_odb_world.specs.Told.{told_since, view_then}
use Rattle.gix_odb_world.proofs.RunSteps.Fronts.{take_next}
use Rattle.gix_odb_world.specs.RunLaws.Missed.{EndAtLastList}
use Rattle.gix_odb_world.specs.RunLaws.Turn.{IsQueryTurn}
use Rattle.gix_odb_world.proofs.RunLaws.KnownRun.{IsKnownRun}
use Rattle.gix_odb_world.proofs.RunLaws.ListChecks.{misses_end_at_the_last_list}
use Rattle.gix_odb_world.proofs.RunLaws.MovedLaws.{ended}

-- Where a query of a handle that refreshes its list ends with "not found", its handle's last answer since it began is that of a read of the core's
-- state. The list of the view in this answer is the one that the core published or confirmed last for the query.
pub query_that_misses_ends_at_its_last_list : (first : Volume) (events : List Event) → IsKnownRun first events
    → (place : ℕ) (e : Event) (handle : ℕ) (running : Running) (query : Query) → IsQueryTurn events place e handle running query
    → running.modes.refresh ≡ AfterAllIndicesLoaded → e.outcome ≡ outcomes.Reply (not_found query.want) → EndAtLastList (told_since (take (place + 1) events) handle running.begun)
query_that_misses_ends_at_its_last_list first events is place e handle running query turn refreshes missing =
    let setting : Setting = setting_in running.store in
    let id = sought running.store.parts running.modes.ignoring query in
    let view : View = view_then (take place events) handle running.modes.core running.begun in
    let end = ended first events is place e handle running query turn missing in
    let told : List Exchange = told_since (take place events ++ e ∷ []) handle running.begun in
    subst (λ (es : List Event). EndAtLastList (told_since es handle running.begun)) (sym (take_next events place e turn.there))
    (misses_end_at_the_last_list setting query.want id view told
    (subst (λ (mode : RefreshMode). AreAsked setting (started setting mode view query.want id) told) refreshes end.asked)
    (subst (λ (mode : RefreshMode). result_of (behind setting (started setting mode view query.want id) told) ≡ Ok (not_found query.want)) refreshes end.misses))
