-- What a run says of a turn of a query: its look-up is at the state after all answers to its handle since the query began.
use Rattle.std.proofs.Common.{◌≡◌, ℕ, zero, suc, ◌<◌, ◌≤◌, List, [], ◌∷◌, length, take, Option, Some, None, refl, sym, ap, ◌∙◌, subst, arith}
use Rattle.std.specs.Prelude.{unwrap_or}
use Rattle.std.proofs.lemmas.Option.{same_Some, slice_get_within}
use Rattle.odb_disk.specs.MemDisk.{Volume}
use Rattle.odb_disk.specs.Tree.{tree_of}
use Rattle.gix_odb_core.specs.Replay.{snapshot_of}
use Rattle.gix_odb_events.specs.declared.answer.Ask.{Ask}
use Rattle.gix_odb_events.specs.declared.answer.Ask.TheVariants as parts
use Rattle.gix_odb_calls.specs.declared.query.Query.{Query}
use Rattle.gix_odb_calls.proofs.QueryLaws.{query_of-call_of}
use Rattle.gix_odb_calls.specs.Query.{query_of}
use Rattle.gix_odb.specs.LookExchanges.{AreAsked}
use Rattle.gix_odb.specs.LookUpOrder.{ask_of}
use Rattle.gix_odb.specs.declared.look_up.LookUp.{LookUp}
use Rattle.gix_odb.specs.HandleState.{unseen}
use Rattle.gix_odb.specs.declared.call_state.CallStage.TheVariants.{Looking, Refreshing, Refused, Writing}
use Rattle.gix_odb_world.specs.Work.{Work}
use Rattle.gix_odb_world.specs.Work.{Calling, Opening}
use Rattle.gix_odb_world.specs.AtWork.{MakeCall, OpenStore, Running, Task, setting_in}
use Rattle.gix_odb_history.specs.Cores.{answer_behind, cores_after, history_at}
use Rattle.gix_odb_history.specs.Event.{CoreAnswer, CoreEvent, Event, OfCore}
use Rattle.gix_odb_world.specs.Headline.{IsLawful, Law, Works, stand_of}
use Rattle.gix_odb_world.specs.Machines.{ask_in}
use Rattle.gix_odb_history.specs.Run.{Stand, disk_after, told_now, tree_at}
use Rattle.gix_odb_world.specs.Running.{Knows, Runs, RunsThroughout}
use Rattle.gix_odb_world.specs.Running.Query.{IsFit, IsToldWell}
use Rattle.gix_odb_world.specs.Status.{Working, status_of}
use Rattle.gix_odb_world.specs.Told.{call_of, look_begun, look_now, told_since, view_then}
use Rattle.gix_odb_history.specs.Writing.{ToWrite, call_to_write}
use Rattle.gix_odb_world.proofs.RunSteps.Fronts.{front_of_front, length_take, there_in_whole}
use Rattle.gix_odb_world.specs.RunLaws.Turn.{AsksCore, IsQueryTurn}
use Rattle.gix_odb_world.proofs.RunLaws.KnownRun.{IsKnownRun}

-- ---- calls of queries

no_opening : (query : Query) → ¬ (MakeCall (call_of query) ≡ OpenStore)
no_opening query is = cc is

-- the query of a task, if it is a query
abbrev asked_by_task : Task → Option Query
asked_by_task OpenStore = None
asked_by_task (MakeCall call) = query_of call

no_write : (query : Query) (w : ToWrite) → ¬ (MakeCall (call_of query) ≡ MakeCall (call_to_write w))
no_write query w is =
    let none : Some query ≡ None = sym (query_of-call_of query) ∙ ap asked_by_task is in
    cc none

same_query : (one other : Query) → MakeCall (call_of one) ≡ MakeCall (call_of other) → one ≡ other
same_query one other is = same_Some one other (sym (query_of-call_of one) ∙ (ap asked_by_task is ∙ query_of-call_of other))

-- ---- the prefixes of a run

length-take_few : (place : ℕ) (events : List Event) → length (take place events) ≤ place
length-take_few zero events = omega arith
length-take_few (suc place) [] = omega arith
length-take_few (suc place) (e ∷ events) = let few = length-take_few place events in omega (arith, few)

-- a tree of the prefix of a run is one of the run
pub tree_in_front : (first : Volume) (events : List Event) (place moment : ℕ) → moment ≤ place → tree_at first (take place events) moment ≡ tree_at first events moment
tree_in_front first events place moment to = ap (λ (es : List Event). tree_of (disk_after first es).state) (front_of_front events moment place to)

-- what a handle saw then is the same in a prefix of the run
pub view_in_front : (events : List Event) (handle core place number : ℕ) → number ≤ place → view_then (take place events) handle core number ≡ view_then events handle core number
unfolding view_then
view_in_front events handle core place number to =
    ap (λ (es : List Event). unwrap_or (snapshot_of handle (history_at (cores_after es) core).entries) unseen) (front_of_front events number place to)

-- a prefix of a lawful run is lawful
pub lawful_front : (first : Volume) (events : List Event) (place : ℕ) → IsLawful first events → IsLawful first (take place events)
lawful_front first events place lawful at e there =
    let whole = there_in_whole events at place e there in
    let within = whole.0 in
    subst (λ (es : List Event). Law first es e) (sym (front_of_front events at place (omega (arith, within)))) (lawful at e whole.1)

-- each handle knows up to a prefix of a run what its status says
pub runs_up_to : (first : Volume) (events : List Event) (place : ℕ) → place ≤ length events → RunsThroughout first events → RunsThroughout first (take place events)
runs_up_to first events place within throughout now handle early =
    let few : length (take place events) ≤ place = length-take_few place events in
    let late : now ≤ place = omega (arith, early, few) in
    subst (λ (es : List Event). Runs first es handle (status_of es handle)) (sym (front_of_front events now place late)) (throughout now handle (omega (arith, late, within)))

-- ---- a turn of a query

-- what is known at a turn of a query
pub record IsLookTurn (first : Volume) (events : List Event) (place : ℕ) (e : Event) (handle : ℕ) (running : Running) (query : Query) : Type 0 where
  pub within : place < length events
  pub long : length (take place events) ≡ place
  pub since : running.begun ≤ place
  pub law : Law first (take place events) e
  pub works : Works first (take place events) handle running e
  pub look : LookUp
  pub work : running.work ≡ Calling (Looking look)
  pub fits : IsFit running.store running.modes query
  pub is : look ≡ look_now (take place events) handle running.store running.modes running.begun query
  pub asked : AreAsked (setting_in running.store) (look_begun (take place events) handle running.store running.modes running.begun query)
      (told_since (take place events) handle running.begun)
  pub turns : running.turns ≡ length (told_since (take place events) handle running.begun)
  pub well : IsToldWell first (take place events) handle running.store running.modes running.begun
  pub told : e.asked ≡ told_now (stand_of (take place events) handle running) (disk_after first (take place events)) (ask_of look)

module _ (first : Volume) (events : List Event) (is : IsKnownRun first events) (place : ℕ) (e : Event) (handle : ℕ) (running : Running) (query : Query)
    (turn : IsQueryTurn events place e handle running query) where
  abbrev past : List Event
  past = take place events

  within : place < length events
  within = slice_get_within events place e turn.there

  long : length past ≡ place
  long = length_take events place e turn.there

  law : Law first past e
  law = is.lawful place e turn.there

  works : Works first past handle running e
  works = law.worked handle running turn.turns

  runs : Runs first past handle (Working running)
  runs = subst (Runs first past handle) turn.turns.status (is.throughout place handle (let lt = within in omega (arith, lt)))

  by : (work : Work) → running.work ≡ work → Knows first past handle running work → IsLookTurn first events place e handle running query
  by (Opening state) work knows = absurd (no_opening query (sym turn.task ∙ knows.task))
  by (Calling (Refreshing refresh call)) work knows = absurd (no_write query knows.write (sym turn.task ∙ knows.of.task))
  by (Calling (Writing call)) work knows = absurd (no_write query knows.writing.write (sym turn.task ∙ knows.task))
  by (Calling (Refused error)) work knows = absurd knows
  by (Calling (Looking look)) work knows =
      let same : knows.query ≡ query = same_query knows.query query (sym knows.task ∙ turn.task) in
      let asks : works.ask ≡ ask_of look = sym works.asks ∙ ap (ask_in running.store) work in
      let since = runs.0 in
      let count = long in
      record {
        within = within;
        long = long;
        since = omega (arith, since, count);
        law = law;
        works = works;
        look = look;
        work = work;
        fits = subst (IsFit running.store running.modes) same knows.fits;
        is = knows.is ∙ ap (look_now past handle running.store running.modes running.begun) same;
        asked =
            subst (λ (q : Query). AreAsked (setting_in running.store) (look_begun past handle running.store running.modes running.begun q) (told_since past handle running.begun))
            same knows.asked;
        turns = knows.turns;
        well = knows.well;
        told = works.told ∙ ap (told_now (stand_of past handle running) (disk_after first past)) asks;
      }

  -- the handle of a query's turn is at a look-up
  pub look_turn : IsLookTurn first events place e handle running query
  look_turn = by running.work refl runs.1

-- ---- what a turn asks

pub same_event : (store seat other further : ℕ) (one two : CoreEvent) (a b : CoreAnswer) → OfCore store seat one a ≡ OfCore other further two b → one ≡ two
same_event store seat other further one two a b is = cc is

pub core_asked : (at : Stand) (disk : Volume) (ask : Option Ask) (store seat : ℕ) (event : CoreEvent) (answer : CoreAnswer)
    → told_now at disk ask ≡ OfCore store seat event answer → ask ≡ Some (parts.Core event)
core_asked at disk None store seat event answer is = absurd (cc is)
core_asked at disk (Some (parts.Disk ask)) store seat event answer is = absurd (cc is)
core_asked at disk (Some (parts.NewCore slots folders)) store seat event answer is = absurd (cc is)
core_asked at disk (Some (parts.Core own)) store seat event answer is =
    ap (λ (x : CoreEvent). Some (parts.Core x))
    (same_event at.store at.seat store seat own event (answer_behind (history_at at.cores at.store) at.seat own) answer is)

module _ (first : Volume) (events : List Event) (place : ℕ) (e : Event) (handle : ℕ) (running : Running) (query : Query)
    (at : IsLookTurn first events place e handle running query) where
  abbrev stands : Stand
  stands = stand_of (take place events) handle running

  -- an event of a core that is asked for is the one that the look-up asks for
  pub look_asks : (event : CoreEvent) → AsksCore e event → ask_of at.look ≡ Some (parts.Core event)
  look_asks event asks =
      core_asked stands (disk_after first (take place events)) (ask_of at.look) asks.store asks.seat event asks.answer (sym at.told ∙ asks.asked)

  -- and conversely
  pub asks_look : (event : CoreEvent) → ask_of at.look ≡ Some (parts.Core event) → AsksCore e event
  asks_look event is = record {
    store = stands.store;
    seat = stands.seat;
    answer = answer_behind (history_at stands.cores stands.store) stands.seat event;
    asked = at.told ∙ ap (λ (a : Option Ask). told_now stands (disk_after first (take place events)) a) is;
  }
