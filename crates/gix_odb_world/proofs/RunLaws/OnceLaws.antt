-- Laws of runs about queries whose object is in their snapshot: they end in their first turn, which does nothing.
use Rattle.std.proofs.Common.{◌≡◌, ℕ, List, [], ◌∷◌, length, take, Option, None, Result, refl, sym, ap, ◌∙◌, subst, arith}
use Rattle.odb_disk.specs.MemDisk.{Volume}
use Rattle.gix_odb_events.specs.declared.answer.Ask.{Ask}
use Rattle.gix_odb_calls.specs.declared.call.Reply.{Reply}
use Rattle.gix_odb_calls.specs.declared.query.Query.{Query}
use Rattle.gix_odb.specs.LookExchanges.{Exchange, behind}
use Rattle.gix_odb.specs.LookUpOrder.{ask_of, result_of}
use Rattle.gix_odb.specs.declared.look_up.LookUp.{LookUp}
use Rattle.gix_odb.specs.Contents.{sought}
use Rattle.gix_odb.specs.AtHand.{IsAtHand, IsDone}
use Rattle.gix_odb.proofs.OnceLaws.{object_at_hand_is_found_at_once}
use Rattle.gix_odb_world.specs.Work.{Work}
use Rattle.gix_odb_world.specs.AtWork.{Running, setting_in}
use Rattle.gix_odb_history.specs.Event.{Asked, Event, OfNothing, answered}
use Rattle.gix_odb_world.specs.Headline.{outcome_of, stand_of}
use Rattle.gix_odb_world.specs.Machine.{placed}
use Rattle.gix_odb_world.specs.Machines.{ask_in, fed_in}
use Rattle.gix_odb_world.specs.Recorded.{opened_in}
use Rattle.gix_odb_history.specs.Run.{did_asked, disk_after, told_now}
use Rattle.gix_odb_world.specs.Running.Query.{looking}
use Rattle.gix_odb_world.specs.Told.{look_begun, told_since, view_then}
use Rattle.gix_odb_world.specs.RunLaws.Ends.{EndsUnasked}
use Rattle.gix_odb_world.specs.RunLaws.Turn.{IsQueryTurn}
use Rattle.gix_odb_world.proofs.RunLaws.KnownRun.{IsKnownRun}
use Rattle.gix_odb_world.proofs.RunLaws.QueryTurns.{IsLookTurn, look_turn, view_in_front}

nothing_of : (xs : List Exchange) → length xs ≡ 0 → xs ≡ []
nothing_of [] is = refl
nothing_of (x ∷ xs) is = absurd (omega (arith, is))

module _ (first : Volume) (events : List Event) (place : ℕ) (e : Event) (handle : ℕ) (running : Running) (query : Query)
    (at : IsLookTurn first events place e handle running query) (early : running.turns ≡ 0) where
  abbrev past : List Event
  past = take place events

  abbrev start : LookUp
  start = look_begun past handle running.store running.modes running.begun query

  -- its look-up has just begun
  begins : at.look ≡ start
  begins = at.is ∙ ap (behind (setting_in running.store) start) (nothing_of (told_since past handle running.begun) (sym at.turns ∙ early))

  module _ (done : IsDone query.want start) where
    silent : ask_of at.look ≡ None
    silent = ap ask_of begins ∙ done.silent

    asks_nothing : e.asked ≡ OfNothing
    asks_nothing = at.told ∙ ap (λ (a : Option Ask). told_now (stand_of past handle running) (disk_after first past) a) silent

    no_ask : at.works.ask ≡ None
    no_ask = sym at.works.asks ∙ ap (ask_in running.store) at.work ∙ silent

    ends_unasked : EndsUnasked query e
    ends_unasked = record {
      reply = done.reply;
      ends =
          at.works.goes ∙ ap (λ (asked : Asked). outcome_of (fed_in running.store running.work (answered asked))) asks_nothing
          ∙ ap (λ (work : Work). outcome_of (fed_in running.store work None)) at.work
          ∙ ap (λ (look : LookUp). outcome_of (placed looking (result_of look))) begins
          ∙ ap (λ (result : Result Reply LookUp). outcome_of (placed looking result)) done.replied;
      asked = asks_nothing;
      did = at.works.asked ∙ ap (did_asked (opened_in running.work) (stand_of past handle running) (disk_after first past)) no_ask;
      found = done.found;
      says_yes = done.says_yes;
    }

-- Let a handle's snapshot, as its query began, be of a list that was read, with an index that has the sought id and the pack that each such index
-- names for it; for a test an index with the id is enough. Then the query ends in its first turn, which did nothing.
pub object_at_hand_is_found_in_the_first_turn : (first : Volume) (events : List Event) → IsKnownRun first events
    → (place : ℕ) (e : Event) (handle : ℕ) (running : Running) (query : Query) → IsQueryTurn events place e handle running query → running.turns ≡ 0
    → IsAtHand query.want (sought running.store.parts running.modes.ignoring query) (view_then events handle running.modes.core running.begun)
    → EndsUnasked query e
object_at_hand_is_found_in_the_first_turn first events is place e handle running query turn early hand =
    let at = look_turn first events is place e handle running query turn in
    let id = sought running.store.parts running.modes.ignoring query in
    ends_unasked first events place e handle running query at early
    (object_at_hand_is_found_at_once (setting_in running.store) running.modes.refresh query.want id (view_then (take place events) handle running.modes.core running.begun)
    (subst (IsAtHand query.want id) (sym (view_in_front events handle running.modes.core place running.begun at.since)) hand))
