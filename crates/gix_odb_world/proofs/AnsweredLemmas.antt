-- What is true of all answers to a handle that lists folders of packs: where its work begins, and after one more event.
use Rattle.std.proofs.Common.{◌≡◌, ℕ, ◌+◌, ◌≤◌, List, [], ◌∷◌, ◌++◌, length, Contains, Some, None, inl, inr, refl, sym, ◌∙◌, ap, subst}
use Rattle.std.proofs.lemmas.List.{length_push}
use Rattle.odb_disk.specs.Ask.{answer_now}
use Rattle.odb_disk.specs.MemDisk.{Volume}
use Rattle.odb_disk.specs.declared.ask.DiskAnswer.{DiskAnswer}
use Rattle.odb_disk.specs.declared.ask.DiskAsk.{DiskAsk}
use Rattle.odb_disk.specs.declared.ask.DiskAsk.TheVariants as asks
use Rattle.gix_hash.specs.declared.object_id.ObjectId.{ObjectId}
use Rattle.gix_odb_core.specs.History.{History}
use Rattle.gix_odb_events.specs.declared.answer.Answer.TheVariants as told
use Rattle.gix_odb_events.specs.declared.answer.Ask.TheVariants as parts
use Rattle.gix_odb.specs.LookExchanges.{AreAnswered, Exchange, IsAnswerTo}
use Rattle.gix_odb.specs.Laps as laps
use Rattle.gix_odb.specs.Laps.{AreWithin}
use Rattle.gix_odb.specs.Fair.{PackedPlace}
use Rattle.gix_odb.specs.StillListed.{AreFairOrFailed, IsFairOrFailed}
use Rattle.gix_odb.specs.Store.{listed_for}
use Rattle.gix_odb.specs.Stream.{stream_by, stream_in}
use Rattle.gix_odb_world.proofs.CoreLaws.{core_answers_suit_their_events}
use Rattle.gix_odb.proofs.HandedLaws.{IsOwnStream}
use Rattle.gix_odb.specs.Asked.{AreSuited, IsSuited}
use Rattle.gix_odb_world.specs.AtWork.{Running, Store}
use Rattle.gix_odb_world.specs.Bound.{HasAtMost}
use Rattle.gix_odb_history.specs.Cores.{answer_behind, cores_after, history_at}
use Rattle.gix_odb_history.specs.Event.{CoreAnswer, CoreEvent, Event, OfCore, OfDisk}
use Rattle.gix_odb_history.specs.Run.{disk_after, tree_at}
use Rattle.gix_odb_world.specs.Running.Answered.{IsAnsweredWell}
use Rattle.gix_odb_world.specs.Running.PackedStill.{IsPackedStill}
use Rattle.gix_odb_world.specs.Told.{told_since}
use Rattle.gix_odb_world.proofs.DiskTold.{suits}
use Rattle.gix_odb_world.proofs.MachineLaws.{IsRunning, IsTurnAsking}
use Rattle.gix_odb_world.proofs.Streams.{next_entry_suits, streams_are_short}
use Rattle.gix_odb_world.proofs.ToldLemmas.{told_first, told_turn}
use Rattle.gix_odb_world.proofs.ToldLists.{AreAnswered-push, AreWithin-push, nothing_among, one_of_more, within_last}
use Rattle.gix_odb_world.proofs.PackedStill.{AreFairOrFailed-push, told_fairly_or_failed}
use Rattle.gix_odb_world.proofs.PackedStill.Moments.{still_before, tree_before}
use Rattle.gix_odb_world.proofs.ToldWell.{most_before}

module _ (first : Volume) (events : List Event) (e : Event) where
  abbrev whole : List Event
  whole = events ++ e ∷ []

  -- where an event has no answer to the handle, all stays true
  pub answered_later : (handle : ℕ) (store : Store) (begun : ℕ) → told_since whole handle begun ≡ told_since events handle begun
      → IsAnsweredWell first events handle store begun → IsAnsweredWell first whole handle store begun
  answered_later handle store begun same well = record {
    suited = subst AreSuited (sym same) well.suited;
    answered = subst AreAnswered (sym same) well.answered;
    within = λ entries most. subst (AreWithin entries None) (sym same) (well.within entries (most_before first events e store begun entries most));
    met = λ id place still.
        subst (AreFairOrFailed (listed_for store.parts).multi store.parts.object_hash id place []) (sym same)
        (well.met id place (still_before first events e store begun id place still));
  }

  -- where work begins there is no answer yet
  pub none_told : (handle : ℕ) → told_since whole handle (length events + 1) ≡ []
  none_told handle = ap (told_since whole handle) (sym (length_push events e)) ∙ told_first whole handle

  pub answered_at_first : (handle : ℕ) (store : Store) → IsAnsweredWell first whole handle store (length events + 1)
  answered_at_first handle store =
      let none = none_told handle in
      record {
        suited = λ exchange among. absurd (nothing_among exchange (subst (λ xs. Contains xs exchange) none among));
        answered = subst AreAnswered (sym none) tt;
        within = λ entries most. subst (AreWithin entries None) (sym none) tt;
        met = λ id place still. subst (AreFairOrFailed (listed_for store.parts).multi store.parts.object_hash id place []) (sym none) tt;
      }

  -- ---- its own turn

  module _ (handle : ℕ) (running : Running) (since : running.begun ≤ length events) (well : IsAnsweredWell first events handle running.store running.begun) where
    abbrev before : List Exchange
    before = told_since events handle running.begun

    abbrev Most : ℕ → Type 0
    Most entries = HasAtMost (tree_at first whole) running.store.parts running.begun (length whole) entries

    -- with one more exchange
    answered_more : (exchange : Exchange) → told_since whole handle running.begun ≡ before ++ exchange ∷ []
        → IsSuited exchange.ask exchange.answer → IsAnswerTo exchange.ask exchange.answer
        → ((entries : ℕ) → Most entries → laps.HasAtMost entries (stream_by (stream_in before) exchange.ask exchange.answer))
        → ((id : ObjectId) (place : PackedPlace) → IsPackedStill (tree_at first whole) running.store running.begun (length whole) id place
        → IsFairOrFailed (listed_for running.store.parts).multi running.store.parts.object_hash id place before exchange.ask exchange.answer)
        → IsAnsweredWell first whole handle running.store running.begun
    answered_more exchange same suited answers short meets = record {
      suited = λ one among.
          elim (one_of_more before exchange one (subst (λ xs. Contains xs one) same among)) [
            | inl old ↦ well.suited one old
            | inr is ↦ subst (λ (x : Exchange). IsSuited x.ask x.answer) (sym is) suited
          ];
      answered = subst AreAnswered (sym same) (AreAnswered-push before exchange well.answered answers);
      within = λ entries most.
          subst (AreWithin entries None) (sym same)
          (AreWithin-push entries None before exchange (well.within entries (most_before first events e running.store running.begun entries most)) (short entries most));
      met = λ id place still.
          subst (AreFairOrFailed (listed_for running.store.parts).multi running.store.parts.object_hash id place []) (sym same)
          (AreFairOrFailed-push (listed_for running.store.parts).multi running.store.parts.object_hash id place [] before exchange
          (well.met id place (still_before first events e running.store running.begun id place still)) (meets id place still));
    }

    -- the open stream has given no more entries than its folder had
    still_short : (entries : ℕ) → Most entries → laps.HasAtMost entries (stream_in before)
    still_short entries most = within_last entries None before (well.within entries (most_before first events e running.store running.begun entries most)) tt

    -- a call of the disk, on its own stream if it is on one
    module _ (ran : IsRunning first events handle running) (ask : DiskAsk) (own : (dir : ℕ) → ask ≡ asks.NextEntry dir → IsOwnStream before dir)
        (turn : IsTurnAsking first events e handle running (Some (parts.Disk ask))) where
      abbrev answer : DiskAnswer
      answer = answer_now (disk_after first events) ask

      abbrev call : Exchange
      call = record { ask = parts.Disk ask; answer = told.Disk answer }

      pub told_call : told_since whole handle running.begun ≡ before ++ call ∷ []
      told_call = told_turn events e handle running.begun since turn.turn (OfDisk ask answer) turn.asked call refl

      pub answered_on_disk : IsAnsweredWell first whole handle running.store running.begun
      answered_on_disk =
          answered_more call told_call (suits (disk_after first events) ask (λ dir is. next_entry_suits first events e handle running ran dir (own dir is))) tt
          (λ entries most. streams_are_short first events e handle running ran ask own entries most (still_short entries most))
          (λ id place still. told_fairly_or_failed first events e handle running ran since id place still ask own (tree_before first events))

    -- an event of the core of its store
    module _ (event : CoreEvent) (turn : IsTurnAsking first events e handle running (Some (parts.Core event))) where
      abbrev history : History
      history = history_at (cores_after events) running.modes.core

      abbrev core_answer : CoreAnswer
      core_answer = answer_behind history handle event

      abbrev entry : Exchange
      entry = record { ask = parts.Core event; answer = told.Core core_answer }

      pub told_event : told_since whole handle running.begun ≡ before ++ entry ∷ []
      told_event = told_turn events e handle running.begun since turn.turn (OfCore running.modes.core handle event core_answer) turn.asked entry refl

      pub answered_on_core : IsAnsweredWell first whole handle running.store running.begun
      answered_on_core =
          let suits_event = core_answers_suit_their_events history.opening history.entries handle event core_answer refl in
          answered_more entry told_event suits_event suits_event still_short (λ id place still. suits_event)
