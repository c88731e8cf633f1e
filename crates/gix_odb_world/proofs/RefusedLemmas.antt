-- What the core of a store refused a handle: where its work begins, and after one event more.
use Rattle.std.proofs.Common.{◌≡◌, ℕ, ◌+◌, ◌≤◌, List, [], ◌∷◌, ◌++◌, length, Err, inl, inr, refl, sym, ◌∙◌, ap, subst, arith}
use Rattle.std.specs.Prelude.{slice_set}
use Rattle.std.proofs.lemmas.List.{length_push, take-append-le}
use Rattle.std.proofs.lemmas.Option.{slice_get_within}
use Rattle.std.proofs.Math.Seq.{take-append_seam}
use Rattle.odb_disk.specs.declared.ask.DiskAnswer.{DiskAnswer}
use Rattle.odb_disk.specs.declared.ask.DiskAsk.{DiskAsk}
use Rattle.gix_odb_core.specs.Causes.{RefusalCause}
use Rattle.gix_odb_core.specs.History.{History, present}
use Rattle.gix_odb_core.specs.Replay.{number_behind}
use Rattle.gix_odb_core.specs.declared.shape.Shape.{Shape}
use Rattle.gix_odb_core.proofs.RefusalLaws.{each_refusal_has_its_cause, refused_entries_change_nothing}
use Rattle.gix_odb_events.specs.declared.answer.Answer.TheVariants as told
use Rattle.gix_odb_events.specs.declared.answer.Ask.TheVariants as parts
use Rattle.gix_odb_events.specs.declared.event.Refusal.{Refusal}
use Rattle.gix_odb_events.specs.declared.event.Refusal.TheVariants as refusals
use Rattle.gix_odb.specs.Caused.{IsRefused}
use Rattle.gix_odb.specs.LookExchanges.{Exchange, WasTold}
use Rattle.gix_odb_history.specs.Cores.{answer_behind, cores_after, cores_after_asked, entered, entry_of, history_at}
use Rattle.gix_odb_history.specs.Event.{CoreAnswer, CoreEvent, Event, OfCore}
use Rattle.gix_odb_history.specs.Run.{IsTurnOf}
use Rattle.gix_odb_world.specs.Refused.{RefusedAt, RefusedSince, shape_at}
use Rattle.gix_odb_world.specs.Running.Refused.{AreRefused}
use Rattle.gix_odb_world.specs.Told.{told_since}
use Rattle.gix_odb_world.proofs.HistoryLemmas.{cores_after-push, slice_get-kept, slice_get-last, take-push}
use Rattle.gix_odb_world.proofs.SeatLemmas.Elsewhere.{history_at-set}
use Rattle.gix_odb_world.proofs.ToldLemmas.{told_first}
use Rattle.gix_odb_world.proofs.ToldLists.{nothing_among, one_of_more}

-- ---- exchanges

no_call : (ask : DiskAsk) (event : CoreEvent) → ¬ (parts.Core event ≡ parts.Disk ask)
no_call ask event is = cc is

same_answer : (one other : CoreAnswer) → told.Core one ≡ told.Core other → one ≡ other
same_answer one other is = cc is

-- ---- a refused event of a core

module _ (cores : List History) (core handle : ℕ) (event : CoreEvent) (refusal : Refusal) (refused : answer_behind (history_at cores core) handle event ≡ Err refusal) where
  abbrev history : History
  history = history_at cores core

  cause_then : RefusalCause (present history) event refusal
  cause_then = each_refusal_has_its_cause history.entries (present history) (number_behind history.entries) handle event refusal refused

  -- it leaves the core's shape, also where there is no such core
  kept_then : present (history_at (slice_set cores core (entered history handle event (Err refusal))) core) ≡ present history
  kept_then =
      elim (history_at-set cores core (entered history handle event (Err refusal)) core) [
        | inl none ↦ ap present none
        | inr own ↦ ap present own.1
            ∙ refused_entries_change_nothing history.opening history.entries (number_behind history.entries) (entry_of history handle event (Err refusal)) refusal refused refl
      ]

-- ---- one more event

module _ (events : List Event) (e : Event) where
  abbrev whole : List Event
  whole = events ++ e ∷ []

  shape_before : (core number : ℕ) → number ≤ length events → shape_at whole core number ≡ shape_at events core number
  shape_before core number within = ap (λ past. present (history_at (cores_after past) core)) (take-append-le number events (e ∷ []) within)

  refused_at_later : (handle core number : ℕ) (refusal : Refusal) → RefusedAt events handle core number refusal → RefusedAt whole handle core number refusal
  refused_at_later handle core number refusal at =
      let within = slice_get_within events number at.turn at.there in
      let before = shape_before core number (omega (arith, within)) in
      let behind = shape_before core (number + 1) (omega (arith, within)) in
      record {
        turn = at.turn;
        there = slice_get-kept events e number at.turn at.there;
        own = at.own;
        event = at.event;
        asked = at.asked;
        cause = subst (λ (shape : Shape). RefusalCause shape at.event refusal) (sym before) at.cause;
        unchanged = behind ∙ (at.unchanged ∙ sym before);
      }

  refused_since_later : (handle core begun : ℕ) (refusal : Refusal) → RefusedSince events handle core begun refusal → RefusedSince whole handle core begun refusal
  refused_since_later handle core begun refusal since =
      record { number = since.number; later = since.later; at = refused_at_later handle core since.number refusal since.at }

  -- where nothing is answered in an event
  pub refused_later : (handle core begun : ℕ) → told_since whole handle begun ≡ told_since events handle begun
      → AreRefused events handle core begun → AreRefused whole handle core begun
  refused_later handle core begun same all event refusal was =
      refused_since_later handle core begun refusal
      (all event refusal (subst (λ xs. WasTold xs (parts.Core event) (told.Core (Err refusal))) same was))

  -- where work begins
  pub refused_at_first : (handle core : ℕ) → AreRefused whole handle core (length events + 1)
  refused_at_first handle core event refusal was =
      let none : told_since whole handle (length events + 1) ≡ [] = ap (told_since whole handle) (sym (length_push events e)) ∙ told_first whole handle in
      absurd (nothing_among (record { ask = parts.Core event; answer = told.Core (Err refusal) }) (subst (λ xs. WasTold xs (parts.Core event) (told.Core (Err refusal))) none was))

  -- where there is one more exchange
  module _ (handle core begun : ℕ) (all : AreRefused events handle core begun) where
    more : (exchange : Exchange) → told_since whole handle begun ≡ told_since events handle begun ++ exchange ∷ []
        → ((event : CoreEvent) (refusal : Refusal) → record { ask = parts.Core event; answer = told.Core (Err refusal) } ≡ exchange → RefusedSince whole handle core begun refusal)
        → AreRefused whole handle core begun
    more exchange same last event refusal was =
        elim (one_of_more (told_since events handle begun) exchange (record { ask = parts.Core event; answer = told.Core (Err refusal) })
        (subst (λ xs. WasTold xs (parts.Core event) (told.Core (Err refusal))) same was)) [
          | inl old ↦ refused_since_later handle core begun refusal (all event refusal old)
          | inr is ↦ last event refusal is
        ]

    pub refused_on_disk : (ask : DiskAsk) (answer : DiskAnswer)
        → told_since whole handle begun ≡ told_since events handle begun ++ record { ask = parts.Disk ask; answer = told.Disk answer } ∷ []
        → AreRefused whole handle core begun
    refused_on_disk ask answer same =
        more (record { ask = parts.Disk ask; answer = told.Disk answer }) same
        (λ event refusal is. absurd (no_call ask event (ap (λ (x : Exchange). x.ask) is)))

    -- an event of the core, answered as the core's history has it
    module _ (since : begun ≤ length events) (own : CoreEvent) (turn : IsTurnOf handle e)
        (asked : e.asked ≡ OfCore core handle own (answer_behind (history_at (cores_after events) core) handle own)) where
      abbrev answer : CoreAnswer
      answer = answer_behind (history_at (cores_after events) core) handle own

      shape_now : shape_at whole core (length events) ≡ present (history_at (cores_after events) core)
      shape_now = ap (λ past. present (history_at (cores_after past) core)) (take-append_seam events (e ∷ []))

      shape_then : (refusal : Refusal) → answer ≡ Err refusal → shape_at whole core (length events + 1) ≡ present (history_at (cores_after events) core)
      shape_then refusal is =
          ap (λ past. present (history_at (cores_after past) core)) (take-push events e)
          ∙ (ap (λ cores. present (history_at cores core))
          (cores_after-push events e ∙ (ap (cores_after_asked (cores_after events)) asked ∙ ap (λ a. cores_after_asked (cores_after events) (OfCore core handle own a)) is))
          ∙ kept_then (cores_after events) core handle own refusal is)

      refused_now : (refusal : Refusal) → answer ≡ Err refusal → RefusedSince whole handle core begun refusal
      refused_now refusal is = record {
        number = length events;
        later = since;
        at = record {
          turn = e;
          there = slice_get-last events e;
          own = turn;
          event = own;
          asked = asked ∙ ap (OfCore core handle own) is;
          cause = subst (λ (shape : Shape). RefusalCause shape own refusal) (sym shape_now) (cause_then (cores_after events) core handle own refusal is);
          unchanged = shape_then refusal is ∙ sym shape_now;
        };
      }

      pub refused_on_core : told_since whole handle begun ≡ told_since events handle begun ++ record { ask = parts.Core own; answer = told.Core answer } ∷ []
          → AreRefused whole handle core begun
      refused_on_core same =
          more (record { ask = parts.Core own; answer = told.Core answer }) same
          (λ event refusal is. refused_now refusal (sym (same_answer (Err refusal) answer (ap (λ (x : Exchange). x.answer) is))))

-- ---- refusals that a handle got

module _ (events : List Event) (handle core begun : ℕ) (all : AreRefused events handle core begun) where
  pub since_told : (refusal : Refusal) → IsRefused (told_since events handle begun) refusal → RefusedSince events handle core begun refusal
  since_told refusal refused = all refused.event refusal refused.told

  pub never_for_memory : ¬ (IsRefused (told_since events handle begun) refusals.NoMemory)
  never_for_memory refused = (since_told refusals.NoMemory refused).at.cause
