-- The journals of cores grow at their ends alone.
use Rattle.std.proofs.Common.{◌≡◌, ℕ, ◌≤◌, Bool, true, false, List, [], ◌∷◌, ◌++◌, take, drop, Some, refl, sym, ◌∙◌, ap, subst, append-nil, append_assoc}
use Rattle.std.specs.Prelude.{◌==◌, fold, slice_get, slice_set, unwrap_or}
use Rattle.std.proofs.lemmas.Bool.{eqb-true, eqb-false}
use Rattle.std.proofs.lemmas.List.{take-append-drop}
use Rattle.std.proofs.lemmas.List.Sums.{fold-append}
use Rattle.gix_odb_core.specs.History.{History, opened}
use Rattle.gix_odb_events.specs.declared.event.Event.TheVariants as core_events
use Rattle.gix_odb_core.specs.declared.journal.Entry.{Entry}
use Rattle.gix_odb_history.specs.Cores.{cores_after, cores_after_asked, cores_after_event, entered, entry_of, history_at}
use Rattle.gix_odb_history.specs.Event.{Asked, CoreAnswer, CoreEvent, Event, OfCore, OfDisk, OfNewCore, OfNothing}
use Rattle.gix_odb_world.proofs.HistoryLemmas.{slice_get-kept}
use Rattle.gix_odb_world.proofs.RunSteps.Fronts.{front_of_front}
use Rattle.gix_odb_world.proofs.SeatLemmas.Elsewhere.{slice_get-set_other, slice_get-set_same}

-- a core's history got further entries
pub record HasGrown (cores : List History) (place : ℕ) (before : History) : Type 0 where
  pub history : History
  pub there : slice_get cores place ≡ Some history
  pub opening : history.opening ≡ before.opening
  pub more : List Entry
  pub entries : history.entries ≡ before.entries ++ more

abbrev Grows : (cores cores_then : List History) → Type 0
Grows cores cores_then = (place : ℕ) (h : History) → slice_get cores place ≡ Some h → HasGrown cores_then place h

grows_none : (cores : List History) → Grows cores cores
grows_none cores place h there = record { history = h; there = there; opening = refl; more = []; entries = sym (append-nil h.entries) }

grows_then : (one two three : List History) → Grows one two → Grows two three → Grows one three
grows_then one two three first next place h there =
    let a = first place h there in
    let b = next place a.history a.there in
    record {
      history = b.history;
      there = b.there;
      opening = b.opening ∙ a.opening;
      more = a.more ++ b.more;
      entries = b.entries ∙ (ap (λ es. es ++ b.more) a.entries ∙ append_assoc h.entries a.more b.more);
    }

grows_core : (cores : List History) (store seat : ℕ) (event : CoreEvent) (answer : CoreAnswer) (place : ℕ) (h : History) → slice_get cores place ≡ Some h
    → (same : Bool) → (place == store) ≡ same → HasGrown (slice_set cores store (entered (history_at cores store) seat event answer)) place h
grows_core cores store seat event answer place h there true is =
    let here : place ≡ store = eqb-true place store is in
    let own : slice_get cores store ≡ Some h = ap (slice_get cores) (sym here) ∙ there in
    let history : history_at cores store ≡ h = ap (λ o. unwrap_or o (opened 0 0 0 0)) own in
    let new : List History = slice_set cores store (entered (history_at cores store) seat event answer) in
    record {
      history = entered h seat event answer;
      there =
          ap (slice_get new) here
          ∙ (slice_get-set_same cores store (entered (history_at cores store) seat event answer) h own ∙ ap (λ (x : History). Some (entered x seat event answer)) history);
      opening = refl;
      more = entry_of h seat event answer ∷ [];
      entries = refl;
    }
grows_core cores store seat event answer place h there false is = record {
  history = h;
  there = slice_get-set_other cores store place (entered (history_at cores store) seat event answer) (eqb-false place store is) ∙ there;
  opening = refl;
  more = [];
  entries = sym (append-nil h.entries);
}

grows_asked : (cores : List History) (asked : Asked) → Grows cores (cores_after_asked cores asked)
grows_asked cores OfNothing = grows_none cores
grows_asked cores (OfDisk ask answer) = grows_none cores
grows_asked cores (OfCore store seat event answer) = λ place h there. grows_core cores store seat event answer place h there (place == store) refl
grows_asked cores (OfNewCore slots folders store seat answer) = λ place h there.
    record {
      history = h;
      there = slice_get-kept cores (entered (opened slots folders 0 0) seat (core_events.Register false) answer) place h there;
      opening = refl;
      more = [];
      entries = sym (append-nil h.entries);
    }

grows_over : (events : List Event) (cores : List History) → Grows cores (fold cores_after_event cores events)
grows_over [] cores = grows_none cores
grows_over (e ∷ events) cores =
    grows_then cores (cores_after_event cores e) (fold cores_after_event (cores_after_event cores e) events) (grows_asked cores e.asked)
    (grows_over events (cores_after_event cores e))

cores_after-append : (past later : List Event) → cores_after (past ++ later) ≡ fold cores_after_event (cores_after past) later
unfolding cores_after
cores_after-append past later = fold-append cores_after_event [] past later

pub grown_behind : (past later : List Event) (place : ℕ) (h : History) → slice_get (cores_after past) place ≡ Some h → HasGrown (cores_after (past ++ later)) place h
grown_behind past later place h there =
    subst (λ cs. HasGrown cs place h) (sym (cores_after-append past later)) (grows_over later (cores_after past) place h there)

-- from a moment of a run to a later one
pub grown_since : (events : List Event) (earlier later : ℕ) → earlier ≤ later → (place : ℕ) (h : History) → slice_get (cores_after (take earlier events)) place ≡ Some h
    → HasGrown (cores_after (take later events)) place h
grown_since events earlier later order place h there =
    let front : take earlier (take later events) ≡ take earlier events = front_of_front events earlier later order in
    let splits : take earlier events ++ drop earlier (take later events) ≡ take later events =
    ap (λ xs. xs ++ drop earlier (take later events)) (sym front) ∙ take-append-drop earlier (take later events) in
    subst (λ es. HasGrown (cores_after es) place h) splits (grown_behind (take earlier events) (drop earlier (take later events)) place h there)
