-- The parts of an event's work together.
use Rattle.std.proofs.Common.{◌≡◌, ℕ, ◌+◌, ◌≤◌, cond, List, [], ◌∷◌, ◌++◌, length, Option, Some, None, Ok, Err, refl, sym, ap, subst, ◌∙◌, Bool, arith}
use Rattle.std.specs.Option.{option_to_list}
use Rattle.std.proofs.lemmas.List.{append-nil}
use Rattle.gix_odb_core.proofs.CountableLemmas.{countable-after}
use Rattle.gix_odb_core.proofs.ReplayLemmas.{newest-push, passed-answer, passed_in-push, refreshes_in-push}
use Rattle.gix_odb_core.proofs.StepLemmas.{numbered-after}
use Rattle.gix_odb_core.proofs.TurnLemmas.{after-turn, answer-turn, settled-handles, view_behind-turn}
use Rattle.gix_odb_core.specs.Countable.{IsCountable, LeavesFewPacks}
use Rattle.gix_odb_core.specs.Replay.{CanHappen, answer_of, is_refresh, number_behind, passed_by, passed_in, passed_with, refreshes_in}
use Rattle.gix_odb_events.specs.Answers.{Answer}
use Rattle.gix_odb_core.specs.Shelf.{settled_by}
use Rattle.gix_odb_core.specs.State.{IsKept, IsNextState, IsPlan, IsRefusedState, IsSameState, entered, entries_in, entry_of, newest, noted, removed, settled_with, view_behind}
use Rattle.gix_odb_core.specs.Steps.{after}
use Rattle.gix_odb_core.specs.Turn.{answer_with, handles_after, turn_of}
use Rattle.gix_odb_core.specs.Views.{view_of}
use Rattle.gix_odb_events.specs.View.{view_at}
use Rattle.gix_odb_events.specs.declared.event.Effect.TheVariants as effects
use Rattle.gix_odb_events.specs.declared.event.Event.{Event}
use Rattle.gix_odb_events.specs.declared.event.Event.TheVariants as event
use Rattle.gix_odb_events.specs.declared.event.Refusal.TheVariants as refusals
use Rattle.gix_odb_core.specs.declared.journal.Entry.{Entry}
use Rattle.gix_odb_core.specs.declared.journal.Journal.{Journal}
use Rattle.gix_odb_core.specs.declared.shape.Shape.{Shape}
use Rattle.gix_odb_core.specs.declared.shape.Shelf.{Shelf}
use Rattle.gix_odb_core.specs.declared.plan.Plan.{Plan}
use Rattle.gix_odb_core.specs.declared.state.State.{State}
use Rattle.gix_odb_events.specs.declared.view.View.{View}

-- the invariant of a state whose parts are those of the state before and an event
module _ (old now : State) (seat : ℕ) (happens : Event) (given : Answer) (kept : IsKept old) (can : CanHappen old.shape seat happens)
    (leaves : LeavesFewPacks happens (turn_of (entries_in old) old.shape happens).shelf) (shape : now.shape ≡ after old.shape seat happens)
    (view : now.view ≡ view_of (after old.shape seat happens) (number_behind (entries_in old)))
    (passed : now.passed ≡ old.passed ++ option_to_list (passed_by happens))
    (refreshes : now.refreshes ≡ old.refreshes + cond (is_refresh given) 1 0)
    (entries : entries_in now ≡ entries_in old ++ entry_of (entries_in old) seat happens given ∷ [])
    (passes : passed_with happens given ≡ passed_by happens)
    (room : length now.shape.handles ≤ now.journal.room)
  where
    pub kept-after : IsKept now
    kept-after =
        record {
          shown = view ∙ ap (λ (s : Shape). view_of s (number_behind (entries_in old))) (sym shape)
              ∙ ap (λ (n : ℕ). view_of now.shape n) (sym (newest-push (entries_in old) (entry_of (entries_in old) seat happens given)) ∙ ap newest (sym entries));
          passed = passed ∙ ap (λ l. l ++ option_to_list (passed_by happens)) kept.passed
              ∙ ap (λ o. passed_in (entries_in old) ++ option_to_list o) (sym passes) ∙ sym (passed_in-push (entries_in old) (entry_of (entries_in old) seat happens given))
              ∙ ap passed_in (sym entries);
          counted = refreshes ∙ ap (λ (n : ℕ). n + cond (is_refresh given) 1 0) kept.counted
              ∙ sym (refreshes_in-push (entries_in old) (entry_of (entries_in old) seat happens given)) ∙ ap refreshes_in (sym entries);
          numbered = subst (λ (s : Shape). s.list_no ≤ s.state_id) (sym shape) (numbered-after old.shape seat happens kept.numbered);
          countable = subst IsCountable (sym shape) (countable-after (entries_in old) old.shape seat happens can leaves kept.countable);
          room = room;
        }

-- an event that isn't a removal: prepared, and then settled
module _ (old ready now : State) (seat : ℕ) (happens : Event) (plan : Plan) (kept : IsKept old) (can : CanHappen old.shape seat happens) (leaves : LeavesFewPacks happens plan.shelf)
    (plans : IsPlan old.view (turn_of (entries_in old) old.shape happens) (number_behind (entries_in old)) plan)
    (prepared : ready ≡ entered (noted old seat happens) ready.journal)
    (same : entries_in ready ≡ entries_in old)
    (settled : now ≡ entered (settled_with ready plan) now.journal)
    (pushed : entries_in now ≡ entries_in ready ++ entry_of (entries_in ready) seat happens plan.kept ∷ [])
    (room : length ready.shape.handles ≤ now.journal.room)
  where
    settled-shape : now.shape ≡ after old.shape seat happens
    settled-shape =
        ap State.shape settled
        ∙ ap (λ (s : State). settled_by s.shape plan.shelf) prepared
        ∙ ap (λ o. settled_by (noted old seat happens).shape o) plans.shelf
        ∙ settled-handles old.shape (handles_after old.shape.handles seat happens) (turn_of (entries_in old) old.shape happens).shelf
        ∙ after-turn (entries_in old) old.shape seat happens

    behind : view_behind old.view (turn_of (entries_in old) old.shape happens).shelf (number_behind (entries_in old)) ≡ view_of (after old.shape seat happens) (number_behind (entries_in old))
    behind =
        ap (λ (v : View). view_behind v (turn_of (entries_in old) old.shape happens).shelf (number_behind (entries_in old))) kept.shown
        ∙ view_behind-turn old.shape (turn_of (entries_in old) old.shape happens).shelf (newest (entries_in old)) (number_behind (entries_in old))
        ∙ ap (λ (s : Shape). view_of s (number_behind (entries_in old))) (after-turn (entries_in old) old.shape seat happens)

    answered : answer_with (turn_of (entries_in old) old.shape happens).told (view_behind old.view (turn_of (entries_in old) old.shape happens).shelf (number_behind (entries_in old)))
        ≡ answer_of (entries_in old) old.shape (number_behind (entries_in old)) seat happens
    answered = ap (answer_with (turn_of (entries_in old) old.shape happens).told) behind ∙ sym (answer-turn (entries_in old) old.shape (number_behind (entries_in old)) seat happens)

    pub settled-next : IsNextState old seat happens plan.given now
    settled-next =
        record {
          shape = settled-shape;
          answer = plans.given ∙ answered;
          entries = entries;
          kept =
              kept-after old now seat happens plan.given kept can (subst (LeavesFewPacks happens) plans.shelf leaves) settled-shape (ap State.view settled ∙ plans.view ∙ behind)
              (ap State.passed settled ∙ ap State.passed prepared)
              (ap State.refreshes settled ∙ ap (λ (s : State). s.refreshes + cond (is_refresh plan.kept) 1 0) prepared ∙ ap (λ (a : Answer). old.refreshes + cond (is_refresh a) 1 0) alike)
              entries
              (ap (passed_with happens) (plans.given ∙ answered) ∙ passed-answer (entries_in old) old.shape (number_behind (entries_in old)) seat happens)
              (subst (λ (h : ℕ). h ≤ now.journal.room) (sym handles) room);
        }
      where
        alike : plan.kept ≡ plan.given
        alike = plans.kept ∙ sym plans.given

        entries : entries_in now ≡ entries_in old ++ entry_of (entries_in old) seat happens plan.given ∷ []
        entries =
            pushed
            ∙ ap (λ (past : List Entry). past ++ entry_of past seat happens plan.kept ∷ []) same
            ∙ ap (λ (a : Answer). entries_in old ++ entry_of (entries_in old) seat happens a ∷ []) alike

        keeps : (shape : Shape) (o : Option Shelf) → (settled_by shape o).handles ≡ shape.handles
        keeps shape None = refl
        keeps shape (Some shelf) = refl

        handles : length now.shape.handles ≡ length ready.shape.handles
        handles = ap (λ (s : State). length s.shape.handles) settled ∙ ap (length {A = ℕ × Bool}) (keeps ready.shape plan.shelf)

-- a removal
module _ (old now : State) (seat : ℕ) (kept : IsKept old) (can : CanHappen old.shape seat event.Remove)
    (settled : now ≡ entered (removed old seat) now.journal)
    (entries : entries_in now ≡ entries_in old ++ entry_of (entries_in old) seat event.Remove (Ok effects.Removed) ∷ [])
    (handles : length now.shape.handles + 1 ≡ length old.shape.handles)
    (room : now.journal.room + 1 ≡ old.journal.room)
  where
    pub removed-next : IsNextState old seat event.Remove (Ok effects.Removed) now
    removed-next =
        record {
          shape = ap State.shape settled;
          answer = refl;
          entries = entries;
          kept =
              kept-after old now seat event.Remove (Ok effects.Removed) kept can tt (ap State.shape settled)
              (ap State.view settled ∙ ap (λ (v : View). view_at v (number_behind (entries_in old))) kept.shown)
              (ap State.passed settled ∙ nothing_more old.passed) (ap State.refreshes settled ∙ plus_none old.refreshes) entries refl (omega (arith, kept.room, handles, room));
        }
      where
        plus_none : (n : ℕ) → n ≡ n + 0
        plus_none n = omega arith

        nothing_more : {A : Type 0} (l : List A) → l ≡ l ++ []
        nothing_more l = sym (append-nil l)

-- ---- entries that change nothing else, and spare room

-- an event that is refused for lack of memory, and leaves an entry
abbrev pub entry_at : (number seat : ℕ) → Event → Entry
entry_at number seat happens = record { number = number; seat = seat; event = happens; answer = Err refusals.NoMemory }

module _ (old now : State) (number seat : ℕ) (happens : Event) (kept : IsKept old) (is : number ≡ number_behind (entries_in old))
    (settles : now ≡ entered (record old { view = view_at old.view number }) now.journal)
    (pushed : entries_in now ≡ entries_in old ++ entry_at number seat happens ∷ [])
    (room : length old.shape.handles ≤ now.journal.room)
  where
    settled : now ≡ entered (record old { view = view_at old.view (number_behind (entries_in old)) }) now.journal
    settled = settles ∙ ap (λ (n : ℕ). entered (record old { view = view_at old.view n }) now.journal) is

    entries : entries_in now ≡ entries_in old ++ entry_of (entries_in old) seat happens (Err refusals.NoMemory) ∷ []
    entries = pushed ∙ ap (λ (n : ℕ). entries_in old ++ entry_at n seat happens ∷ []) is

    same : now.shape ≡ old.shape
    same = ap State.shape settled

    abbrev last : Entry
    last = entry_of (entries_in old) seat happens (Err refusals.NoMemory)

    pub refused-next : IsRefusedState old seat happens now
    refused-next =
        record {
          shape = same;
          entries = entries;
          kept =
              record {
                shown = ap State.view settled ∙ ap (λ (v : View). view_at v (number_behind (entries_in old))) kept.shown
                    ∙ ap (λ (s : Shape). view_of s (number_behind (entries_in old))) (sym same)
                    ∙ ap (λ (n : ℕ). view_of now.shape n) (sym (newest-push (entries_in old) last) ∙ ap newest (sym entries));
                passed = ap State.passed settled ∙ kept.passed ∙ nothing_more (passed_in (entries_in old)) ∙ sym (passed_in-push (entries_in old) last) ∙ ap passed_in (sym entries);
                counted = ap State.refreshes settled ∙ kept.counted ∙ plus_none (refreshes_in (entries_in old)) ∙ sym (refreshes_in-push (entries_in old) last)
                    ∙ ap refreshes_in (sym entries);
                numbered = subst (λ (s : Shape). s.list_no ≤ s.state_id) (sym same) kept.numbered;
                countable = subst IsCountable (sym same) kept.countable;
                room = subst (λ (s : Shape). length s.handles ≤ now.journal.room) (sym same) room;
              };
        }
      where
        plus_none : (n : ℕ) → n ≡ n + 0
        plus_none n = omega arith

        nothing_more : {A : Type 0} (l : List A) → l ≡ l ++ []
        nothing_more l = sym (append-nil l)

-- one that left an entry in a state with other spare room left it in the state before
pub refused-from : (old roomier now : State) (seat : ℕ) (happens : Event) → roomier ≡ entered old roomier.journal → entries_in roomier ≡ entries_in old
    → IsRefusedState roomier seat happens now → IsRefusedState old seat happens now
refused-from old roomier now seat happens is same refused =
    record {
      shape = refused.shape ∙ ap State.shape is;
      entries = refused.entries ∙ ap (λ (past : List Entry). past ++ entry_of past seat happens (Err refusals.NoMemory) ∷ []) same;
      kept = refused.kept;
    }

-- with more spare room, a state is the same
pub roomier-same : (old : State) (journal : Journal) → IsKept old → journal.entries ≡ entries_in old → old.journal.room ≤ journal.room → IsSameState old (entered old journal)
roomier-same old journal kept same grows =
    record {
      shape = refl;
      entries = same;
      kept =
          record {
            shown = kept.shown ∙ ap (λ (l : List Entry). view_of old.shape (newest l)) (sym same);
            passed = kept.passed ∙ ap passed_in (sym same);
            counted = kept.counted ∙ ap refreshes_in (sym same);
            numbered = kept.numbered;
            countable = kept.countable;
            room = omega (arith, kept.room, grows);
          };
    }
