-- A core's list that was read stays read, and each view that it passes on then says so.
use Rattle.std.proofs.Common.{◌≡◌, inl, inr, ℕ, zero, suc, ◌+◌, Bool, true, false, cond, ◌==◌, List, [], ◌∷◌, ◌++◌, length, slice_set, arith, Option, Some, None, Ok, Err, refl, sym, ap, ◌∙◌, subst}
use Rattle.std.proofs.lemmas.Bool.{false≢true}
use Rattle.gix_odb_core.specs.Files.{slot_with_index, slot_with_pack}
use Rattle.gix_odb_events.specs.Slots.{slot_at}
use Rattle.gix_odb_events.specs.declared.slot.Filled.{Filled}
use Rattle.gix_odb_core.specs.History.{History, opened, present}
use Rattle.gix_odb_core.specs.Replay.{IsNext, after_answer, number_behind, replay}
use Rattle.gix_odb_events.specs.Answers.{view_in}
use Rattle.gix_odb_events.specs.Answers as core
use Rattle.gix_odb_core.specs.Steps.{after, shape_published, shape_stored}
use Rattle.gix_odb_events.specs.View.{last_state}
use Rattle.gix_odb_core.specs.Views.{view_of}
use Rattle.gix_odb_events.specs.declared.event.Event.{Event as CoreEvent}
use Rattle.gix_odb_events.specs.declared.event.Event.TheVariants as events_of
use Rattle.gix_odb_events.specs.declared.event.Refusal.TheVariants as refusals
use Rattle.gix_odb_core.specs.declared.journal.Entry.{Entry}
use Rattle.gix_odb_core.specs.declared.shape.Shape.{Shape}
use Rattle.gix_odb_events.specs.declared.view.View.{View}
use Rattle.gix_odb_core.proofs.OrderLaws.{replay_of_joined_journals}
use Rattle.gix_odb_core.proofs.SnapshotLaws.{entry_hands_the_view_behind_it}
use Rattle.gix_odb_world.proofs.CoreLaws.Shapes.{publishing_comes_to}
use Rattle.gix_odb_history.specs.Cores.{answer_behind, cores_after_asked, entered, history_at}
use Rattle.gix_odb_history.specs.Cores as cores_of
use Rattle.gix_odb_history.specs.Event.{Asked, CoreAnswer, OfCore, OfDisk, OfNewCore, OfNothing}
use Rattle.gix_odb_world.proofs.SeatLemmas.Elsewhere.{history_at-push, history_at-set}

abbrev IsRead : Shape → Type 0
IsRead shape = shape.read ≡ true

-- ---- an event

stored_read : (shape : Shape) (slot : ℕ) (filled : Option Filled) → IsRead shape → IsRead (shape_stored shape slot filled)
stored_read shape slot None is = is
stored_read shape slot (Some filled) is = by (shape.state_id == last_state)
  where
    by : (b : Bool) → IsRead (cond b shape (record shape { slots = slice_set shape.slots slot (Some filled); state_id = shape.state_id + 1 }))
    by true = is
    by false = is

event_read : (shape : Shape) (seat : ℕ) (event : CoreEvent) → IsRead shape → IsRead (after shape seat event)
event_read shape seat (events_of.PutIndex slot path file) is = stored_read shape slot (slot_with_index path file (slot_at shape.slots slot)) is
event_read shape seat (events_of.PutPack pack path file) is = stored_read shape pack.index (slot_with_pack path file (slot_at shape.slots pack.index)) is
event_read shape seat (events_of.Publish listing) is =
    publishing_comes_to (λ p. IsRead (shape_published shape p)) shape listing (λ differs. is) (λ needed. is) is (λ slots same. is) (λ slots list renewed same differs. refl)
event_read shape seat event is = is

answer_read : (shape : Shape) (entry : Entry) (answer : core.Answer) → IsRead shape → IsRead (after_answer shape entry answer)
answer_read shape entry (Ok effect) is = event_read shape entry.seat entry.event is
answer_read shape entry (Err refusals.NoMemory) is = is
answer_read shape entry (Err refusals.GenerationOverflow) is = event_read shape entry.seat entry.event is
answer_read shape entry (Err (refusals.InsufficientSlots current needed)) is = event_read shape entry.seat entry.event is

-- ---- a journal

module _ (h : History) (seat : ℕ) (event : CoreEvent) (answer : CoreAnswer) where
  abbrev entry : Entry
  entry = cores_of.entry_of h seat event answer

  -- with one more entry a list that was read is read
  entered_read : IsRead (present h) → IsRead (present (entered h seat event answer))
  entered_read is =
      subst IsRead (sym (replay_of_joined_journals h.entries (entry ∷ []) h.opening)) (answer_read (present h) entry answer is)

  -- and the view that the entry passes on says so
  pub view_read : answer ≡ answer_behind h seat event → IsRead (present h) → (view : View) → view_in answer ≡ Some view → view.read ≡ true
  view_read answered is view handed =
      let next : IsNext h.opening h.entries entry = record { numbered = refl; answered = inr answered } in
      let shows : view ≡ view_of (replay h.opening (h.entries ++ entry ∷ [])) (number_behind h.entries) = entry_hands_the_view_behind_it h.opening h.entries entry view next handed in
      ap (λ (v : View). v.read) shows ∙ entered_read is

-- ---- the cores of a run

-- a new core's list was never read
nothing_there : (cores : List History) (new : History) (place : ℕ) → place ≡ length cores → IsRead (present (history_at cores place)) → ⊥
nothing_there [] new place is reads = false≢true reads
nothing_there (c ∷ cores) new zero is reads = absurd (omega (arith, is))
nothing_there (c ∷ cores) new (suc place) is reads = nothing_there cores new place (omega (arith, is)) reads

pub cores_read : (cores : List History) (asked : Asked) (place : ℕ) → IsRead (present (history_at cores place)) → IsRead (present (history_at (cores_after_asked cores asked) place))
cores_read cores OfNothing place is = is
cores_read cores (OfDisk ask answer) place is = is
cores_read cores (OfCore store seat event answer) place is =
    let new : History = entered (history_at cores store) seat event answer in
    elim (history_at-set cores store new place) [
      | inl old ↦ subst (λ (h : History). IsRead (present h)) (sym old) is
      | inr at ↦
          subst (λ (h : History). IsRead (present h)) (sym at.1)
          (entered_read (history_at cores store) seat event answer (subst (λ (n : ℕ). IsRead (present (history_at cores n))) at.0 is))
    ]
cores_read cores (OfNewCore slots folders store seat answer) place is =
    let new : History = entered (opened slots folders 0 0) seat (events_of.Register false) answer in
    elim (history_at-push cores new place) [
      | inl old ↦ subst (λ (h : History). IsRead (present h)) (sym old) is
      | inr at ↦ absurd (nothing_there cores new place at.0 is)
    ]
