-- What an event that a look-up asks for leaves of who is registered where: it changes no registration, and passes its own handle the view.
use Rattle.std.proofs.Common.{◌≡◌, ◌≢◌, ℕ, Bool, true, false, List, [], ◌∷◌, Some, Ok, Err, inl, inr, refl, sym, ◌∙◌, ap, subst}
use Rattle.std.specs.Prelude.{◌==◌, IsSome, slice_get, unwrap_or}
use Rattle.std.proofs.lemmas.Bool.{eqb-true, eqb-false}
use Rattle.gix_odb_core.specs.Handles.{Handles, registered}
use Rattle.gix_odb_core.specs.History.{History, opened, present}
use Rattle.gix_odb_core.specs.Replay.{snapshot_of}
use Rattle.gix_odb_events.specs.Answers.{view_in}
use Rattle.gix_odb_core.specs.Turn.{handles_after}
use Rattle.gix_odb_events.specs.declared.event.Event.TheVariants as core_events
use Rattle.gix_odb_events.specs.declared.event.Refusal.TheVariants as refusals
use Rattle.gix_odb_core.specs.declared.shape.Shape.{Shape}
use Rattle.gix_odb_core.proofs.HandleLemmas.{handles-after}
use Rattle.gix_odb_core.proofs.OrderLaws.{replay_of_joined_journals}
use Rattle.gix_odb.proofs.HandedLaws.{IsOfLooks}
use Rattle.gix_odb_world.specs.AtWork.{Modes, modes_after}
use Rattle.gix_odb_history.specs.Cores.{cores_after_asked, entered, entry_of, history_at, or_before, registered_at}
use Rattle.gix_odb_history.specs.Event.{CoreAnswer, CoreEvent, OfCore}
use Rattle.gix_odb_world.specs.Seats.{IsSeated}
use Rattle.gix_odb_world.proofs.SeatLemmas.Elsewhere.{StaysOut, history_at-set, slice_get-set_other, slice_get-set_same}
use Rattle.gix_odb_world.proofs.SeatLemmas.Entered.{snapshot_other, snapshot_own}

looks_leave : (handles : Handles) (seat : ℕ) (event : CoreEvent) → IsOfLooks event → handles_after handles seat event ≡ handles
looks_leave handles seat (core_events.Register stable) of = absurd of
looks_leave handles seat core_events.Upgrade of = absurd of
looks_leave handles seat core_events.Remove of = absurd of
looks_leave handles seat event of = refl

module _ (h : History) (seat : ℕ) (event : CoreEvent) (of : IsOfLooks event) where
  handles_looked : (answer : CoreAnswer) → (present (entered h seat event answer)).handles ≡ (present h).handles
  handles_looked (Ok effect) =
      ap (λ (s : Shape). s.handles) (replay_of_joined_journals h.entries (entry_of h seat event (Ok effect) ∷ []) h.opening)
      ∙ (handles-after (present h) seat event ∙ looks_leave (present h).handles seat event of)
  handles_looked (Err refusals.NoMemory) =
      ap (λ (s : Shape). s.handles) (replay_of_joined_journals h.entries (entry_of h seat event (Err refusals.NoMemory) ∷ []) h.opening)
  handles_looked (Err (refusals.InsufficientSlots current needed)) =
      ap (λ (s : Shape). s.handles) (replay_of_joined_journals h.entries (entry_of h seat event (Err (refusals.InsufficientSlots current needed)) ∷ []) h.opening)
      ∙ (handles-after (present h) seat event ∙ looks_leave (present h).handles seat event of)
  handles_looked (Err refusals.GenerationOverflow) =
      ap (λ (s : Shape). s.handles) (replay_of_joined_journals h.entries (entry_of h seat event (Err refusals.GenerationOverflow) ∷ []) h.opening)
      ∙ (handles-after (present h) seat event ∙ looks_leave (present h).handles seat event of)

module _ (cores : List History) (store seat : ℕ) (event : CoreEvent) (answer : CoreAnswer) (of : IsOfLooks event) where
  abbrev cores_then : List History
  cores_then = cores_after_asked cores (OfCore store seat event answer)

  abbrev own : History
  own = entered (history_at cores store) seat event answer

  -- who is registered where stays as it was
  pub registered_looked : (place handle : ℕ) → registered_at cores_then place handle ≡ registered_at cores place handle
  registered_looked place handle = elim (history_at-set cores store own place) [
    | inl old ↦ ap (λ (h : History). registered (present h).handles handle) old
    | inr there ↦
        ap (λ (h : History). registered (present h).handles handle) there.1
        ∙ (ap (λ (handles : Handles). registered handles handle) (handles_looked (history_at cores store) seat event of answer)
        ∙ ap (λ n. registered_at cores n handle) (sym there.0))
  ]

  pub out_looked : (handle : ℕ) → StaysOut cores cores_then handle
  out_looked handle place was = registered_looked place handle ∙ was

  history_is : (h : History) → slice_get cores store ≡ Some h → history_at cores store ≡ h
  history_is h there = ap (λ o. unwrap_or o (opened 0 0 0 0)) there

  -- a handle at that core stays seated there, with a snapshot that the journal has then
  at_own_core : (handle : ℕ) (modes modes_then : Modes) (seated : IsSeated cores handle modes) → modes.core ≡ store → modes_then.core ≡ modes.core
      → modes_then.slots ≡ modes.slots → modes_then.view ≡ snapshot_of handle (entered seated.history seat event answer).entries
      → IsSeated cores_then handle modes_then
  at_own_core handle modes modes_then seated same core_is slots_are shows =
      let there : slice_get cores store ≡ Some seated.history = ap (slice_get cores) (sym same) ∙ seated.there in
      record {
        history = entered seated.history seat event answer;
        there =
            ap (slice_get cores_then) (core_is ∙ same)
            ∙ (slice_get-set_same cores store own seated.history there ∙ ap (λ h. Some (entered h seat event answer)) (history_is seated.history there));
        slots = seated.slots ∙ sym slots_are;
        registered = subst IsSome (sym (ap (λ (handles : Handles). registered handles handle) (handles_looked seated.history seat event of answer))) seated.registered;
        only = λ place elsewhere. registered_looked place handle ∙ seated.only place (λ is. elsewhere (is ∙ sym core_is));
        snapshot = shows;
      }

  -- every other handle stays seated
  pub seated_looked : (handle : ℕ) (modes : Modes) → handle ≢ seat → IsSeated cores handle modes → IsSeated cores_then handle modes
  seated_looked handle modes apart seated = by (modes.core == store) refl
    where
      not_same : (b : Bool) → (seat == handle) ≡ b → (seat == handle) ≡ false
      not_same true is = absurd (apart (sym (eqb-true seat handle is)))
      not_same false is = is

      by : (b : Bool) → (modes.core == store) ≡ b → IsSeated cores_then handle modes
      by true is =
          at_own_core handle modes modes seated (eqb-true modes.core store is) refl refl
          (seated.snapshot ∙ sym (snapshot_other seated.history seat event answer handle (not_same (seat == handle) refl)))
      by false is = record {
        history = seated.history;
        there = slice_get-set_other cores store modes.core own (eqb-false modes.core store is) ∙ seated.there;
        slots = seated.slots;
        registered = seated.registered;
        only = λ place elsewhere. registered_looked place handle ∙ seated.only place elsewhere;
        snapshot = seated.snapshot;
      }

-- and its own one does, with the view that was passed to it
pub seated_looking : (cores : List History) (seat : ℕ) (modes : Modes) (event : CoreEvent) (answer : CoreAnswer) → IsOfLooks event → IsSeated cores seat modes
    → IsSeated (cores_after_asked cores (OfCore modes.core seat event answer)) seat (modes_after (OfCore modes.core seat event answer) modes)
seated_looking cores seat modes event answer of seated =
    at_own_core cores modes.core seat event answer of seat modes (modes_after (OfCore modes.core seat event answer) modes) seated refl refl refl
    (ap (or_before (view_in answer)) seated.snapshot ∙ sym (snapshot_own seated.history seat event answer))
