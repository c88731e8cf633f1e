-- Laws of a stable handle's snapshot: what it shows is shown again by each later view, until the handle is removed.
use Rattle.std.proofs.Common.{◌≡◌, ℕ, Bool, true, false, cond, ◌⊎◌, inl, inr, nat_eq, List, [], ◌∷◌, ◌++◌, filter_map}
use Rattle.std.proofs.Common.{Option, Some, Err, refl, sym, ap, subst, ◌∙◌, append_assoc, append-nil, eqb-true, eq-eqb}
use Rattle.std.specs.List.{cons_option}
use Rattle.std.proofs.lemmas.Bool.{eqb-false}
use Rattle.gix_odb_core.specs.Handles.{Handles, registered}
use Rattle.gix_odb_core.specs.Possible.{IsNeverRemoved, IsOpened, IsPossible}
use Rattle.gix_odb_core.specs.Replay.{AreNext, IsLegal, IsNext, after_entry, answer_of, number_behind, replay, snapshot_of}
use Rattle.gix_odb_events.specs.Answers.{view_in}
use Rattle.gix_odb_core.specs.Rising.{IsRising}
use Rattle.gix_odb_core.specs.Snapshots.{IsHandedLast, handed_to}
use Rattle.gix_odb_core.specs.Steps.{after}
use Rattle.gix_odb_core.specs.Turn.{handles_after}
use Rattle.gix_odb_core.specs.Views.{view_of}
use Rattle.gix_odb_events.specs.View.{IsShown}
use Rattle.gix_odb_events.specs.declared.event.Event.{Event}
use Rattle.gix_odb_events.specs.declared.event.Event.TheVariants as event
use Rattle.gix_odb_events.specs.declared.event.Refusal.TheVariants as refusals
use Rattle.gix_odb_core.specs.declared.journal.Entry.{Entry}
use Rattle.gix_odb_core.specs.declared.shape.Shape.{Shape}
use Rattle.gix_odb_events.specs.declared.view.View.{View}
use Rattle.gix_odb_core.specs.Kept.{ShowsAgain}
use Rattle.gix_odb_events.specs.Slots.{slot_at}
use Rattle.gix_odb_events.specs.Shown.{shown_slot}
use Rattle.gix_odb_events.specs.declared.loaded.SnapshotIndex.{SnapshotIndex}
use Rattle.gix_odb_events.specs.declared.slot.Filled.{Filled}
use Rattle.gix_odb_core.proofs.HandleLaws.{other_seat, own, own_seat, seats_of_a_journal_are_in_order}
use Rattle.gix_odb_core.proofs.HandleLemmas.{handles-after, stable_handle}
use Rattle.gix_odb_core.proofs.OrderLaws.{replay_of_joined_journals}
use Rattle.gix_odb_core.proofs.ReplayLemmas.{next_behind, next_first, next_front, next_rest, replay-push}
use Rattle.gix_odb_core.proofs.ShapeLaws.{possible_journal_splits}
use Rattle.gix_odb_core.proofs.ShownLemmas.{shown_by, shown_from}
use Rattle.gix_odb_core.proofs.SlotTurnLemmas.{entry_cases, entry_gives}
use Rattle.gix_odb_core.proofs.SnapshotLaws.{entry_hands_the_view_behind_it, handed-append, snapshot_is_the_last_view_handed}
use Rattle.gix_odb_core.proofs.StableLaws.{StaysFilled, shows_again, slot_keeps_itself, slot_keeps_on, stable_event_keeps_each_slot, stable_handle_keeps_each_slot}

-- ---- an entry that returns the handle of a seat no view

module _ (opening : Shape) (past : List Entry) (entry : Entry) (seat : ℕ) (next : IsNext opening past entry) (none : handed_to seat (entry ∷ []) ≡ []) where
  abbrev present : Shape
  present = replay opening past

  -- an entry of its own returns none
  own_hands_none : entry.seat ≡ seat → (view : View) → view_in entry.answer ≡ Some view → ⊥
  own_hands_none same view is =
      let one : handed_to seat (entry ∷ []) ≡ view ∷ [] =
      ap (λ (c : Bool). filter_map (λ (e : Entry). view_in e.answer) (cond c (entry ∷ []) [])) (eq-eqb entry.seat seat same) ∙ ap (λ (v : Option View). cons_option v []) is in
      let wrong : ◌≡◌ {A = List View} [] (view ∷ []) = sym none ∙ one in
      cc

  -- so neither registers the handle nor upgrades it: where the handle is stable afterwards, it was before
  own_event : (happens : Event) → entry.event ≡ happens → entry.seat ≡ seat → (entry.answer ≡ Err refusals.NoMemory → ⊥) → own happens (registered present.handles seat) ≡ Some true
      → registered present.handles seat ≡ Some true
  own_event happens is same took stable = by happens is (at next.answered) stable
    where
      at : (entry.answer ≡ Err refusals.NoMemory) ⊎ (entry.answer ≡ answer_of past present (number_behind past) entry.seat entry.event)
          → entry.answer ≡ answer_of past present (number_behind past) entry.seat happens
      at (inl lacks) = absurd (took lacks)
      at (inr answered) = answered ∙ ap (answer_of past present (number_behind past) entry.seat) is

      by : (e : Event) → entry.event ≡ e → entry.answer ≡ answer_of past present (number_behind past) entry.seat e → own e (registered present.handles seat) ≡ Some true
          → registered present.handles seat ≡ Some true
      by (event.Register new) is answered stable = absurd (own_hands_none same (view_of (after present entry.seat (event.Register new)) (number_behind past)) (ap view_in answered))
      by event.Upgrade is answered stable = absurd (own_hands_none same (view_of (after present entry.seat event.Upgrade) (number_behind past)) (ap view_in answered))
      by event.Remove is answered stable = absurd cc
      by event.Look is answered stable = stable
      by event.Report is answered stable = stable
      by (event.PutIndex slot path file) is answered stable = stable
      by (event.PutPack pack path file) is answered stable = stable
      by (event.PassOver slot path why) is answered stable = stable
      by (event.Publish listing) is answered stable = stable

  stable_before : IsRising present.handles → registered (after_entry present entry).handles seat ≡ Some true → registered present.handles seat ≡ Some true
  stable_before rising =
      entry_cases (λ s. registered s.handles seat ≡ Some true → registered present.handles seat ≡ Some true) present entry (λ stable. stable)
      (λ took stable. by took (nat_eq entry.seat seat) refl (ap (λ (h : Handles). registered h seat) (sym (handles-after present entry.seat entry.event)) ∙ stable))
    where
      by : (entry.answer ≡ Err refusals.NoMemory → ⊥) → (b : Bool) → nat_eq entry.seat seat ≡ b → registered (handles_after present.handles entry.seat entry.event) seat ≡ Some true
          → registered present.handles seat ≡ Some true
      by took true is stable =
          let same = eqb-true entry.seat seat is in
          own_event entry.event refl same took
          (sym (subst (λ (k : ℕ). registered (handles_after present.handles k entry.event) seat ≡ own entry.event (registered present.handles seat)) (sym same)
          (own_seat present.handles seat entry.event rising)) ∙ stable)
      by took false is stable = sym (other_seat present.handles entry.seat entry.event seat (λ same. eqb-false entry.seat seat is (sym same))) ∙ stable

-- ---- entries that return it none

-- the views returned later, after one entry
handed_parts : (seat : ℕ) (entry : Entry) (later : List Entry) → handed_to seat (entry ∷ later) ≡ [] → (handed_to seat (entry ∷ []) ≡ []) × (handed_to seat later ≡ [])
handed_parts seat entry later none = by (handed_to seat (entry ∷ [])) (handed_to seat later) refl refl (sym (handed-append seat (entry ∷ []) later) ∙ none)
  where
    by : (ones others : List View) → handed_to seat (entry ∷ []) ≡ ones → handed_to seat later ≡ others → handed_to seat (entry ∷ []) ++ handed_to seat later ≡ []
        → (handed_to seat (entry ∷ []) ≡ []) × (handed_to seat later ≡ [])
    by [] [] is its all = (is, its)
    by [] (other ∷ others) is its all = let wrong : ◌≡◌ {A = List View} (other ∷ others) [] = (λ i. sym is i ++ sym its i) ∙ all in absurd cc
    by (one ∷ ones) others is its all = let wrong : ◌≡◌ {A = List View} (one ∷ (ones ++ others)) [] = (λ i. sym is i ++ sym its i) ∙ all in absurd cc

module _ (opening : Shape) (opened : IsOpened opening) (seat : ℕ) where
  -- if the handle is stable after them, it was stable before, and each filled slot keeps what was read
  abbrev Holds : List Entry → List Entry → Type 0
  Holds past later =
      (registered (replay opening past).handles seat ≡ Some true)
      × ((place : ℕ) (before : Filled) → slot_at (replay opening past).slots place ≡ Some before → StaysFilled before place (replay opening (past ++ later)))

  holds : (later past : List Entry) → AreNext opening past later → handed_to seat later ≡ [] → registered (replay opening (past ++ later)).handles seat ≡ Some true → Holds past later
  holds [] past next none stable = (
    subst (λ (l : List Entry). registered (replay opening l).handles seat ≡ Some true) (append-nil past) stable,
    λ place before was. subst (λ (l : List Entry). StaysFilled before place (replay opening l)) (sym (append-nil past)) (before, was, slot_keeps_itself before),
  )
  holds (entry ∷ later) past next none stable =
      by (holds later (past ++ entry ∷ []) (next_rest opening past entry later next) parts.1
      (subst (λ (l : List Entry). registered (replay opening l).handles seat ≡ Some true) (sym (append_assoc past (entry ∷ []) later)) stable))
    where
      parts : (handed_to seat (entry ∷ []) ≡ []) × (handed_to seat later ≡ [])
      parts = handed_parts seat entry later none

      behind : Shape
      behind = after_entry (replay opening past) entry

      by : Holds (past ++ entry ∷ []) later → Holds past (entry ∷ later)
      by (stable_then, keeps) = (stable_now, λ place before was. on place before (kept place before was))
        where
          stable_now : registered (replay opening past).handles seat ≡ Some true
          stable_now = stable_before opening past entry seat (next_first opening past entry later next) parts.0 (seats_of_a_journal_are_in_order opening opened past)
              (subst (λ (s : Shape). registered s.handles seat ≡ Some true) (replay-push opening past entry) stable_then)

          kept : (place : ℕ) (before : Filled) → slot_at (replay opening past).slots place ≡ Some before → StaysFilled before place behind
          kept place before was = entry_gives (StaysFilled before place) (replay opening past) entry (before, was, slot_keeps_itself before)
              (stable_event_keeps_each_slot (replay opening past) entry.seat entry.event (stable_handle (replay opening past).handles seat stable_now) place before was)

          on : (place : ℕ) (before : Filled) → StaysFilled before place behind → StaysFilled before place (replay opening (past ++ entry ∷ later))
          on place before (now, there, keep) =
              then (subst (λ (l : List Entry). StaysFilled now place (replay opening l)) (append_assoc past (entry ∷ []) later)
              (keeps place now (ap (λ (s : Shape). slot_at s.slots place) (replay-push opening past entry) ∙ there)))
            where
              then : StaysFilled now place (replay opening (past ++ entry ∷ later)) → StaysFilled before place (replay opening (past ++ entry ∷ later))
              then (last, at, more) = (last, at, slot_keeps_on before now last keep more)

-- ---- the laws

module _ (opening : Shape) (opened : IsOpened opening) (entries later : List Entry) (seat : ℕ) (view : View)
    (legal : IsLegal opening (entries ++ later)) (possible : IsPossible opening (entries ++ later))
    (snapshot : snapshot_of seat entries ≡ Some view) (stable : registered (replay opening entries).handles seat ≡ Some true) (stays : IsNeverRemoved seat later)
  where
    -- the entry that returned the snapshot
    handed : IsHandedLast seat entries view
    handed = snapshot_is_the_last_view_handed seat entries view snapshot

    abbrev front : List Entry
    front = handed.past ++ handed.entry ∷ []

    whole : entries ≡ front ++ handed.later
    whole = handed.splits ∙ sym (append_assoc handed.past (handed.entry ∷ []) handed.later)

    nexts : AreNext opening handed.past (handed.entry ∷ handed.later)
    nexts =
        next_behind opening handed.past [] (handed.entry ∷ handed.later)
        (subst (λ (l : List Entry). IsLegal opening l) handed.splits (next_front opening [] entries later legal))

    shows : view ≡ view_of (replay opening front) (number_behind handed.past)
    shows = entry_hands_the_view_behind_it opening handed.past handed.entry view (next_first opening handed.past handed.entry handed.later nexts) handed.handed

    -- the slots of the shape that it shows stay filled
    slots_stay : (place : ℕ) (before : Filled) → slot_at (replay opening front).slots place ≡ Some before → StaysFilled before place (replay opening (entries ++ later))
    slots_stay place before was =
        by (subst (λ (l : List Entry). StaysFilled before place (replay opening l)) (sym whole)
        ((holds opening opened seat handed.later front (next_rest opening handed.past handed.entry handed.later nexts) handed.last
        (subst (λ (l : List Entry). registered (replay opening l).handles seat ≡ Some true) whole stable)).1 place before was))
      where
        by : StaysFilled before place (replay opening entries) → StaysFilled before place (replay opening (entries ++ later))
        by (now, there, keeps) =
            then (subst (StaysFilled now place) (sym (replay_of_joined_journals entries later opening))
            (stable_handle_keeps_each_slot later (replay opening entries) seat stable (possible_journal_splits entries later opening possible).1 stays place now there))
          where
            then : StaysFilled now place (replay opening (entries ++ later)) → StaysFilled before place (replay opening (entries ++ later))
            then (last, at, more) = (last, at, slot_keeps_on before now last keeps more)

    -- what the snapshot of a stable handle shows is shown again by every view of the shape after later entries, until one
    -- removes the handle: at the same slot with the same path and bytes, and with at least the packs that were read
    pub stable_snapshot_is_shown_again : (number : ℕ) (index : SnapshotIndex) → IsShown view index
        → (again : SnapshotIndex) × IsShown (view_of (replay opening (entries ++ later)) number) again × ShowsAgain index again
    stable_snapshot_is_shown_again number index is =
        by (shown_from (replay opening front) (number_behind handed.past) index (subst (λ (v : View). IsShown v index) shows is))
      where
        by : (place : ℕ) × (filled : Filled) × (slot_at (replay opening front).slots place ≡ Some filled) × (shown_slot place (Some filled) ≡ Some index)
            → (again : SnapshotIndex) × IsShown (view_of (replay opening (entries ++ later)) number) again × ShowsAgain index again
        by (place, filled, was, gives) = at (slots_stay place filled was)
          where
            at : StaysFilled filled place (replay opening (entries ++ later))
                → (again : SnapshotIndex) × IsShown (view_of (replay opening (entries ++ later)) number) again × ShowsAgain index again
            at (now, there, keeps) =
                let again = shows_again place filled now index keeps gives in
                (again.0, shown_by (replay opening (entries ++ later)) number place now again.0 there again.1, again.2)

-- so does each view that a later entry returns to a handle
pub stable_snapshot_is_handed_again : (opening : Shape) → IsOpened opening → (entries middle : List Entry) (entry : Entry) (seat : ℕ) (view now : View)
    → IsLegal opening (entries ++ (middle ++ entry ∷ [])) → IsPossible opening (entries ++ (middle ++ entry ∷ [])) → snapshot_of seat entries ≡ Some view
    → registered (replay opening entries).handles seat ≡ Some true → IsNeverRemoved seat (middle ++ entry ∷ []) → view_in entry.answer ≡ Some now
    → (index : SnapshotIndex) → IsShown view index → (again : SnapshotIndex) × IsShown now again × ShowsAgain index again
stable_snapshot_is_handed_again opening opened entries middle entry seat view now legal possible snapshot stable stays hands index is =
    let whole : (entries ++ middle) ++ entry ∷ [] ≡ entries ++ (middle ++ entry ∷ []) = append_assoc entries middle (entry ∷ []) in
    let nexts = next_behind opening (entries ++ middle) [] (entry ∷ []) (subst (λ (l : List Entry). IsLegal opening l) (sym whole) legal) in
    let same : now ≡ view_of (replay opening (entries ++ (middle ++ entry ∷ []))) (number_behind (entries ++ middle)) =
    entry_hands_the_view_behind_it opening (entries ++ middle) entry now (next_first opening (entries ++ middle) entry [] nexts) hands
    ∙ ap (λ (l : List Entry). view_of (replay opening l) (number_behind (entries ++ middle))) whole in
    let again =
    stable_snapshot_is_shown_again opening opened entries (middle ++ entry ∷ []) seat view legal possible snapshot stable stays (number_behind (entries ++ middle)) index is in
    (again.0, subst (λ (v : View). IsShown v again.0) (sym same) again.1, again.2)
