-- Laws of the order of a journal: entries that have no effect can be left out, and each has the answer of its event.
use Rattle.std.proofs.Common.{◌≡◌, ℕ, ◌+◌, Bool, true, false, not, ◌||◌, cond, ◌==◌, List, [], ◌∷◌, ◌++◌, take, slice_get, filter, set}
use Rattle.std.proofs.Common.{Option, Some, None, Ok, Err, ◌⊎◌, inl, inr, refl, sym, ap, subst, ◌∙◌}
use Rattle.std.proofs.lemmas.Option.{get_or_from_slice_get, slice_get_within}
use Rattle.gix_odb_core.specs.Possible.{IsComplete, lacks_memory}
use Rattle.gix_odb_events.specs.Slots.{slot_at}
use Rattle.gix_odb_core.specs.Quiet.{has_no_effect, is_idle, only_asks}
use Rattle.gix_odb_core.specs.Replay.{AreNext, IsLegal, IsNext, after_answer, after_entry, answer_of, number_behind, publish_answer, put_answer, replay}
use Rattle.gix_odb_events.specs.Answers.{Answer}
use Rattle.gix_odb_core.specs.Steps.{Publishing, Outdated, TooFew, Overflows, Unchanged, Published, after, publishing, shape_published, shape_stored}
use Rattle.gix_odb_events.specs.View.{last_state}
use Rattle.gix_odb_core.specs.Files.{slot_with_index, slot_with_pack}
use Rattle.gix_odb_core.specs.Views.{view_of}
use Rattle.gix_odb_events.specs.declared.event.Effect.TheVariants as effects
use Rattle.gix_odb_events.specs.declared.event.Event.{Event}
use Rattle.gix_odb_events.specs.declared.event.Event.TheVariants as event
use Rattle.gix_odb_events.specs.declared.event.Refusal.TheVariants as refusals
use Rattle.gix_odb_core.specs.declared.journal.Entry.{Entry}
use Rattle.gix_odb_core.specs.declared.shape.Shape.{Shape}
use Rattle.gix_odb_events.specs.declared.slot.Filled.{Filled}
use Rattle.gix_odb_core.proofs.ReplayLemmas.{next_first, next_rest, replay-push}
use Rattle.gix_odb_core.proofs.SlotTurnLemmas.{entry_gives}

-- ---- one event

idle_put : (shape now : Shape) (number slot : ℕ) (filled : Option Filled) → is_idle (put_answer shape now number filled) ≡ true → shape_stored shape slot filled ≡ shape
idle_put shape now number slot None is = refl
idle_put shape now number slot (Some filled) is = by (shape.state_id == last_state) is
  where
    by : (b : Bool) → is_idle (cond b (Err refusals.GenerationOverflow) (Ok (effects.Put (view_of now number) true))) ≡ true
        → cond b shape (record shape { slots = set shape.slots slot (Some filled); state_id = shape.state_id + 1 }) ≡ shape
    by true is = refl
    by false is = absurd cc

idle_publish : (shape : Shape) (number : ℕ) (p : Publishing) → is_idle (publish_answer shape number p) ≡ true → shape_published shape p ≡ shape
idle_publish shape number Outdated is = refl
idle_publish shape number (TooFew needed) is = refl
idle_publish shape number Overflows is = refl
idle_publish shape number (Unchanged now) is = absurd cc
idle_publish shape number (Published now) is = absurd cc

-- an event that only reads, or whose answer reports no change, leaves the shape
pub idle_event_changes_nothing : (past : List Entry) (shape : Shape) (number seat : ℕ) (happens : Event) → (only_asks happens || is_idle (answer_of past shape number seat happens)) ≡ true
    → after shape seat happens ≡ shape
idle_event_changes_nothing past shape number seat (event.Register stable) is = absurd cc
idle_event_changes_nothing past shape number seat event.Upgrade is = absurd cc
idle_event_changes_nothing past shape number seat event.Remove is = absurd cc
idle_event_changes_nothing past shape number seat event.Look is = refl
idle_event_changes_nothing past shape number seat event.Report is = refl
idle_event_changes_nothing past shape number seat (event.PutIndex slot path file) is =
    idle_put shape (after shape seat (event.PutIndex slot path file)) number slot (slot_with_index path file (slot_at shape.slots slot)) is
idle_event_changes_nothing past shape number seat (event.PutPack pack path file) is =
    idle_put shape (after shape seat (event.PutPack pack path file)) number pack.index (slot_with_pack path file (slot_at shape.slots pack.index)) is
idle_event_changes_nothing past shape number seat (event.PassOver slot path why) is = absurd cc
idle_event_changes_nothing past shape number seat (event.Publish listing) is = idle_publish shape number (publishing shape listing) is

-- ---- journals

-- two journals, one after the other
pub replay_of_joined_journals : (past later : List Entry) (shape : Shape) → replay shape (past ++ later) ≡ replay (replay shape past) later
replay_of_joined_journals [] later shape = refl
replay_of_joined_journals (entry ∷ past) later shape = replay_of_joined_journals past later (after_entry shape entry)

-- an entry of a legal journal that has no effect leaves the shape
pub entry_without_effect_changes_nothing : (opening : Shape) (past : List Entry) (entry : Entry) → IsNext opening past entry → has_no_effect entry ≡ true
    → after_entry (replay opening past) entry ≡ replay opening past
entry_without_effect_changes_nothing opening past entry next quiet = by next.answered
  where
    present : Shape
    present = replay opening past

    by : (entry.answer ≡ Err refusals.NoMemory) ⊎ (entry.answer ≡ answer_of past present (number_behind past) entry.seat entry.event) → after_entry present entry ≡ present
    by (inl none) = ap (after_answer present entry) none
    by (inr answered) =
        entry_gives (λ s. s ≡ present) present entry refl
        (idle_event_changes_nothing past present (number_behind past) entry.seat entry.event (ap (λ (a : Answer). only_asks entry.event || is_idle a) (sym answered) ∙ quiet))

-- so it can be left out
pub entry_without_effect_can_be_left_out : (opening : Shape) (past : List Entry) (entry : Entry) (later : List Entry) → IsNext opening past entry → has_no_effect entry ≡ true
    → replay opening (past ++ entry ∷ later) ≡ replay opening (past ++ later)
entry_without_effect_can_be_left_out opening past entry later next quiet =
    replay_of_joined_journals past (entry ∷ later) opening
    ∙ ap (λ (s : Shape). replay s later) (entry_without_effect_changes_nothing opening past entry next quiet)
    ∙ sym (replay_of_joined_journals past later opening)

-- entries after others, each of which is next
left_out : (opening : Shape) (later past : List Entry) → AreNext opening past later
    → replay (replay opening past) later ≡ replay (replay opening past) (filter (λ entry. not (has_no_effect entry)) later)
left_out opening [] past next = refl
left_out opening (entry ∷ later) past next =
    by (has_no_effect entry) refl
    (subst (λ (s : Shape). replay s later ≡ replay s (filter (λ e. not (has_no_effect e)) later)) (replay-push opening past entry)
    (left_out opening later (past ++ entry ∷ []) (next_rest opening past entry later next)))
  where
    by : (b : Bool) → has_no_effect entry ≡ b
        → replay (after_entry (replay opening past) entry) later ≡ replay (after_entry (replay opening past) entry) (filter (λ e. not (has_no_effect e)) later)
        → replay (after_entry (replay opening past) entry) later
        ≡ replay (replay opening past) (cond (not b) (entry ∷ filter (λ e. not (has_no_effect e)) later) (filter (λ e. not (has_no_effect e)) later))
    by true quiet same = same
        ∙ ap (λ (s : Shape). replay s (filter (λ e. not (has_no_effect e)) later))
        (entry_without_effect_changes_nothing opening past entry (next_first opening past entry later next) quiet)
    by false quiet same = same

-- a legal journal replays to the same shape without its entries that have no effect
pub journal_replays_without_idle_entries : (opening : Shape) (entries : List Entry) → IsLegal opening entries
    → replay opening entries ≡ replay opening (filter (λ entry. not (has_no_effect entry)) entries)
journal_replays_without_idle_entries opening entries legal = left_out opening entries [] legal

-- ---- journals of cores

-- each entry of a legal journal, where none lacked memory, has the answer that its event gives after the entries before it
pub complete_journal_has_each_answer : (opening : Shape) (entries : List Entry) → IsLegal opening entries → IsComplete entries
    → (i : ℕ) (entry : Entry) → slice_get entries i ≡ Some entry
    → entry.answer ≡ answer_of (take i entries) (replay opening (take i entries)) (number_behind (take i entries)) entry.seat entry.event
complete_journal_has_each_answer opening entries legal complete i entry is = by (legal i entry is).answered
  where
    past : List Entry
    past = take i entries

    some : not (lacks_memory entry.answer) ≡ true
    some = subst (λ (e : Entry). not (lacks_memory e.answer) ≡ true) (get_or_from_slice_get entries i entry entry is) (complete i entry (slice_get_within entries i entry is))

    by : (entry.answer ≡ Err refusals.NoMemory) ⊎ (entry.answer ≡ answer_of past (replay opening past) (number_behind past) entry.seat entry.event)
        → entry.answer ≡ answer_of past (replay opening past) (number_behind past) entry.seat entry.event
    by (inl lacks) = let wrong : false ≡ true = ap (λ a. not (lacks_memory a)) (sym lacks) ∙ some in absurd cc
    by (inr answered) = answered
