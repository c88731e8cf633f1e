-- Laws of refused events: each has its cause in the shape, and leaves the shape.
use Rattle.std.proofs.Common.{◌≡◌, ℕ, Bool, true, false, cond, ◌==◌, List, [], ◌∷◌, ◌++◌, Option, Some, None, Ok, Err, ap, ◌∙◌}
use Rattle.gix_odb_core.specs.Causes.{RefusalCause}
use Rattle.gix_odb_core.specs.Replay.{after_answer, answer_of, publish_answer, put_answer, replay}
use Rattle.gix_odb_core.specs.Steps.{Publishing, Outdated, TooFew, Overflows, Unchanged, Published, after, publishing}
use Rattle.gix_odb_core.specs.Views.{view_of}
use Rattle.gix_odb_events.specs.Answers.{Answer}
use Rattle.gix_odb_events.specs.Slots.{slot_at}
use Rattle.gix_odb_events.specs.View.{last_state}
use Rattle.gix_odb_core.specs.Files.{slot_with_index, slot_with_pack}
use Rattle.gix_odb_events.specs.declared.event.Effect.TheVariants as effects
use Rattle.gix_odb_events.specs.declared.event.Event.{Event}
use Rattle.gix_odb_events.specs.declared.event.Event.TheVariants as event
use Rattle.gix_odb_events.specs.declared.event.Refusal.{Refusal}
use Rattle.gix_odb_events.specs.declared.event.Refusal.TheVariants as refusals
use Rattle.gix_odb_core.specs.declared.journal.Entry.{Entry}
use Rattle.gix_odb_core.specs.declared.shape.Shape.{Shape}
use Rattle.gix_odb_events.specs.declared.slot.Filled.{Filled}
use Rattle.gix_odb_core.proofs.CauseLemmas.{overflow-cause, refused-leaves, too_few-cause}
use Rattle.gix_odb_core.proofs.OrderLaws.{replay_of_joined_journals}

-- ---- no event runs out of memory by itself

put_needs_none : (shape now : Shape) (number : ℕ) (filled : Option Filled) → ¬ (put_answer shape now number filled ≡ Err refusals.NoMemory)
put_needs_none shape now number None is = cc
put_needs_none shape now number (Some filled) is = by (shape.state_id == last_state) is
  where
    by : (b : Bool) → ¬ (◌≡◌ {A = Answer} (cond b (Err refusals.GenerationOverflow) (Ok (effects.Put (view_of now number) true))) (Err refusals.NoMemory))
    by true is = cc
    by false is = cc

publish_needs_none : (shape : Shape) (number : ℕ) (comes : Publishing) → ¬ (publish_answer shape number comes ≡ Err refusals.NoMemory)
publish_needs_none shape number Outdated is = cc
publish_needs_none shape number (TooFew needed) is = cc
publish_needs_none shape number Overflows is = cc
publish_needs_none shape number (Unchanged now) is = cc
publish_needs_none shape number (Published now) is = cc

needs_none : (entries : List Entry) (shape : Shape) (number seat : ℕ) (happens : Event) → ¬ (answer_of entries shape number seat happens ≡ Err refusals.NoMemory)
needs_none entries shape number seat (event.Register stable) is = cc
needs_none entries shape number seat event.Upgrade is = cc
needs_none entries shape number seat event.Remove is = cc
needs_none entries shape number seat event.Look is = cc
needs_none entries shape number seat event.Report is = cc
needs_none entries shape number seat (event.PutIndex slot path file) is =
    put_needs_none shape (after shape seat (event.PutIndex slot path file)) number (slot_with_index path file (slot_at shape.slots slot)) is
needs_none entries shape number seat (event.PutPack pack path file) is =
    put_needs_none shape (after shape seat (event.PutPack pack path file)) number (slot_with_pack path file (slot_at shape.slots pack.index)) is
needs_none entries shape number seat (event.PassOver slot path why) is = cc
needs_none entries shape number seat (event.Publish listing) is = publish_needs_none shape number (publishing shape listing) is

-- ---- the laws

-- what a refusal says of the shape and the event
pub each_refusal_has_its_cause : (entries : List Entry) (shape : Shape) (number seat : ℕ) (happens : Event) (refusal : Refusal)
    → answer_of entries shape number seat happens ≡ Err refusal → RefusalCause shape happens refusal
each_refusal_has_its_cause entries shape number seat happens (refusals.InsufficientSlots current needed) is = too_few-cause entries shape number seat happens current needed is
each_refusal_has_its_cause entries shape number seat happens refusals.GenerationOverflow is = overflow-cause entries shape number seat happens is
each_refusal_has_its_cause entries shape number seat happens refusals.NoMemory is = absurd (needs_none entries shape number seat happens is)

left_so : (entries : List Entry) (shape : Shape) (number : ℕ) (entry : Entry) (refusal : Refusal)
    → answer_of entries shape number entry.seat entry.event ≡ Err refusal → after_answer shape entry (Err refusal) ≡ shape
left_so entries shape number entry (refusals.InsufficientSlots current needed) is = refused-leaves entries shape number entry.seat entry.event (refusals.InsufficientSlots current needed) is
left_so entries shape number entry refusals.GenerationOverflow is = refused-leaves entries shape number entry.seat entry.event refusals.GenerationOverflow is
left_so entries shape number entry refusals.NoMemory is = absurd (needs_none entries shape number entry.seat entry.event is)

-- the entry of a refused event leaves the shape
pub refused_entries_change_nothing : (opening : Shape) (entries : List Entry) (number : ℕ) (entry : Entry) (refusal : Refusal)
    → answer_of entries (replay opening entries) number entry.seat entry.event ≡ Err refusal → entry.answer ≡ Err refusal
    → replay opening (entries ++ entry ∷ []) ≡ replay opening entries
refused_entries_change_nothing opening entries number entry refusal is told =
    replay_of_joined_journals entries (entry ∷ []) opening
    ∙ ap (after_answer (replay opening entries) entry) told
    ∙ left_so entries (replay opening entries) number entry refusal is
