-- Why an event is refused, and that it then leaves the shape.
use Rattle.std.proofs.Common.{◌≡◌, ℕ, ◌+◌, ◌-◌, Bool, true, false, cond, ◌==◌, not, nat_lt, List, length, Option, Some, None, Ok, Err, refl, sym, set, arith}
use Rattle.std.proofs.lemmas.Bool.{eqb-true, ltb-true}
use Rattle.gix_odb_core.proofs.PublishingRule.{free_count, listed_places, listed_slots, new_count, publishing_rule}
use Rattle.gix_odb_core.specs.Causes.{HasTooFewSlots, ListingOverflows, PutOverflows, StandsAtLast, rows_overflow}
use Rattle.gix_odb_core.specs.Publish.{taken}
use Rattle.gix_odb_events.specs.Slots.{slot_at, Slot}
use Rattle.gix_odb_core.specs.Replay.{answer_of, publish_answer, put_answer}
use Rattle.gix_odb_events.specs.Answers.{Answer}
use Rattle.gix_odb_core.specs.Steps.{Publishing, Outdated, TooFew, Overflows, Unchanged, Published, after, is_confirmed}
use Rattle.gix_odb_events.specs.View.{last_state}
use Rattle.gix_odb_core.specs.Steps.{publishing, shape_published, shape_stored, takes_over, with_list, with_room}
use Rattle.gix_odb_core.specs.Handles.{is_any_stable}
use Rattle.gix_odb_core.specs.Files.{slot_with_index, slot_with_pack}
use Rattle.gix_odb_core.specs.Views.{view_of}
use Rattle.gix_odb_events.specs.declared.event.Effect.TheVariants as effects
use Rattle.gix_odb_events.specs.declared.event.Event.{Event}
use Rattle.gix_odb_events.specs.declared.event.Event.TheVariants as event
use Rattle.gix_odb_events.specs.declared.event.Refusal.{Refusal}
use Rattle.gix_odb_events.specs.declared.event.Refusal.TheVariants as refusals
use Rattle.gix_odb_core.specs.declared.journal.Entry.{Entry}
use Rattle.gix_odb_events.specs.declared.listing.Listing.{Listing}
use Rattle.gix_odb_core.specs.declared.shape.Shape.{Shape}
use Rattle.gix_odb_events.specs.declared.slot.Filled.{Filled}

-- ---- a refused event leaves the shape

refused-put : (shape now : Shape) (slot number : ℕ) (filled : Option Filled) (refusal : Refusal) → put_answer shape now number filled ≡ Err refusal → shape_stored shape slot filled ≡ shape
refused-put shape now slot number None refusal h = refl
refused-put shape now slot number (Some filled) refusal h = by (shape.state_id == last_state) h
  where
    by : (b : Bool) → ◌≡◌ {A = Answer} (cond b (Err refusals.GenerationOverflow) (Ok (effects.Put (view_of now number) true))) (Err refusal)
        → ◌≡◌ {A = Shape} (cond b shape (record shape { slots = set shape.slots slot (Some filled); state_id = shape.state_id + 1 })) shape
    by true h = refl
    by false h = absurd cc

refused-publish : (shape : Shape) (number : ℕ) (publishing : Publishing) (refusal : Refusal) → publish_answer shape number publishing ≡ Err refusal → shape_published shape publishing ≡ shape
refused-publish shape number Outdated refusal h = refl
refused-publish shape number (TooFew needed) refusal h = refl
refused-publish shape number Overflows refusal h = refl
refused-publish shape number (Unchanged now) refusal h = absurd cc
refused-publish shape number (Published now) refusal h = absurd cc

pub refused-leaves : (entries : List Entry) (shape : Shape) (number seat : ℕ) (happens : Event) (refusal : Refusal) → answer_of entries shape number seat happens ≡ Err refusal
    → after shape seat happens ≡ shape
refused-leaves entries shape number seat (event.Register stable) refusal h = absurd cc
refused-leaves entries shape number seat event.Upgrade refusal h = absurd cc
refused-leaves entries shape number seat event.Remove refusal h = absurd cc
refused-leaves entries shape number seat event.Look refusal h = refl
refused-leaves entries shape number seat event.Report refusal h = refl
refused-leaves entries shape number seat (event.PutIndex slot path file) refusal h =
    refused-put shape (after shape seat (event.PutIndex slot path file)) slot number (slot_with_index path file (slot_at shape.slots slot)) refusal h
refused-leaves entries shape number seat (event.PutPack pack path file) refusal h =
    refused-put shape (after shape seat (event.PutPack pack path file)) pack.index number (slot_with_pack path file (slot_at shape.slots pack.index)) refusal h
refused-leaves entries shape number seat (event.PassOver slot path why) refusal h = absurd cc
refused-leaves entries shape number seat (event.Publish listing) refusal h = refused-publish shape number (publishing shape listing) refusal h

-- ---- a counter that is at its greatest value

overflows-put : (shape now : Shape) (number : ℕ) (filled : Option Filled) → put_answer shape now number filled ≡ Err refusals.GenerationOverflow → PutOverflows shape filled
overflows-put shape now number None h = absurd cc
overflows-put shape now number (Some filled) h = by (shape.state_id == last_state) refl h
  where
    by : (b : Bool) → (shape.state_id == last_state) ≡ b → ◌≡◌ {A = Answer} (cond b (Err refusals.GenerationOverflow) (Ok (effects.Put (view_of now number) true)))
        (Err refusals.GenerationOverflow) → PutOverflows shape (Some filled)
    by true is h = record { stores = refl; last = eqb-true shape.state_id last_state is }
    by false is h = absurd cc

module _ (shape : Shape) (number : ℕ) (listing : Listing) where
  abbrev Overflowing : Publishing → Type 0
  Overflowing p = publish_answer shape number p ≡ Err refusals.GenerationOverflow → ListingOverflows shape listing

  abbrev slots_now : List Slot
  slots_now = listed_slots shape listing.rows

  abbrev list_now : List ℕ
  list_now = listed_places shape listing.rows

  abbrev renews : Bool
  renews = takes_over shape.slots (taken (is_any_stable shape.handles) listing.rows shape.slots shape.list)

  overflows-publish : Overflowing (publishing shape listing)
  overflows-publish = by (listing.base == shape.list_no) (nat_lt (free_count shape listing.rows) (new_count shape listing.rows)) refl
    where
      counts : (base : (listing.base == shape.list_no) ≡ true) (over confirmed : Bool) → rows_overflow shape listing.rows ≡ over
          → Overflowing (cond over Overflows (cond confirmed (Unchanged (record shape { slots = slots_now })) (Published (with_list shape slots_now list_now renews))))
      counts base true confirmed is h = record { base = eqb-true listing.base shape.list_no base; overflows = is }
      counts base false true is h = absurd cc
      counts base false false is h = absurd cc

      by : (same short : Bool) → (listing.base == shape.list_no) ≡ same
          → Overflowing (cond (not same) Outdated (cond short (TooFew (new_count shape listing.rows - free_count shape listing.rows)) (with_room shape listing.rows)))
      by false short base h = absurd cc
      by true true base h = absurd cc
      by true false base h = counts base (rows_overflow shape listing.rows) (is_confirmed shape listing.rows list_now) refl h

pub overflow-cause : (entries : List Entry) (shape : Shape) (number seat : ℕ) (happens : Event)
    → answer_of entries shape number seat happens ≡ Err refusals.GenerationOverflow → StandsAtLast shape happens
overflow-cause entries shape number seat (event.Register stable) h = absurd cc
overflow-cause entries shape number seat event.Upgrade h = absurd cc
overflow-cause entries shape number seat event.Remove h = absurd cc
overflow-cause entries shape number seat event.Look h = absurd cc
overflow-cause entries shape number seat event.Report h = absurd cc
overflow-cause entries shape number seat (event.PutIndex slot path file) h = overflows-put shape (after shape seat (event.PutIndex slot path file)) number
    (slot_with_index path file (slot_at shape.slots slot)) h
overflow-cause entries shape number seat (event.PutPack pack path file) h = overflows-put shape (after shape seat (event.PutPack pack path file)) number
    (slot_with_pack path file (slot_at shape.slots pack.index)) h
overflow-cause entries shape number seat (event.PassOver slot path why) h = absurd cc
overflow-cause entries shape number seat (event.Publish listing) h = overflows-publish shape number listing h

-- ---- too few slots

too_few-put : (shape now : Shape) (number current needed : ℕ) (filled : Option Filled) → ¬ (put_answer shape now number filled ≡ Err (refusals.InsufficientSlots current needed))
too_few-put shape now number current needed None h = cc
too_few-put shape now number current needed (Some filled) h = by (shape.state_id == last_state) h
  where
    by : (b : Bool) → ¬ (◌≡◌ {A = Answer} (cond b (Err refusals.GenerationOverflow) (Ok (effects.Put (view_of now number) true))) (Err (refusals.InsufficientSlots current needed)))
    by true h = cc
    by false h = cc

module _ (shape : Shape) (number : ℕ) (listing : Listing) (current needed : ℕ) where
  short_of : (listing.base == shape.list_no) ≡ true → nat_lt (free_count shape listing.rows) (new_count shape listing.rows) ≡ true
      → publish_answer shape number (TooFew (new_count shape listing.rows - free_count shape listing.rows)) ≡ Err (refusals.InsufficientSlots current needed)
      → HasTooFewSlots shape (event.Publish listing) current needed
  short_of base short h =
      let less = ltb-true (free_count shape listing.rows) (new_count shape listing.rows) short in
      let slots : length shape.slots ≡ current = cc in
      let missing : new_count shape listing.rows - free_count shape listing.rows ≡ needed = cc in
      record { base = eqb-true listing.base shape.list_no base; current = sym slots; needed = omega arith; some = omega arith }

  too_few-publish : publish_answer shape number (publishing shape listing) ≡ Err (refusals.InsufficientSlots current needed) → HasTooFewSlots shape (event.Publish listing) current needed
  too_few-publish h =
      publishing_rule (λ (p : Publishing). publish_answer shape number p ≡ Err (refusals.InsufficientSlots current needed) → HasTooFewSlots shape (event.Publish listing) current needed) shape listing
      (λ h. absurd cc) short_of (λ confirmed renewed over h. absurd cc) (λ h. absurd cc) (λ renewed h. absurd cc) h

pub too_few-cause : (entries : List Entry) (shape : Shape) (number seat : ℕ) (happens : Event) (current needed : ℕ)
    → answer_of entries shape number seat happens ≡ Err (refusals.InsufficientSlots current needed) → HasTooFewSlots shape happens current needed
too_few-cause entries shape number seat (event.Register stable) current needed h = absurd cc
too_few-cause entries shape number seat event.Upgrade current needed h = absurd cc
too_few-cause entries shape number seat event.Remove current needed h = absurd cc
too_few-cause entries shape number seat event.Look current needed h = absurd cc
too_few-cause entries shape number seat event.Report current needed h = absurd cc
too_few-cause entries shape number seat (event.PutIndex slot path file) current needed h =
    absurd (too_few-put shape (after shape seat (event.PutIndex slot path file)) number current needed (slot_with_index path file (slot_at shape.slots slot)) h)
too_few-cause entries shape number seat (event.PutPack pack path file) current needed h =
    absurd (too_few-put shape (after shape seat (event.PutPack pack path file)) number current needed (slot_with_pack path file (slot_at shape.slots pack.index)) h)
too_few-cause entries shape number seat (event.PassOver slot path why) current needed h = absurd cc
too_few-cause entries shape number seat (event.Publish listing) current needed h = too_few-publish shape number listing current needed h
