-- Which events have which answers, and what the answer says of the shape.
use Rattle.std.proofs.Common.{◌≡◌, ℕ, ◌+◌, Bool, true, false, cond, ◌==◌, List, set, Option, Some, None, Ok, Err, refl, sym, ap, ◌∙◌}
use Rattle.gix_odb_events.specs.Slots.{slot_at}
use Rattle.gix_odb_core.specs.Replay.{answer_of, publish_answer, put_answer}
use Rattle.gix_odb_events.specs.Answers.{Answer}
use Rattle.gix_odb_core.specs.Steps.{Publishing, Outdated, TooFew, Overflows, Unchanged, Published, after, publishing, shape_published, shape_stored}
use Rattle.gix_odb_events.specs.View.{last_state}
use Rattle.gix_odb_core.specs.Files.{slot_with_index, slot_with_pack}
use Rattle.gix_odb_core.specs.Views.{view_of}
use Rattle.gix_odb_events.specs.declared.event.Effect.TheVariants as effects
use Rattle.gix_odb_events.specs.declared.event.Event.{Event}
use Rattle.gix_odb_events.specs.declared.event.Event.TheVariants as event
use Rattle.gix_odb_events.specs.declared.event.Refusal.{Refusal}
use Rattle.gix_odb_events.specs.declared.event.Refusal.TheVariants as refusals
use Rattle.gix_odb_core.specs.declared.journal.Entry.{Entry}
use Rattle.gix_odb_events.specs.declared.listing.Listing.{Listing}
use Rattle.gix_odb_core.specs.declared.shape.Shape.{Shape}
use Rattle.gix_odb_events.specs.declared.slot.Filled.{Filled}
use Rattle.gix_odb_events.specs.declared.view.View.{View}

-- ---- the kind of answer

-- the view of an answer that published a listing, and of one that confirmed the list
abbrev pub published_in : Answer → Option View
published_in (Ok (effects.Published view)) = Some view
published_in answer = None

abbrev pub unchanged_in : Answer → Option View
unchanged_in (Ok (effects.Unchanged view)) = Some view
unchanged_in answer = None

-- the view of an answer that stored a file
abbrev pub stored_in : Answer → Option View
stored_in (Ok (effects.Put view true)) = Some view
stored_in answer = None

put-unpublished : (shape now : Shape) (number : ℕ) (filled : Option Filled) → published_in (put_answer shape now number filled) ≡ None
put-unpublished shape now number None = refl
put-unpublished shape now number (Some filled) = by (shape.state_id == last_state)
  where
    by : (b : Bool) → published_in (cond b (Err refusals.GenerationOverflow) (Ok (effects.Put (view_of now number) true))) ≡ None
    by true = refl
    by false = refl

put-changed : (shape now : Shape) (number : ℕ) (filled : Option Filled) → unchanged_in (put_answer shape now number filled) ≡ None
put-changed shape now number None = refl
put-changed shape now number (Some filled) = by (shape.state_id == last_state)
  where
    by : (b : Bool) → unchanged_in (cond b (Err refusals.GenerationOverflow) (Ok (effects.Put (view_of now number) true))) ≡ None
    by true = refl
    by false = refl

pub publish-unstored : (shape : Shape) (number : ℕ) (p : Publishing) → stored_in (publish_answer shape number p) ≡ None
publish-unstored shape number Outdated = refl
publish-unstored shape number (TooFew needed) = refl
publish-unstored shape number Overflows = refl
publish-unstored shape number (Unchanged now) = refl
publish-unstored shape number (Published now) = refl

-- ---- what was published

-- if an event has this answer, it is a listing that leads to this shape
pub record IsPublish (shape : Shape) (seat number : ℕ) (happens : Event) (view : View) : Type 0 where
  pub listing : Listing
  pub now : Shape
  pub publishes : happens ≡ event.Publish listing
  pub comes_to : publishing shape listing ≡ Published now
  pub then : after shape seat happens ≡ now
  pub shows : view ≡ view_of now number

pub record IsConfirm (shape : Shape) (seat number : ℕ) (happens : Event) (view : View) : Type 0 where
  pub listing : Listing
  pub now : Shape
  pub publishes : happens ≡ event.Publish listing
  pub comes_to : publishing shape listing ≡ Unchanged now
  pub then : after shape seat happens ≡ now
  pub shows : view ≡ view_of now number

module _ (past : List Entry) (shape : Shape) (number seat : ℕ) (view : View) where
  pub published_by : (happens : Event) → published_in (answer_of past shape number seat happens) ≡ Some view → IsPublish shape seat number happens view
  published_by (event.Register stable) is = absurd cc
  published_by event.Upgrade is = absurd cc
  published_by event.Remove is = absurd cc
  published_by event.Look is = absurd cc
  published_by event.Report is = absurd cc
  published_by (event.PutIndex slot path file) is =
      let other = put-unpublished shape (after shape seat (event.PutIndex slot path file)) number (slot_with_index path file (slot_at shape.slots slot)) in
      let wrong : ◌≡◌ {A = Option View} None (Some view) = sym other ∙ is in
      absurd cc
  published_by (event.PutPack pack path file) is =
      let other = put-unpublished shape (after shape seat (event.PutPack pack path file)) number (slot_with_pack path file (slot_at shape.slots pack.index)) in
      let wrong : ◌≡◌ {A = Option View} None (Some view) = sym other ∙ is in
      absurd cc
  published_by (event.PassOver slot path why) is = absurd cc
  published_by (event.Publish listing) is = by (publishing shape listing) refl is
    where
      by : (p : Publishing) → publishing shape listing ≡ p → published_in (publish_answer shape number p) ≡ Some view → IsPublish shape seat number (event.Publish listing) view
      by Outdated comes is = absurd cc
      by (TooFew needed) comes is = absurd cc
      by Overflows comes is = absurd cc
      by (Unchanged now) comes is = absurd cc
      by (Published now) comes is =
          record { listing = listing; now = now; publishes = refl; comes_to = comes; then = ap (shape_published shape) comes; shows = let same : view_of now number ≡ view = cc in sym same }

  pub confirmed_by : (happens : Event) → unchanged_in (answer_of past shape number seat happens) ≡ Some view → IsConfirm shape seat number happens view
  confirmed_by (event.Register stable) is = absurd cc
  confirmed_by event.Upgrade is = absurd cc
  confirmed_by event.Remove is = absurd cc
  confirmed_by event.Look is = absurd cc
  confirmed_by event.Report is = absurd cc
  confirmed_by (event.PutIndex slot path file) is =
      let other = put-changed shape (after shape seat (event.PutIndex slot path file)) number (slot_with_index path file (slot_at shape.slots slot)) in
      let wrong : ◌≡◌ {A = Option View} None (Some view) = sym other ∙ is in
      absurd cc
  confirmed_by (event.PutPack pack path file) is =
      let other = put-changed shape (after shape seat (event.PutPack pack path file)) number (slot_with_pack path file (slot_at shape.slots pack.index)) in
      let wrong : ◌≡◌ {A = Option View} None (Some view) = sym other ∙ is in
      absurd cc
  confirmed_by (event.PassOver slot path why) is = absurd cc
  confirmed_by (event.Publish listing) is = by (publishing shape listing) refl is
    where
      by : (p : Publishing) → publishing shape listing ≡ p → unchanged_in (publish_answer shape number p) ≡ Some view → IsConfirm shape seat number (event.Publish listing) view
      by Outdated comes is = absurd cc
      by (TooFew needed) comes is = absurd cc
      by Overflows comes is = absurd cc
      by (Published now) comes is = absurd cc
      by (Unchanged now) comes is =
          record { listing = listing; now = now; publishes = refl; comes_to = comes; then = ap (shape_published shape) comes; shows = let same : view_of now number ≡ view = cc in sym same }

-- ---- what was stored

-- a file was stored at a place: the slot holds this, and the state number rises
pub record IsStored (shape now : Shape) (number slot : ℕ) (filled : Option Filled) (view : View) : Type 0 where
  pub holds : Filled
  pub is : filled ≡ Some holds
  pub then : shape_stored shape slot filled ≡ record shape { slots = set shape.slots slot (Some holds); state_id = shape.state_id + 1 }
  pub shows : view ≡ view_of now number

pub stored_by : (shape now : Shape) (number slot : ℕ) (filled : Option Filled) (view : View) → stored_in (put_answer shape now number filled) ≡ Some view → IsStored shape now number slot filled view
stored_by shape now number slot None view is = absurd cc
stored_by shape now number slot (Some holds) view is = by (shape.state_id == last_state) refl is
  where
    by : (b : Bool) → (shape.state_id == last_state) ≡ b → stored_in (cond b (Err refusals.GenerationOverflow) (Ok (effects.Put (view_of now number) true))) ≡ Some view
        → IsStored shape now number slot (Some holds) view
    by true at is = absurd cc
    by false at is = record { holds = holds; is = refl; then = rw at refl; shows = let same : view_of now number ≡ view = cc in sym same }

-- ---- what changes nothing

put_refused : (shape now : Shape) (number slot : ℕ) (filled : Option Filled) (refusal : Refusal) → put_answer shape now number filled ≡ Err refusal → shape_stored shape slot filled ≡ shape
put_refused shape now number slot None refusal is = refl
put_refused shape now number slot (Some filled) refusal is = by (shape.state_id == last_state) is
  where
    by : (b : Bool) → ◌≡◌ {A = Answer} (cond b (Err refusals.GenerationOverflow) (Ok (effects.Put (view_of now number) true))) (Err refusal)
        → cond b shape (record shape { slots = set shape.slots slot (Some filled); state_id = shape.state_id + 1 }) ≡ shape
    by true is = refl
    by false is = absurd cc

-- a file that isn't stored, and an event that is refused or outdated, leave the shape
pub refused_leaves : (past : List Entry) (shape : Shape) (number seat : ℕ) (happens : Event) (refusal : Refusal) → answer_of past shape number seat happens ≡ Err refusal
    → after shape seat happens ≡ shape
refused_leaves past shape number seat (event.Register stable) refusal is = absurd cc
refused_leaves past shape number seat event.Upgrade refusal is = absurd cc
refused_leaves past shape number seat event.Remove refusal is = absurd cc
refused_leaves past shape number seat event.Look refusal is = refl
refused_leaves past shape number seat event.Report refusal is = refl
refused_leaves past shape number seat (event.PutIndex slot path file) refusal is =
    put_refused shape (after shape seat (event.PutIndex slot path file)) number slot (slot_with_index path file (slot_at shape.slots slot)) refusal is
refused_leaves past shape number seat (event.PutPack pack path file) refusal is =
    put_refused shape (after shape seat (event.PutPack pack path file)) number pack.index (slot_with_pack path file (slot_at shape.slots pack.index)) refusal is
refused_leaves past shape number seat (event.PassOver slot path why) refusal is = absurd cc
refused_leaves past shape number seat (event.Publish listing) refusal is = by (publishing shape listing) is
  where
    by : (p : Publishing) → publish_answer shape number p ≡ Err refusal → shape_published shape p ≡ shape
    by Outdated is = absurd cc
    by (TooFew needed) is = refl
    by Overflows is = refl
    by (Unchanged now) is = absurd cc
    by (Published now) is = absurd cc
