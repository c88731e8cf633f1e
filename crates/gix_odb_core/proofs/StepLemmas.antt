-- What every event keeps: the number of slots, and that a list number is at most the state number.
use Rattle.std.proofs.Common.{◌≡◌, ℕ, ◌+◌, ◌≤◌, Bool, true, false, cond, ◌==◌, length, set, Option, Some, None, refl, arith}
use Rattle.std.proofs.lemmas.List.{length-set}
use Rattle.gix_odb_core.proofs.PublishingRule.{publishing_rule}
use Rattle.gix_odb_core.proofs.SlotsAfterLemmas.{length-slots_after}
use Rattle.gix_odb_core.specs.Handles.{is_any_stable}
use Rattle.gix_odb_events.specs.Slots.{slot_at}
use Rattle.gix_odb_core.specs.Steps.{Publishing, after, shape_published, shape_stored}
use Rattle.gix_odb_events.specs.View.{last_state}
use Rattle.gix_odb_core.specs.Files.{slot_passed, slot_with_index, slot_with_pack}
use Rattle.gix_odb_events.specs.declared.event.Event.{Event}
use Rattle.gix_odb_events.specs.declared.event.Event.TheVariants as event
use Rattle.gix_odb_core.specs.declared.shape.Shape.{Shape}
use Rattle.gix_odb_events.specs.declared.slot.Filled.{Filled}

-- ---- the number of slots

length-stored : (shape : Shape) (slot : ℕ) (filled : Option Filled) → length (shape_stored shape slot filled).slots ≡ length shape.slots
length-stored shape slot None = refl
length-stored shape slot (Some filled) = by (shape.state_id == last_state)
  where
    by : (b : Bool) → length (Shape.slots (cond b shape (record shape { slots = set shape.slots slot (Some filled); state_id = shape.state_id + 1 }))) ≡ length shape.slots
    by true = refl
    by false = length-set shape.slots slot (Some filled)

pub length-after : (shape : Shape) (seat : ℕ) (happens : Event) → length (after shape seat happens).slots ≡ length shape.slots
length-after shape seat (event.Register stable) = refl
length-after shape seat event.Upgrade = refl
length-after shape seat event.Remove = refl
length-after shape seat event.Look = refl
length-after shape seat event.Report = refl
length-after shape seat (event.PutIndex slot path file) = length-stored shape slot (slot_with_index path file (slot_at shape.slots slot))
length-after shape seat (event.PutPack pack path file) = length-stored shape pack.index (slot_with_pack path file (slot_at shape.slots pack.index))
length-after shape seat (event.PassOver slot path why) = length-set shape.slots slot (slot_passed path (slot_at shape.slots slot))
length-after shape seat (event.Publish listing) =
    let same = length-slots_after (is_any_stable shape.handles) listing.rows shape.slots shape.list in
    publishing_rule (λ (p : Publishing). length (shape_published shape p).slots ≡ length shape.slots) shape listing refl (λ base short. refl) (λ confirmed renewed over. refl) same (λ renewed. same)

-- ---- the list number and the state number

abbrev IsNumbered : Shape → Type 0
IsNumbered shape = shape.list_no ≤ shape.state_id

numbered-stored : (shape : Shape) (slot : ℕ) (filled : Option Filled) → IsNumbered shape → IsNumbered (shape_stored shape slot filled)
numbered-stored shape slot None numbered = numbered
numbered-stored shape slot (Some filled) numbered = by (shape.state_id == last_state)
  where
    by : (b : Bool) → IsNumbered (cond b shape (record shape { slots = set shape.slots slot (Some filled); state_id = shape.state_id + 1 }))
    by true = numbered
    by false = omega arith

pub numbered-after : (shape : Shape) (seat : ℕ) (happens : Event) → shape.list_no ≤ shape.state_id → (after shape seat happens).list_no ≤ (after shape seat happens).state_id
numbered-after shape seat (event.Register stable) numbered = numbered
numbered-after shape seat event.Upgrade numbered = numbered
numbered-after shape seat event.Remove numbered = numbered
numbered-after shape seat event.Look numbered = numbered
numbered-after shape seat event.Report numbered = numbered
numbered-after shape seat (event.PutIndex slot path file) numbered = numbered-stored shape slot (slot_with_index path file (slot_at shape.slots slot)) numbered
numbered-after shape seat (event.PutPack pack path file) numbered = numbered-stored shape pack.index (slot_with_pack path file (slot_at shape.slots pack.index)) numbered
numbered-after shape seat (event.PassOver slot path why) numbered = numbered
numbered-after shape seat (event.Publish listing) numbered =
    publishing_rule (λ (p : Publishing). IsNumbered (shape_published shape p)) shape listing numbered (λ base short. numbered) (λ confirmed renewed over. numbered) numbered (λ renewed. omega arith)
