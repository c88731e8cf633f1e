-- The turn of an event is the change of the shape, and its answer.
use Rattle.std.proofs.Common.{◌≡◌, ℕ, ◌+◌, Bool, true, false, cond, ◌==◌, List, Option, Some, None, Ok, Err, refl, sym, ap, ◌∙◌, set}
use Rattle.odb_base.specs.Path.{Path}
use Rattle.gix_odb_core.proofs.PassLemmas.{slots-same}
use Rattle.gix_odb_core.proofs.PublishingRule.{listed_slots, publishing_rule}
use Rattle.gix_odb_core.proofs.RoomLemmas.{slots-stand}
use Rattle.gix_odb_events.specs.Slots.{slot_at, Slot}
use Rattle.gix_odb_core.specs.Replay.{answer_of, publish_answer, put_answer}
use Rattle.gix_odb_events.specs.Answers.{Answer}
use Rattle.gix_odb_core.specs.Shelf.{settled_by, shelf_of}
use Rattle.gix_odb_core.specs.State.{view_behind}
use Rattle.gix_odb_core.specs.Steps.{Publishing, Outdated, TooFew, Overflows, Unchanged, Published, after, publishing, shape_published, shape_stored}
use Rattle.gix_odb_events.specs.View.{last_state}
use Rattle.gix_odb_core.specs.Files.{slot_passed, slot_turns_missing, slot_with_index, slot_with_pack}
use Rattle.gix_odb_core.specs.Turn.{answer_with, changes_to, handles_after, pass_turn, publish_turn, put_turn, quiet, stands, turn_of}
use Rattle.gix_odb_core.specs.Views.{view_of}
use Rattle.gix_odb_events.specs.declared.event.Effect.TheVariants as effects
use Rattle.gix_odb_events.specs.declared.event.Event.{Event}
use Rattle.gix_odb_events.specs.declared.event.Event.TheVariants as event
use Rattle.gix_odb_events.specs.declared.event.Refusal.TheVariants as refusals
use Rattle.gix_odb_core.specs.declared.journal.Entry.{Entry}
use Rattle.gix_odb_events.specs.declared.listing.Listing.{Listing}
use Rattle.gix_odb_events.specs.declared.listing.ListingRow.{ListingRow}
use Rattle.gix_odb_core.specs.declared.shape.Shape.{Shape}
use Rattle.gix_odb_core.specs.declared.shape.Shelf.{Shelf}
use Rattle.gix_odb_events.specs.declared.slot.Filled.{Filled}
use Rattle.gix_odb_core.specs.declared.turn.Told.TheVariants as told
use Rattle.gix_odb_core.specs.declared.turn.Turn.{Turn}
use Rattle.gix_odb_events.specs.declared.view.View.{View}

-- ---- a file that is stored

pub put_turn-after : (shape : Shape) (slot : ℕ) (filled : Option Filled) → settled_by shape (put_turn shape slot filled).shelf ≡ shape_stored shape slot filled
put_turn-after shape slot None = refl
put_turn-after shape slot (Some filled) = by (shape.state_id == last_state)
  where
    by : (b : Bool) → settled_by shape (Turn.shelf (cond b (quiet (told.Refused refusals.GenerationOverflow))
        (changes_to (record (shelf_of shape) { slots = set shape.slots slot (Some filled); state_id = shape.state_id + 1 }) (told.Put true))))
        ≡ cond b shape (record shape { slots = set shape.slots slot (Some filled); state_id = shape.state_id + 1 })
    by true = refl
    by false = refl

pub put_turn-answer : (shape now : Shape) (slot number : ℕ) (filled : Option Filled) → put_answer shape now number filled ≡ answer_with (put_turn shape slot filled).told (view_of now number)
put_turn-answer shape now slot number None = refl
put_turn-answer shape now slot number (Some filled) = by (shape.state_id == last_state)
  where
    by : (b : Bool) → ◌≡◌ {A = Answer} (cond b (Err refusals.GenerationOverflow) (Ok (effects.Put (view_of now number) true)))
        (answer_with (Turn.told (cond b (quiet (told.Refused refusals.GenerationOverflow))
        (changes_to (record (shelf_of shape) { slots = set shape.slots slot (Some filled); state_id = shape.state_id + 1 }) (told.Put true)))) (view_of now number))
    by true = refl
    by false = refl

-- ---- a file that is passed over

pass_turn-after : (shape : Shape) (slot : ℕ) (path : Path)
    → ◌≡◌ {A = Shape} (settled_by shape (pass_turn shape slot path).shelf) (record shape { slots = set shape.slots slot (slot_passed path (slot_at shape.slots slot)) })
pass_turn-after shape slot path = by (slot_turns_missing path (slot_at shape.slots slot)) refl
  where
    now : List Slot
    now = set shape.slots slot (slot_passed path (slot_at shape.slots slot))

    by : (b : Bool) → slot_turns_missing path (slot_at shape.slots slot) ≡ b
        → ◌≡◌ {A = Shape} (settled_by shape (Turn.shelf (cond b (changes_to (record (shelf_of shape) { slots = now }) told.Seen) (quiet told.Seen)))) (record shape { slots = now })
    by true is = refl
    by false is = ap (λ (slots : List Slot). record shape { slots = slots }) (sym (slots-same path shape.slots slot is))

pass_turn-answer : (shape : Shape) (slot : ℕ) (path : Path) (view : View) → ◌≡◌ {A = Answer} (Ok (effects.Seen view)) (answer_with (pass_turn shape slot path).told view)
pass_turn-answer shape slot path view = by (slot_turns_missing path (slot_at shape.slots slot))
  where
    by : (b : Bool) → ◌≡◌ {A = Answer} (Ok (effects.Seen view))
        (answer_with (Turn.told (cond b (changes_to (record (shelf_of shape) { slots = set shape.slots slot (slot_passed path (slot_at shape.slots slot)) }) told.Seen) (quiet told.Seen))) view)
    by true = refl
    by false = refl

-- ---- a listing that is published

pub publish_turn-after : (shape : Shape) (listing : Listing) → settled_by shape (publish_turn shape listing.rows (publishing shape listing)).shelf ≡ shape_published shape (publishing shape listing)
publish_turn-after shape listing =
    publishing_rule (λ (p : Publishing). settled_by shape (publish_turn shape listing.rows p).shelf ≡ shape_published shape p) shape listing refl (λ base short. refl)
    (λ confirmed renewed over. refl) (by (stands shape listing.rows) refl) (λ renewed. refl)
  where
    now : Shape
    now = record shape { slots = listed_slots shape listing.rows }

    by : (b : Bool) → stands shape listing.rows ≡ b → settled_by shape (Turn.shelf (cond b (quiet told.Unchanged) (changes_to (shelf_of now) told.Unchanged))) ≡ now
    by true stays = ap (λ (slots : List Slot). record shape { slots = slots }) (sym (slots-stand shape listing.rows stays))
    by false changes = refl

pub publish_turn-answer : (shape : Shape) (rows : List ListingRow) (number : ℕ) (publishing : Publishing)
    → publish_answer shape number publishing ≡ answer_with (publish_turn shape rows publishing).told
    (view_of (shape_published shape publishing) number)
publish_turn-answer shape rows number Outdated = refl
publish_turn-answer shape rows number (TooFew needed) = refl
publish_turn-answer shape rows number Overflows = refl
publish_turn-answer shape rows number (Unchanged now) = by (stands shape rows)
  where
    by : (b : Bool) → ◌≡◌ {A = Answer} (Ok (effects.Unchanged (view_of now number)))
        (answer_with (Turn.told (cond b (quiet told.Unchanged) (changes_to (shelf_of now) told.Unchanged))) (view_of now number))
    by true = refl
    by false = refl
publish_turn-answer shape rows number (Published now) = refl

-- ---- the whole

-- a change of the slots by a turn leaves the handles
kept-settled : (shape : Shape) (shelf : Option Shelf) → ◌≡◌ {A = Shape} (record (settled_by shape shelf) { handles = shape.handles }) (settled_by shape shelf)
kept-settled shape None = refl
kept-settled shape (Some shelf) = refl

-- it doesn't depend on the handles
pub settled-handles : (shape : Shape) (handles : List (ℕ × Bool)) (shelf : Option Shelf)
    → ◌≡◌ {A = Shape} (settled_by (record shape { handles = handles }) shelf) (record (settled_by shape shelf) { handles = handles })
settled-handles shape handles None = refl
settled-handles shape handles (Some shelf) = refl

put_keeps : (shape : Shape) (slot : ℕ) (filled : Option Filled) → ◌≡◌ {A = Shape} (record (settled_by shape (put_turn shape slot filled).shelf) { handles = shape.handles })
    (shape_stored shape slot filled)
put_keeps shape slot filled = kept-settled shape (put_turn shape slot filled).shelf ∙ put_turn-after shape slot filled

pub after-turn : (entries : List Entry) (shape : Shape) (seat : ℕ) (happens : Event)
    → ◌≡◌ {A = Shape} (record (settled_by shape (turn_of entries shape happens).shelf) { handles = handles_after shape.handles seat happens }) (after shape seat happens)
after-turn entries shape seat (event.Register stable) = refl
after-turn entries shape seat event.Upgrade = refl
after-turn entries shape seat event.Remove = refl
after-turn entries shape seat event.Look = refl
after-turn entries shape seat event.Report = refl
after-turn entries shape seat (event.PutIndex slot path file) = put_keeps shape slot (slot_with_index path file (slot_at shape.slots slot))
after-turn entries shape seat (event.PutPack pack path file) = put_keeps shape pack.index (slot_with_pack path file (slot_at shape.slots pack.index))
after-turn entries shape seat (event.PassOver slot path why) = kept-settled shape (pass_turn shape slot path).shelf ∙ pass_turn-after shape slot path
after-turn entries shape seat (event.Publish listing) = kept-settled shape (publish_turn shape listing.rows (publishing shape listing)).shelf ∙ publish_turn-after shape listing

pub answer-turn : (entries : List Entry) (shape : Shape) (number seat : ℕ) (happens : Event)
    → answer_of entries shape number seat happens ≡ answer_with (turn_of entries shape happens).told (view_of (after shape seat happens) number)
answer-turn entries shape number seat (event.Register stable) = refl
answer-turn entries shape number seat event.Upgrade = refl
answer-turn entries shape number seat event.Remove = refl
answer-turn entries shape number seat event.Look = refl
answer-turn entries shape number seat event.Report = refl
answer-turn entries shape number seat (event.PutIndex slot path file) =
    put_turn-answer shape (after shape seat (event.PutIndex slot path file)) slot number (slot_with_index path file (slot_at shape.slots slot))
answer-turn entries shape number seat (event.PutPack pack path file) =
    put_turn-answer shape (after shape seat (event.PutPack pack path file)) pack.index number (slot_with_pack path file (slot_at shape.slots pack.index))
answer-turn entries shape number seat (event.PassOver slot path why) = pass_turn-answer shape slot path (view_of (after shape seat (event.PassOver slot path why)) number)
answer-turn entries shape number seat (event.Publish listing) = publish_turn-answer shape listing.rows number (publishing shape listing)

-- the view after a turn is the view of the shape then
pub view_behind-turn : (shape : Shape) (shelf : Option Shelf) (entry number : ℕ) → view_behind (view_of shape entry) shelf number ≡ view_of (settled_by shape shelf) number
view_behind-turn shape None entry number = refl
view_behind-turn shape (Some shelf) entry number = refl

-- ---- no event runs out of memory by itself

no_memory-put : (shape now : Shape) (number : ℕ) (filled : Option Filled) → ¬ (put_answer shape now number filled ≡ Err refusals.NoMemory)
no_memory-put shape now number None h = cc
no_memory-put shape now number (Some filled) h = by (shape.state_id == last_state) h
  where
    by : (b : Bool) → ¬ (◌≡◌ {A = Answer} (cond b (Err refusals.GenerationOverflow) (Ok (effects.Put (view_of now number) true))) (Err refusals.NoMemory))
    by true h = cc
    by false h = cc

no_memory-publish : (shape : Shape) (number : ℕ) (publishing : Publishing) → ¬ (publish_answer shape number publishing ≡ Err refusals.NoMemory)
no_memory-publish shape number Outdated h = cc
no_memory-publish shape number (TooFew needed) h = cc
no_memory-publish shape number Overflows h = cc
no_memory-publish shape number (Unchanged now) h = cc
no_memory-publish shape number (Published now) h = cc

pub no_memory-answer : (entries : List Entry) (shape : Shape) (number seat : ℕ) (happens : Event) → ¬ (answer_of entries shape number seat happens ≡ Err refusals.NoMemory)
no_memory-answer entries shape number seat (event.Register stable) h = cc
no_memory-answer entries shape number seat event.Upgrade h = cc
no_memory-answer entries shape number seat event.Remove h = cc
no_memory-answer entries shape number seat event.Look h = cc
no_memory-answer entries shape number seat event.Report h = cc
no_memory-answer entries shape number seat (event.PutIndex slot path file) h =
    no_memory-put shape (after shape seat (event.PutIndex slot path file)) number (slot_with_index path file (slot_at shape.slots slot)) h
no_memory-answer entries shape number seat (event.PutPack pack path file) h =
    no_memory-put shape (after shape seat (event.PutPack pack path file)) number (slot_with_pack path file (slot_at shape.slots pack.index)) h
no_memory-answer entries shape number seat (event.PassOver slot path why) h = cc
no_memory-answer entries shape number seat (event.Publish listing) h = no_memory-publish shape number (publishing shape listing) h
