-- Every event keeps the counts over a shape small: no slot has more packs than 32 bits can count, and the list is no longer than there are slots.
use Rattle.std.proofs.Common.{◌≡◌, ℕ, ◌+◌, ◌<◌, ◌≤◌, Bool, true, false, cond, ◌==◌, ◌||◌, nat_eq, All, List}
use Rattle.std.proofs.Common.{[], ◌∷◌, length, set, position, Option, Some, None, refl, sym, subst, arith}
use Rattle.std.specs.List.{cons_option, list_any}
use Rattle.std.specs.Option.{IfSome}
use Rattle.std.proofs.lemmas.Bool.{eqb-true}
use Rattle.std.proofs.lemmas.List.{length-set}
use Rattle.std.proofs.lemmas.List.Elements.{All-set}
use Rattle.std.proofs.lemmas.List.Quantifiers.{position-Some}
use Rattle.std.proofs.lemmas.Map.Steps.{length-le_from_distinct_below}
use Rattle.gix_odb_core.proofs.FewPacksLemmas.{each_few, few-index, few-pack, few-passed}
use Rattle.gix_odb_core.proofs.PublishLaws.{IsDistinct-list_after}
use Rattle.gix_odb_core.proofs.SlotsAfterLemmas.{length-slots_after}
use Rattle.gix_odb_core.proofs.PublishingRule.{listed_slots, publishing_rule}
use Rattle.gix_odb_core.proofs.RoomLemmas.{slots-stand}
use Rattle.gix_odb_core.specs.Files.{slot_passed, slot_with_index, slot_with_pack}
use Rattle.gix_odb_core.specs.Publish.{list_after}
use Rattle.gix_odb_events.specs.Slots.{slot_at, Slot, holds, HasFewPacks}
use Rattle.gix_odb_events.specs.PackFiles.{HasDifferentPaths}
use Rattle.gix_odb_events.specs.declared.listing.Listing.{Listing}
use Rattle.gix_odb_events.specs.declared.listing.ListingRow.{ListingRow}
use Rattle.gix_odb_events.specs.declared.slot.Filled.{Filled}
use Rattle.gix_odb_core.specs.Countable.{IsCountable, LeavesFewPacks}
use Rattle.gix_odb_core.specs.Handles.{is_any_stable}
use Rattle.gix_odb_core.specs.Replay.{CanHappen}
use Rattle.gix_odb_core.specs.Steps.{Publishing, after, publishing, shape_published, shape_stored}
use Rattle.gix_odb_events.specs.View.{last_state}
use Rattle.gix_odb_core.specs.Shelf.{shelf_of}
use Rattle.gix_odb_core.specs.Turn.{changes_to, publish_turn, quiet, stands, turn_of}
use Rattle.gix_odb_events.specs.declared.event.Event.{Event}
use Rattle.gix_odb_events.specs.declared.event.Event.TheVariants as event
use Rattle.gix_odb_core.specs.declared.journal.Entry.{Entry}
use Rattle.gix_odb_core.specs.declared.shape.Shape.{Shape}
use Rattle.gix_odb_core.specs.declared.turn.Told.TheVariants as told
use Rattle.gix_odb_core.specs.declared.turn.Turn.{Turn}

-- ---- a listing

-- each place of a list is one of a slot
listed_within : (slots : List Slot) (rows : List ListingRow) (place : ℕ) → list_any (nat_eq place) (list_after rows slots) ≡ true → place < length slots
listed_within slots [] place any = absurd cc
listed_within slots (row ∷ rows) place any = by (position (holds row) slots) (listed_within slots rows place) refl any
  where
    one : (k : ℕ) (rest : List ℕ) (b : Bool) → position (holds row) slots ≡ Some k → (list_any (nat_eq place) rest ≡ true → place < length slots) → nat_eq place k ≡ b
        → (b || list_any (nat_eq place) rest) ≡ true → place < length slots
    one k rest true is more same any = let e : place ≡ k = eqb-true place k same in subst (λ (n : ℕ). n < length slots) (sym e) (position-Some (holds row) slots k None is).0
    one k rest false is more same any = more any

    by : (o : Option ℕ) → (list_any (nat_eq place) (list_after rows slots) ≡ true → place < length slots) → position (holds row) slots ≡ o
        → list_any (nat_eq place) (cons_option o (list_after rows slots)) ≡ true → place < length slots
    by None more is any = more any
    by (Some k) more is any = one k (list_after rows slots) (nat_eq place k) is more refl any

length-list_after-le : (slots : List Slot) (rows : List ListingRow) → HasDifferentPaths rows → length (list_after rows slots) ≤ length slots
length-list_after-le slots rows differ = length-le_from_distinct_below (list_after rows slots) (length slots) (IsDistinct-list_after rows slots differ)
    (λ place any. listed_within slots rows place any)

-- ---- the whole

countable-set : (shape : Shape) (state place : ℕ) (slot : Slot) → HasFewPacks slot → IsCountable shape → IsCountable (record shape { slots = set shape.slots place slot; state_id = state })
countable-set shape state place slot few countable =
    record { packs = All-set HasFewPacks shape.slots place slot few countable.packs; few = omega (arith, countable.few, length-set shape.slots place slot); short = countable.short }

countable-stored : (shape : Shape) (slot : ℕ) (filled : Option Filled) → HasFewPacks filled → IsCountable shape → IsCountable (shape_stored shape slot filled)
countable-stored shape slot None few countable = countable
countable-stored shape slot (Some filled) few countable = by (shape.state_id == last_state)
  where
    by : (b : Bool) → IsCountable (cond b shape (record shape { slots = set shape.slots slot (Some filled); state_id = shape.state_id + 1 }))
    by true = countable
    by false = countable-set shape (shape.state_id + 1) slot (Some filled) few countable

countable-published : (shape : Shape) (listing : Listing) → HasDifferentPaths listing.rows
    → IfSome (publish_turn shape listing.rows (publishing shape listing)).shelf (λ shelf. All HasFewPacks shelf.slots)
    → IsCountable shape → IsCountable (shape_published shape (publishing shape listing))
countable-published shape listing differ leaves countable =
    publishing_rule (λ (p : Publishing). IfSome (publish_turn shape listing.rows p).shelf (λ shelf. All HasFewPacks shelf.slots) → IsCountable (shape_published shape p)) shape listing
    (λ none. countable) (λ base short none. countable) (λ confirmed renewed over none. countable)
    (λ leaves. record { packs = packs_kept (stands shape listing.rows) refl leaves; few = few_slots; short = countable.short })
    (λ renewed packs. record { packs = packs; few = few_slots; short = omega (arith, few_slots, length-list_after-le (listed_slots shape listing.rows) listing.rows differ) }) leaves
  where
    few_slots : length (listed_slots shape listing.rows) ≤ 32767
    few_slots = omega (arith, countable.few, length-slots_after (is_any_stable shape.handles) listing.rows shape.slots shape.list)

    now : Shape
    now = record shape { slots = listed_slots shape listing.rows }

    packs_kept : (b : Bool) → stands shape listing.rows ≡ b
        → IfSome (Turn.shelf (cond b (quiet told.Unchanged) (changes_to (shelf_of now) told.Unchanged))) (λ shelf. All HasFewPacks shelf.slots) → All HasFewPacks (listed_slots shape listing.rows)
    packs_kept true stays leaves = subst (All HasFewPacks) (sym (slots-stand shape listing.rows stays)) countable.packs
    packs_kept false changes leaves = leaves

-- the handles don't matter
countable_with : (shape now : Shape) → now.slots ≡ shape.slots → now.list ≡ shape.list → IsCountable shape → IsCountable now
countable_with shape now slots list countable =
    record {
      packs = subst (All HasFewPacks) (sym slots) countable.packs;
      few = subst (λ (s : List Slot). length s ≤ 32767) (sym slots) countable.few;
      short = subst (λ (l : List ℕ). length l ≤ 32767) (sym list) countable.short;
    }

pub countable-after : (entries : List Entry) (shape : Shape) (seat : ℕ) (happens : Event) → CanHappen shape seat happens → LeavesFewPacks happens (turn_of entries shape happens).shelf
    → IsCountable shape → IsCountable (after shape seat happens)
countable-after entries shape seat (event.Register stable) can leaves countable = countable_with shape (after shape seat (event.Register stable)) refl refl countable
countable-after entries shape seat event.Upgrade can leaves countable = countable_with shape (after shape seat event.Upgrade) refl refl countable
countable-after entries shape seat event.Remove can leaves countable = countable_with shape (after shape seat event.Remove) refl refl countable
countable-after entries shape seat event.Look can leaves countable = countable
countable-after entries shape seat event.Report can leaves countable = countable
countable-after entries shape seat (event.PutIndex slot path file) can leaves countable =
    countable-stored shape slot (slot_with_index path file (slot_at shape.slots slot)) (few-index path file (slot_at shape.slots slot) (each_few shape.slots countable.packs slot)) countable
countable-after entries shape seat (event.PutPack pack path file) can leaves countable =
    countable-stored shape pack.index (slot_with_pack path file (slot_at shape.slots pack.index))
    (few-pack path file (slot_at shape.slots pack.index) (each_few shape.slots countable.packs pack.index)) countable
countable-after entries shape seat (event.PassOver slot path why) can leaves countable =
    countable-set shape shape.state_id slot (slot_passed path (slot_at shape.slots slot)) (few-passed path (slot_at shape.slots slot) (each_few shape.slots countable.packs slot)) countable
countable-after entries shape seat (event.Publish listing) can leaves countable = countable-published shape listing can leaves countable
