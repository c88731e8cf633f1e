-- Laws of what is to be loaded: it is the index of a listed slot, of a row that a listing published, and nothing of it was read.
use Rattle.std.proofs.Common.{Contains, ◌≡◌, ℕ, ◌<◌, List, length, Option, Some, None, refl, sym, ap, subst, ◌∙◌, arith}
use Rattle.gix_odb_core.specs.Views.{view_of}
use Rattle.gix_odb_events.specs.View.{IsShown}
use Rattle.gix_odb_core.specs.Possible.{IsOpened}
use Rattle.gix_odb_events.specs.Slots.{slot_at, Slot, index_path}
use Rattle.gix_odb_core.specs.Replay.{IsLegal, replay}
use Rattle.gix_odb_core.specs.Todos.{IsTodoTold, IsUnread}
use Rattle.gix_odb_events.specs.Shown.{loaded_index, shown_slot, todo_of, unloaded_slot}
use Rattle.gix_odb_core.specs.declared.journal.Entry.{Entry}
use Rattle.gix_odb_core.specs.declared.shape.Shape.{Shape}
use Rattle.gix_odb_events.specs.declared.slot.Filled.{Filled}
use Rattle.gix_odb_events.specs.declared.loaded.LoadedIndex.{LoadedIndex}
use Rattle.gix_odb_events.specs.declared.loaded.SnapshotIndex.{SnapshotIndex}
use Rattle.gix_odb_events.specs.declared.loaded.Todo.{Todo}
use Rattle.gix_odb_core.proofs.NumberLaws.{entries_lower_no_number}
use Rattle.gix_odb_core.proofs.OriginLaws.{journal_tells_each_slot}
use Rattle.gix_odb_core.proofs.ShownLemmas.{given_by, shown_from, shown_of_slot}
use Rattle.gix_odb_core.proofs.SlotLemmas.{holds_path}
use Rattle.gix_odb_core.proofs.SlotsAfterLemmas.{filled_within}

-- what a view has to be loaded is the index of a listed slot, and nothing of it was read
pub what_is_to_be_loaded_is_unread : (shape : Shape) (number : ℕ) (todo : Todo) → Contains (view_of shape number).todo todo → IsUnread shape todo
what_is_to_be_loaded_is_unread shape number todo has = by (given_by (λ place. unloaded_slot place (slot_at shape.slots place)) shape.list todo has)
  where
    of : (place : ℕ) (filled : Filled) → Contains shape.list place → slot_at shape.slots place ≡ Some filled
        → (o : Option LoadedIndex) → loaded_index filled.index ≡ o → todo_of place o filled ≡ Some todo → IsUnread shape todo
    of place filled listed is None unread gives =
        let same : ◌≡◌ {A = Todo} (record { slot = place; path = index_path filled.index }) todo = cc in
        subst (IsUnread shape) same (record { listed = listed; filled = filled; holds = is; path = refl; unread = unread })
    of place filled listed is (Some loaded) read gives = absurd cc

    at : (place : ℕ) → Contains shape.list place → (slot : Slot) → slot_at shape.slots place ≡ slot → unloaded_slot place slot ≡ Some todo → IsUnread shape todo
    at place listed None is gives = absurd cc
    at place listed (Some filled) is gives = of place filled listed is (loaded_index filled.index) refl gives

    by : (place : ℕ) × Contains shape.list place × (unloaded_slot place (slot_at shape.slots place) ≡ Some todo) → IsUnread shape todo
    by (place, listed, gives) = at place listed (slot_at shape.slots place) refl gives

-- it is of a row that an entry of the legal journal published
pub journal_tells_what_is_to_be_loaded : (opening : Shape) → IsOpened opening → (entries : List Entry) → IsLegal opening entries → (number : ℕ) (todo : Todo)
    → Contains (view_of (replay opening entries) number).todo todo → IsTodoTold entries (replay opening entries) todo
journal_tells_what_is_to_be_loaded opening opened entries legal number todo has =
    let is = what_is_to_be_loaded_is_unread (replay opening entries) number todo has in
    let told = journal_tells_each_slot opening opened entries legal todo.slot is.filled is.holds in
    record { unread = is; row = told.row; listed = told.listed; path = is.path ∙ holds_path told.row is.filled told.of_row.holds_it }

-- its slot is one of those that the core was made with
pub slot_to_be_loaded_is_within : (opening : Shape) (entries : List Entry) (number : ℕ) (todo : Todo) → Contains (view_of (replay opening entries) number).todo todo
    → todo.slot < length opening.slots
slot_to_be_loaded_is_within opening entries number todo has =
    let is = what_is_to_be_loaded_is_unread (replay opening entries) number todo has in
    let within = filled_within (replay opening entries).slots todo.slot is.filled is.holds in
    let many = (entries_lower_no_number entries opening).slots in
    omega arith

-- no slot is shown, listed or kept, whose index is to be loaded
pub slot_to_be_loaded_is_not_shown : (shape : Shape) (number : ℕ) (todo : Todo) (shows : SnapshotIndex) → Contains (view_of shape number).todo todo → IsShown (view_of shape number) shows
    → shows.slot ≡ todo.slot → ⊥
slot_to_be_loaded_is_not_shown shape number todo shows has shown same =
    by (what_is_to_be_loaded_is_unread shape number todo has) (shown_from shape number shows shown)
  where
    by : IsUnread shape todo → (place : ℕ) × (filled : Filled) × (slot_at shape.slots place ≡ Some filled) × (shown_slot place (Some filled) ≡ Some shows) → ⊥
    by is (place, filled, at, gives) =
        let it = shown_of_slot place filled shows gives in
        let both : Some filled ≡ Some is.filled = sym at ∙ ap (slot_at shape.slots) (sym it.0 ∙ same) ∙ is.holds in
        let equal : filled ≡ is.filled = cc in
        let wrong : ◌≡◌ {A = Option LoadedIndex} None (Some shows.index) = sym is.unread ∙ ap (λ (f : Filled). loaded_index f.index) (sym equal) ∙ it.1 in
        cc
