-- What is still to be loaded, for laws of what views show.
use Rattle.std.specs.Prelude.{◌≡◌, List, Some, None}
use Rattle.std.specs.List.{Contains}
use Rattle.gix_odb_core.specs.Origins.{TellsListing}
use Rattle.gix_odb_events.specs.Slots.{slot_at, index_path}
use Rattle.gix_odb_events.specs.Shown.{loaded_index}
use Rattle.gix_odb_core.specs.declared.journal.Entry.{Entry}
use Rattle.gix_odb_events.specs.declared.listing.ListingRow.{ListingRow}
use Rattle.gix_odb_core.specs.declared.shape.Shape.{Shape}
use Rattle.gix_odb_events.specs.declared.slot.Filled.{Filled}
use Rattle.gix_odb_events.specs.declared.loaded.Todo.{Todo}

-- it is the index of a listed slot, and nothing of it was read
pub record IsUnread (shape : Shape) (todo : Todo) : Type 0 where
  pub listed : Contains shape.list todo.slot
  pub filled : Filled
  pub holds : slot_at shape.slots todo.slot ≡ Some filled
  pub path : todo.path ≡ index_path filled.index
  pub unread : loaded_index filled.index ≡ None

-- and of a row that was published
pub record IsTodoTold (entries : List Entry) (shape : Shape) (todo : Todo) : Type 0 where
  pub unread : IsUnread shape todo
  pub row : ListingRow
  pub listed : TellsListing entries row
  pub path : todo.path ≡ row.path
