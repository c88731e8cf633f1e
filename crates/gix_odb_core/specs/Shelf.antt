-- The slots, the list and the counters after an event, without the handles. No public clause cites this.
use Rattle.std.specs.Prelude.{ℕ, [], Option, Some, None}
use Rattle.gix_odb_events.specs.Shown.{shown_indices, shown_kept, shown_todo}
use Rattle.gix_odb_core.specs.declared.shape.Shape.{Shape}
use Rattle.gix_odb_core.specs.declared.shape.Shelf.{Shelf}
use Rattle.gix_odb_events.specs.declared.view.View.{View}

abbrev pub shelf_of : Shape → Shelf
shelf_of shape =
    record { slots = shape.slots; list = shape.list; read = shape.read; list_no = shape.list_no; generation = shape.generation; state_id = shape.state_id }

abbrev pub with_shelf : Shape → Shelf → Shape
with_shelf shape shelf =
    record shape {
      slots = shelf.slots;
      list = shelf.list;
      read = shelf.read;
      list_no = shelf.list_no;
      generation = shelf.generation;
      state_id = shelf.state_id;
    }

-- the shape of these slots, this list and these counters, with no handle
abbrev pub without_handles : ℕ → Shelf → Shape
without_handles folders shelf =
    record {
      folders = folders;
      slots = shelf.slots;
      list = shelf.list;
      read = shelf.read;
      list_no = shelf.list_no;
      generation = shelf.generation;
      state_id = shelf.state_id;
      handles = [];
    }

-- a shape after an event that leaves this shelf, if it changes something
abbrev pub settled_by : Shape → Option Shelf → Shape
settled_by shape None = shape
settled_by shape (Some shelf) = with_shelf shape shelf

-- the view of a shelf, for the entry of a number
abbrev pub shown_of : Shelf → ℕ → View
shown_of shelf entry =
    record {
      snapshot = record {
        indices = shown_indices shelf.slots shelf.list;
        kept = shown_kept shelf.slots shelf.list;
        marker = record { generation = shelf.generation; state_id = shelf.state_id };
        entry = entry;
      };
      list_no = shelf.list_no;
      read = shelf.read;
      todo = shown_todo shelf.slots shelf.list;
    }
