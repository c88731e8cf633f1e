-- What a core shows: the loaded files of the listed slots, those of the others, and what is still to be loaded.
use Rattle.std.specs.Prelude.{ℕ}
use Rattle.gix_odb_events.specs.Shown.{shown_indices, shown_kept, shown_todo}
use Rattle.gix_odb_core.specs.declared.shape.Shape.{Shape}
use Rattle.gix_odb_events.specs.declared.view.View.{View}

-- the view of a shape after the entry of a number
abbrev pub view_of : Shape → ℕ → View
view_of shape entry =
    record {
      snapshot = record {
        indices = shown_indices shape.slots shape.list;
        kept = shown_kept shape.slots shape.list;
        marker = record { generation = shape.generation; state_id = shape.state_id };
        entry = entry;
      };
      list_no = shape.list_no;
      read = shape.read;
      todo = shown_todo shape.slots shape.list;
    }
