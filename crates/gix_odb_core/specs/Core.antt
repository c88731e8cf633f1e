-- The invariant of a core's fields. No public clause cites this.
use Rattle.std.specs.Prelude.{◌≡◌}
use Rattle.gix_odb_core.specs.History.{History}
use Rattle.gix_odb_core.specs.Possible.{IsPossible}
use Rattle.gix_odb_core.specs.Replay.{IsLegal, replay}
use Rattle.gix_odb_core.specs.State.{IsKept, entries_in}
use Rattle.gix_odb_core.specs.Steps.{opening_shape}
use Rattle.gix_odb_core.specs.declared.apply.Core.TheInside.{Inside}
use Rattle.gix_odb_core.specs.declared.apply.Opening.{Opening}
use Rattle.gix_odb_core.specs.declared.shape.Shape.{Shape}

abbrev pub shape_of : Opening → Shape
shape_of opening = opening_shape opening.slots opening.folders opening.generation opening.state

abbrev pub history_of : Inside → History
history_of core = record { opening = shape_of core.opening; entries = entries_in core.state }

-- the present shape is what the journal replays to, and the journal is legal; each of its events could happen when it came
pub record IsCore (core : Inside) : Type 0 where
  pub kept : IsKept core.state
  pub replayed : core.state.shape ≡ replay (shape_of core.opening) (entries_in core.state)
  pub legal : IsLegal (shape_of core.opening) (entries_in core.state)
  pub possible : IsPossible (shape_of core.opening) (entries_in core.state)
