-- The invariant of the fields of what remains of a core. No public clause cites this.
use Rattle.gix_odb_core.specs.Core.{shape_of}
use Rattle.gix_odb_core.specs.History.{History}
use Rattle.gix_odb_core.specs.Journal.{entries_of}
use Rattle.gix_odb_core.specs.Possible.{IsPossible}
use Rattle.gix_odb_core.specs.Replay.{IsLegal}
use Rattle.gix_odb_core.specs.declared.apply.Remains.TheInside.{Inside}

abbrev pub history_left : Inside → History
history_left remains = record { opening = shape_of remains.opening; entries = entries_of remains.journal }

-- the journal is legal; each of its events could happen when it came
pub record IsRemains (remains : Inside) : Type 0 where
  pub legal : IsLegal (shape_of remains.opening) (entries_of remains.journal)
  pub possible : IsPossible (shape_of remains.opening) (entries_of remains.journal)
