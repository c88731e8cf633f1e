-- The model and the invariant of a kept core. No public clause cites this.
use Rattle.std.specs.Prelude.{◌≡◌, length}
use Rattle.gix_odb_core.specs.History.{History, present}
use Rattle.gix_odb_core.specs.Possible.{IsComplete}
use Rattle.gix_odb_history.specs.declared.kept_core.CoreState.{CoreState}
use Rattle.gix_odb_history.specs.declared.kept_core.CoreState.TheVariants.{Held, Left}
use Rattle.gix_odb_history.specs.declared.kept_core.KeptCore.TheInside.{Inside}

-- the history of a whole core, or of the one of which this remains
abbrev pub history_in : CoreState → History
history_in (Held core) = core.value
history_in (Left remains) = remains

-- no handle is registered at a core that isn't whole
abbrev pub HasNoneIfLeft : CoreState → Type 0
HasNoneIfLeft (Held core) = Unit {0}
HasNoneIfLeft (Left remains) = length (present remains).handles ≡ 0

abbrev pub history_of : Inside → History
history_of core = history_in core.state

-- no entry of its journal was refused for lack of memory
pub record IsKeptCore (core : Inside) : Type 0 where
  pub complete : IsComplete (history_of core).entries
  pub left : HasNoneIfLeft core.state
