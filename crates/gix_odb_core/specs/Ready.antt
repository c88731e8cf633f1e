-- The invariant of the fields of a core with room for one more event. No public clause cites this.
use Rattle.gix_odb_core.specs.Core.{IsCore, shape_of}
use Rattle.gix_odb_core.specs.History.{History}
use Rattle.gix_odb_core.specs.State.{HasRoom, entries_in}
use Rattle.gix_odb_core.specs.declared.apply.Opening.{Opening}
use Rattle.gix_odb_core.specs.declared.ready.ReadyCore.TheInside.{Inside}

abbrev pub history_ready : Inside → History
history_ready ready = record { opening = shape_of ready.opening; entries = entries_in ready.state }

-- it is a core, and there is room for one entry more than those that remove its handles
pub record IsReady (ready : Inside) : Type 0 where
  pub core : IsCore (record { opening = ready.opening; state = ready.state })
  pub room : HasRoom ready.state
