-- The invariant of each core's journal after any events.
use Rattle.gix_odb_core.specs.History.{History}
use Rattle.gix_odb_core.specs.Possible.{IsComplete, IsOpened, IsPossible}
use Rattle.gix_odb_core.specs.Replay.{IsLegal}

-- The journal of a core that was made as its history says: each entry has its number and the answer that its event gives after
-- those before it, each event could happen when it came, and none was refused for lack of memory.
pub record IsJournal (history : History) : Type 0 where
  pub opened : IsOpened history.opening
  pub legal : IsLegal history.opening history.entries
  pub possible : IsPossible history.opening history.entries
  pub complete : IsComplete history.entries
