-- What was taken from a worker's messages.
use Rattle.std.specs.Prelude.{◌≡◌, true, List, Option}
use Rattle.std.specs.Iterator.{Yields}
use Rattle.crossbeam_channel.specs.Ends.{receives_on}
use Rattle.crossbeam_channel.specs.Claims.{view, IsSeatAt}
use Rattle.gix_features_channel.specs.declared.messages.Message.{Message}
use Rattle.gix_features_channel.specs.declared.taker.Worker.{Worker}
use Rattle.gix_features_channel.specs.Messages.{AreTaken, HaveBegun}

-- a worker's messages that were taken
abbrev pub taken_of : {I T : Type 0} → Worker I T → List (Message I T)
taken_of worker = (view worker.pass).taken

-- A worker's messages may be taken if the first of them was taken before.
abbrev pub MayTake : {I T : Type 0} → Worker I T → Type 0
MayTake worker = IsSeatAt (receives_on worker.receiver) worker.pass × ((view worker.pass).takes ≡ true) × HaveBegun (taken_of worker)

-- These items were taken from a worker that draws them from an iterator that was so at first, and are what it gives.
pub record CameBy {I T : Type 0} (steps : I → Option T → I → Type 0) (first : I) (worker : Worker I T) (items : List T) : Type 0 where
  pub taken : AreTaken first (taken_of worker) items
  pub drawn : (t : I) × Yields steps first items t
