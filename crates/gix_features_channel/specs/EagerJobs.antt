-- What a worker begins with that draws an iterator's items. No clause of a public call cites this.
use Rattle.std.specs.Prelude.{◌≡◌, true, false, Bool, List, [], ◌∷◌, Option, None}
use Rattle.std.specs.Iterator.{Yields}
use Rattle.std.specs.declared.snapshot.Snapshot.{Snapshot}
use Rattle.crossbeam_channel.specs.Ends.{sends_on}
use Rattle.crossbeam_channel.specs.Claims.{view, IsSeatAt}
use Rattle.gix_features_channel.specs.declared.worker.Job.{Job}
use Rattle.gix_features_channel.specs.declared.ends.Hand.{Hand}
use Rattle.gix_features_channel.specs.declared.messages.Message.{Message}
use Rattle.gix_features_channel.specs.declared.messages.Message.TheVariants.{Begun}
use Rattle.gix_features_channel.specs.Ends.{hand}
use Rattle.gix_features_channel.specs.Messages.{IsSent, AreTaken}

-- The job's end of its channel has its pass, the iterator as it is was sent, and the iterator may be asked.
pub record CanBegin {I T : Type 0} (can : I → Type 0) (steps : I → Option T → I → Type 0) (job : Job I T) : Type 0 where
  pub seated : IsSeatAt (sends_on job.sender) job.pass
  pub sends : (view job.pass).sends ≡ true
  pub sent : IsSent steps (view job.pass).sent job.iter
  pub asked : can job.iter

-- The iterator as it is was sent, and nothing else; nothing was taken.
pub record IsBegun {I T : Type 0} (first : I) (v : Hand (Message I T)) : Type 0 where
  pub start : Snapshot I
  pub from_first : start.value ≡ first
  pub begun : v ≡ hand true true (Begun start ∷ []) []

-- The iterator as it is was sent and taken, by an end that may do both.
pub record IsKnown {I T : Type 0} (steps : I → Option T → I → Type 0) (first : I) (v : Hand (Message I T)) : Type 0 where
  pub sends : v.sends ≡ true
  pub takes : v.takes ≡ true
  pub sent : IsSent steps v.sent first
  pub taken : AreTaken first v.taken []

-- the next items of an iterator, up to a state, and whether there are no more
pub record AreDrawn {I T : Type 0} (can : I → Type 0) (steps : I → Option T → I → Type 0) (s : I) (items : List T) (has_ended : Bool) (t : I) : Type 0 where
  pub at : I
  pub yields : Yields steps s items at
  pub more : has_ended ≡ false → (at ≡ t) × can t
  pub ended : has_ended ≡ true → steps at None t
