-- What a handle is at work on: the opening of its store, or a call, at one of their stages.
use Rattle.gix_odb.specs.declared.call_state.CallStage.{CallStage}
use Rattle.gix_odb.specs.declared.open_state.OpenStage.{OpenStage}

pub data Work : Type 0 where
  Opening : (stage : OpenStage) → Work
  Calling : (stage : CallStage) → Work
