-- A machine: work of one kind that a handle may be at. A public clause needs from it what it asks and where an answer leads it.
use Rattle.std.specs.Prelude.{◌≡◌, ℕ, Option, Result, Ok, Err}
use Rattle.gix_odb_calls.specs.declared.call.Reply.{Reply}
use Rattle.gix_odb_loose.specs.declared.call.LooseCall.{LooseCall}
use Rattle.gix_odb_world.specs.Work.{Work}
use Rattle.gix_odb_world.specs.AtWork.{Modes, Store, Task}
use Rattle.gix_odb_events.specs.declared.answer.Answer.{Answer}
use Rattle.gix_odb_events.specs.declared.answer.Ask.{Ask}

-- A machine has states of its own, each with a place among all work.
pub record Machine : Type 1 where
  pub State : Type 0
  pub work : State → Work
  -- in a store it asks for something at a state, unless it is done
  pub ask : Store → State → Option Ask
  -- the answer takes it to its reply or to another state; where it asked for nothing, it has its reply without one
  pub feed : Store → State → Option Answer → Result Reply State
  -- the call of the objects directory by which it writes an object, if it writes one
  pub writes : State → Option LooseCall
  -- the tasks at which it may be in a state
  pub IsFor : Task → State → Type 0
  -- the most turns of a task of a handle in a store, where no folder that a call may list has more than `entries` entries
  pub bound : Store → Modes → Task → (entries : ℕ) → ℕ

-- work as a machine and its state
pub record At (work : Work) : Type 1 where
  pub machine : Machine
  pub state : machine.State
  pub is : machine.work state ≡ work

-- the reply of a machine, or its state among all work
abbrev pub placed : (m : Machine) → Result Reply m.State → Result Reply Work
placed m (Ok reply) = Ok reply
placed m (Err state) = Err (m.work state)
