-- Which machine each kind of work is of, and what it asks and becomes. Another machine has one line here. A status keeps the code's
-- `Work`, and a function by its cases computes to a machine and its state; a sum of machines would need that function too.
pub mod Openings
pub mod Queries
pub mod Writes
use Rattle.std.specs.Prelude.{Option, Result, refl}
use Rattle.gix_odb_calls.specs.declared.call.Reply.{Reply}
use Rattle.gix_odb.specs.declared.call_state.CallStage.TheVariants.{Looking, Refreshing, Refused, Writing}
use Rattle.gix_odb_loose.specs.declared.call.LooseCall.{LooseCall}
use Rattle.gix_odb_world.specs.Work.{Work}
use Rattle.gix_odb_world.specs.Work.{Opening, Calling}
use Rattle.gix_odb_world.specs.AtWork.{Store}
use Rattle.gix_odb_events.specs.declared.answer.Answer.{Answer}
use Rattle.gix_odb_events.specs.declared.answer.Ask.{Ask}
use Rattle.gix_odb_world.specs.Machine.{At, placed}
use Rattle.gix_odb_world.specs.Machines.Openings.{opening}
use Rattle.gix_odb_world.specs.Machines.Queries.{looking}
use Rattle.gix_odb_world.specs.Machines.Writes.{InFront, Own, Unlisted, writing}

-- the machine that each work is of, and at which state
abbrev pub at : (work : Work) → At work
at (Opening state) = record { machine = opening; state = state; is = refl }
at (Calling (Looking state)) = record { machine = looking; state = state; is = refl }
at (Calling (Refreshing refresh call)) = record { machine = writing; state = InFront refresh call; is = refl }
at (Calling (Writing call)) = record { machine = writing; state = Own call; is = refl }
at (Calling (Refused error)) = record { machine = writing; state = Unlisted error; is = refl }

-- what work asks for in a store, unless it is done
abbrev pub ask_in : Store → Work → Option Ask
ask_in store work = (at work).machine.ask store (at work).state

-- the reply to which the answer takes work, or the work that is left
abbrev pub fed_in : Store → Work → Option Answer → Result Reply Work
fed_in store work answer = placed (at work).machine ((at work).machine.feed store (at work).state answer)

-- the call of the objects directory by which work writes an object, if it writes one
abbrev pub write_in : Work → Option LooseCall
write_in work = (at work).machine.writes (at work).state
