-- What the code of a handle's work asks, and the work after an answer. No public clause cites this.
use Rattle.std.specs.Prelude.{Option, Some, None, Result, Ok, Err}
use Rattle.gix_odb_events.specs.declared.answer.Answer.{Answer}
use Rattle.gix_odb_events.specs.declared.answer.Ask.{Ask}
use Rattle.gix_odb.specs.CallOrder as calls
use Rattle.gix_odb.specs.OpenOrder as openings
use Rattle.gix_odb_calls.specs.declared.call.Reply.{Reply}
use Rattle.gix_odb.specs.declared.call_state.CallStage.{CallStage}
use Rattle.gix_odb_world.specs.Handle.{HandleParts, setting_at}
use Rattle.gix_odb.specs.declared.open_state.OpenStage.{OpenStage}
use Rattle.gix_odb_world.specs.Work.{Work}
use Rattle.gix_odb_world.specs.Work.{Opening, Calling}
use Rattle.gix_odb.specs.Store.{listed_for}

-- what the work of a handle asks for, if it asks for anything: a call of the disk, an event of the core of its store, or a core for its
-- store
abbrev pub ask_on : HandleParts → Work → Option Ask
ask_on handle (Opening state) = openings.ask_of handle.info.objects handle.info.folders state
ask_on handle (Calling state) = calls.ask_of state

-- the work of a handle after the answer to what it asked for
abbrev pub fed_on : HandleParts → Work → Answer → Work
fed_on handle (Opening state) answer =
    Opening (openings.fed handle.info.objects (listed_for handle.info) handle.info.slots state answer)
fed_on handle (Calling state) answer = Calling (calls.fed (setting_at handle) state answer)

-- the work of a handle after a turn, where it asked for nothing or had its answer
abbrev pub fed_after : HandleParts → Work → Option Answer → Work
fed_after handle work None = work
fed_after handle work (Some answer) = fed_on handle work answer

abbrev pub opening_result : Result Reply OpenStage → Result Reply Work
opening_result (Ok reply) = Ok reply
opening_result (Err state) = Err (Opening state)

abbrev pub calling_result : Result Reply CallStage → Result Reply Work
calling_result (Ok reply) = Ok reply
calling_result (Err state) = Err (Calling state)

-- the reply of work that is done, or the work that goes on
abbrev pub result_in : Work → Result Reply Work
result_in (Opening state) = opening_result (openings.result_of state)
result_in (Calling state) = calling_result (calls.result_of state)
