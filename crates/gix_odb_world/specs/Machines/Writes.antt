-- A write as a machine.
use Rattle.std.specs.Prelude.{◌≡◌, Option, Some, None, Result, Ok, Err}
use Rattle.gix_odb_loose.specs.LooseOrder.{disk_ask_of}
use Rattle.gix_odb_loose.specs.declared.call.LooseCall.{LooseCall}
use Rattle.gix_odb_calls.specs.declared.call.Reply.{Reply}
use Rattle.gix_odb_calls.specs.declared.load_index.Error as load
use Rattle.gix_odb_events.specs.declared.answer.Answer.{Answer}
use Rattle.gix_odb_events.specs.declared.answer.Ask.{Ask}
use Rattle.gix_odb.specs.CallOrder.{loose_ask}
use Rattle.gix_odb.specs.RefreshOrder as refreshes
use Rattle.gix_odb.specs.declared.refresh.Refresh.{Refresh}
use Rattle.gix_odb.specs.declared.refresh.RefreshStep.{RefreshStep}
use Rattle.gix_odb.specs.declared.refresh.RefreshStep.TheVariants as fronts
use Rattle.gix_odb.specs.CallOrder.{result_of_write, unlisted, written_on}
use Rattle.gix_odb.specs.declared.call_state.CallStage.TheVariants.{Refreshing, Refused, Writing}
use Rattle.gix_odb_world.specs.Work.{Work}
use Rattle.gix_odb_world.specs.Work.{Calling}
use Rattle.gix_odb_world.specs.AtWork.{MakeCall, Store}
use Rattle.gix_odb_world.specs.Bound.{bound_of_task}
use Rattle.gix_odb_history.specs.Writing.{ToWrite, call_to_write}
use Rattle.gix_odb_world.specs.Machine.{Machine}
use Rattle.gix_odb.specs.Store.{listed_for}

-- a write under way: in the refresh before it, at its own turns, or not to be made, since its store could not be listed
pub data WriteState : Type 0 where
  InFront : (refresh : Refresh) (call : LooseCall) → WriteState
  Own : (call : LooseCall) → WriteState
  Unlisted : (error : load.Error) → WriteState

abbrev pub work_of : WriteState → Work
work_of (InFront refresh call) = Calling (Refreshing refresh call)
work_of (Own call) = Calling (Writing call)
work_of (Unlisted error) = Calling (Refused error)

abbrev pub write_asks : WriteState → Option Ask
write_asks (InFront refresh call) = Some (refreshes.ask_of refresh)
write_asks (Own call) = loose_ask (disk_ask_of call)
write_asks (Unlisted error) = None

abbrev pub own_result : Result Reply LooseCall → Result Reply WriteState
own_result (Ok reply) = Ok reply
own_result (Err call) = Err (Own call)

-- the result of a write by a step of the refresh before it
abbrev pub front_result : LooseCall → RefreshStep → Result Reply WriteState
front_result call (fronts.More refresh) = Err (InFront refresh call)
front_result call (fronts.Refused error) = Ok (unlisted error)
front_result call step = own_result (result_of_write call)

abbrev pub write_fed : Store → WriteState → Option Answer → Result Reply WriteState
write_fed store (InFront refresh call) None = Err (InFront refresh call)
write_fed store (InFront refresh call) (Some answer) = front_result call (refreshes.fed store.parts.objects (listed_for store.parts) refresh answer)
write_fed store (Own call) None = own_result (result_of_write call)
write_fed store (Own call) (Some answer) = own_result (result_of_write (written_on call answer))
write_fed store (Unlisted error) answer = Ok (unlisted error)

abbrev pub writes_by : WriteState → Option LooseCall
writes_by (InFront refresh call) = None
writes_by (Own call) = Some call
writes_by (Unlisted error) = None

-- a write as a machine: the list of its store is read first, where it was not read before
abbrev pub writing : Machine
writing = record {
  State = WriteState;
  work = work_of;
  ask = λ store state. write_asks state;
  feed = write_fed;
  writes = writes_by;
  IsFor = λ task state. (w : ToWrite) × (task ≡ MakeCall (call_to_write w));
  bound = λ store modes task entries. bound_of_task store modes task entries;
}
