-- A query as a machine.
use Rattle.std.specs.Prelude.{◌≡◌, Option, Some, None, Result}
use Rattle.gix_odb_calls.specs.declared.call.Reply.{Reply}
use Rattle.gix_odb_calls.specs.declared.query.Query.{Query}
use Rattle.gix_odb_events.specs.declared.answer.Answer.{Answer}
use Rattle.gix_odb.specs.LookUpOrder as looks
use Rattle.gix_odb.specs.declared.look_up.LookUp.{LookUp}
use Rattle.gix_odb.specs.declared.call_state.CallStage.TheVariants.{Looking}
use Rattle.gix_odb_world.specs.Work.{Calling}
use Rattle.gix_odb_world.specs.AtWork.{MakeCall, Store, setting_in}
use Rattle.gix_odb_world.specs.Bound.{bound_of_call}
use Rattle.gix_odb_world.specs.Machine.{Machine}
use Rattle.gix_odb_world.specs.Told.{call_of}

abbrev pub look_fed : Store → LookUp → Option Answer → Result Reply LookUp
look_fed store look None = looks.result_of look
look_fed store look (Some answer) = looks.result_of (looks.fed (setting_in store) look answer)

-- a query as a machine
abbrev pub looking : Machine
looking = record {
  State = LookUp;
  work = λ look. Calling (Looking look);
  ask = λ store look. looks.ask_of look;
  feed = look_fed;
  writes = λ look. None;
  IsFor = λ task look. (query : Query) × (task ≡ MakeCall (call_of query));
  bound = λ store modes task entries. bound_of_call store modes entries None;
}
