-- An opening as a machine.
use Rattle.std.specs.Prelude.{◌≡◌, length, Option, Some, None}
use Rattle.gix_odb.specs.Contents.{folder_list}
use Rattle.gix_odb.specs.OpenOrder as openings
use Rattle.gix_odb.specs.declared.open_state.OpenStage.{OpenStage}
use Rattle.gix_odb_events.specs.declared.answer.Answer.{Answer}
use Rattle.gix_odb_world.specs.Work.{Opening}
use Rattle.gix_odb_world.specs.AtWork.{OpenStore, Store}
use Rattle.gix_odb_world.specs.Bound.{turn_bound}
use Rattle.gix_odb_world.specs.Machine.{Machine}
use Rattle.gix_odb.specs.Store.{listed_for}

abbrev pub opening_fed : Store → OpenStage → Option Answer → OpenStage
opening_fed store state None = state
opening_fed store state (Some answer) = openings.fed store.parts.objects (listed_for store.parts) store.parts.slots state answer

-- an opening as a machine: one stat, a listing where its indices are to be counted, the registration, and then its reply
abbrev pub opening : Machine
opening = record {
  State = OpenStage;
  work = λ state. Opening state;
  ask = λ store state. openings.ask_of store.parts.objects store.parts.folders state;
  feed = λ store state answer. openings.result_of (opening_fed store state answer);
  writes = λ state. None;
  IsFor = λ task state. task ≡ OpenStore;
  bound = λ store modes task entries. turn_bound 0 (length (folder_list store.parts)) 0 entries None;
}
