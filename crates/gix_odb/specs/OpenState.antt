-- An opening of the code, and the handle that it opens.
use Rattle.std.specs.Prelude.{false, Result, Ok, Err}
use Rattle.gix_odb_calls.specs.declared.call.Reply.{Reply}
use Rattle.gix_odb_events.specs.declared.view.View.{View}
use Rattle.gix_odb.specs.declared.handle_state.HandleState.{HandleState}
use Rattle.gix_odb.specs.declared.open_state.OpenState.{OpenState}
use Rattle.gix_odb.specs.declared.refresh_mode.RefreshMode.TheVariants.{AfterAllIndicesLoaded}
use Rattle.gix_odb.specs.declared.open_state.OpenStage.{OpenStage}

-- an opening at another stage
abbrev pub at_stage : OpenState → OpenStage → OpenState
at_stage opening stage = record opening { stage = stage }

-- the handle that an opening opens, which refreshes the list of its store, and seeks what replaces an id
abbrev pub opened_handle : OpenState → View → HandleState
opened_handle opening view =
    record { info = opening.info; refresh = AfterAllIndicesLoaded; ignore_replacements = false; max_changes = opening.max_changes; view = view }

-- the reply of an opening that is done, or the opening
abbrev pub ends_with : OpenState → Result Reply OpenStage → Result Reply OpenState
ends_with opening (Ok reply) = Ok reply
ends_with opening (Err stage) = Err (at_stage opening stage)
