-- What the code of a turn does with a handle that is fed an answer.
use Rattle.std.proofs.Common.{◌≡◌, true, Some, Result, Ok, Err, sym, ap, ◌∙◌, subst}
use Rattle.std.specs.Prelude.{IfOk}
use Rattle.odb_disk.specs.declared.ask.DiskAnswer.{DiskAnswer}
use Rattle.odb_base.specs.declared.no_memory.NoMemory.{NoMemory}
use Rattle.gix_odb.specs.OpenOrder as openings
use Rattle.gix_odb.specs.OpenState.{at_stage}
use Rattle.gix_odb.specs.declared.open_state.OpenStage.{OpenStage}
use Rattle.gix_odb.specs.declared.open_state.OpenStage.TheVariants as opens
use Rattle.gix_odb.specs.declared.open_state.OpenState.{OpenState}
use Rattle.gix_odb_calls.specs.declared.call.Reply.{Reply}
use Rattle.gix_odb_events.specs.declared.answer.Answer.TheVariants as told
use Rattle.gix_odb_world.specs.Handle.{HandleParts, Seen}
use Rattle.gix_odb_world.specs.Status.{refuses_opening}
use Rattle.gix_odb_world.specs.Table.{IsTurned, IsUnderWay, TurnsHandle}
use Rattle.gix_odb_world.specs.Work.{Work, Opening}
use Rattle.gix_odb_world.specs.declared.turn.Told.{Told}
use Rattle.gix_odb_world.specs.declared.turn.Turned.{Turned}
use Rattle.gix_odb_world.proofs.SeatLemmas.Opened.{IsOn, answered_refuses}
use Rattle.gix_odb.specs.Store.{listed_for}

-- a handle turns as its work does
pub turns_by : (handle : Seen) (state : HandleParts) (work : Work) (own : Told) (result : Result Turned NoMemory) → handle ≡ record { state = state; work = Some work }
    → IfOk result (IsTurned state work own) → IfOk result (TurnsHandle handle own)
turns_by handle state work own (Ok turned) is turns =
    subst (λ (h : Seen). TurnsHandle h own turned) (sym is)
    (λ other both. let same : work ≡ other = cc both in subst (λ w. IsTurned state w own turned) same turns)
turns_by handle state work own (Err error) is turns = tt

-- an opening that isn't done continues, or is refused
on_under_way : (stage : OpenStage) → IsUnderWay (Some (Opening stage)) → IsOn stage
on_under_way opens.Looking under = tt
on_under_way (opens.Listing lister percent minimum) under = tt
on_under_way (opens.Registering slots) under = tt
on_under_way (opens.Done reply) under = absurd under

-- so an opening that a call of the disk ends is refused
pub refused_if_done : (opening : OpenState) (answer : DiskAnswer) (next : OpenState) → IsUnderWay (Some (Opening opening.stage))
    → next ≡ at_stage opening (openings.fed opening.info.value.objects (listed_for opening.info.value) opening.info.value.slots opening.stage (told.Disk answer))
    → (reply : Reply) → next.stage ≡ opens.Done reply → refuses_opening reply ≡ true
refused_if_done opening answer next under is reply done =
    answered_refuses opening.info.value.objects (listed_for opening.info.value) opening.info.value.slots opening.stage answer reply (on_under_way opening.stage under)
    (sym (ap (λ (o : OpenState). o.stage) is) ∙ done)
