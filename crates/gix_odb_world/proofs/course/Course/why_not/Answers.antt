use Rattle.std.proofs.Common.{List, Option, Result, Ok, Err}
use Rattle.std.specs.Result.{IfOk}
use Rattle.odb_disk.specs.MemDisk.{Volume}
use Rattle.gix_odb_calls.specs.declared.step.Step.{Step}
use Rattle.gix_odb_calls.specs.declared.step.Why.{Why}
use Rattle.gix_odb_world.specs.declared.course.Course.{Course}
use Rattle.gix_odb_history.specs.Event.{Event}
use Rattle.gix_odb_world.specs.Table.{IsReasonNow}
use Rattle.gix_odb_world.specs.Valid.{IsReason}
use Rattle.gix_odb_world.specs.World.{Explains}
use Rattle.gix_odb_world.proofs.FitsLemmas.{fits_now}
use Rattle.gix_odb_world.proofs.StepLemmas.{reason_of_history}
use Rattle.gix_odb_world.proofs.course.Course.why_not.Goals as goal

-- the reason by the world is that of every history that leads to it
of_history : {E : Type 0} (world : Course) (step : Step) (why : Result (Option Why) E) → IfOk why (IsReasonNow world step)
    → IfOk why (λ w. (first : Volume) (events : List Event) → Explains first events world → IsReason first events step w)
of_history world step (Ok why) is = λ first events explains. reason_of_history first events world explains step why is
of_history world step (Err error) is = tt

pub first_reason-requires : goal.first_reason-requires
first_reason-requires c = record { fits = fits_now c.args.self.now c.requires.explained }

pub returns : goal.returns
returns c = record { reason = of_history c.args.self.now c.args.step.now c.first_reason.result c.first_reason.ensures.reason }
