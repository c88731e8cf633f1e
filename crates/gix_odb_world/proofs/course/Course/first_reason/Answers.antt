use Rattle.std.proofs.Common.{sym, subst}
use Rattle.std.specs.Result.{IfOk}
use Rattle.gix_odb_calls.specs.declared.step.Step.{Step}
use Rattle.gix_odb_world.specs.Table.{IsReasonNow}
use Rattle.gix_odb_world.proofs.ValidLaws.{if_reason_is, reason_is}
use Rattle.gix_odb_world.proofs.course.Course.first_reason.Goals as goal

pub returns-in-Open : goal.returns-in-Open
returns-in-Open c = record {
  reason = subst (λ (step : Step). IfOk c.why_not_open.result (IsReasonNow c.args.self.now step)) (sym c.in-Open.is)
      (if_reason_is c.why_not_open.result _ c.why_not_open.ensures.why);
}

pub returns-in-Clone : goal.returns-in-Clone
returns-in-Clone c = record {
  reason = subst (λ (step : Step). IsReasonNow c.args.self.now step c.why_not_clone.result) (sym c.in-Clone.is) (reason_is _ _ c.why_not_clone.ensures.why);
}

pub returns-in-Close : goal.returns-in-Close
returns-in-Close c = record {
  reason = subst (λ (step : Step). IsReasonNow c.args.self.now step c.why_not_idle.result) (sym c.in-Close.is) (reason_is _ _ c.why_not_idle.ensures.why);
}

pub returns-in-Never : goal.returns-in-Never
returns-in-Never c = record {
  reason = subst (λ (step : Step). IsReasonNow c.args.self.now step c.why_not_idle-in-Never.result) (sym c.in-Never.is)
      (reason_is _ _ c.why_not_idle-in-Never.ensures.why);
}

pub returns-in-Ignore : goal.returns-in-Ignore
returns-in-Ignore c = record {
  reason = subst (λ (step : Step). IsReasonNow c.args.self.now step c.why_not_idle-in-Ignore.result) (sym c.in-Ignore.is)
      (reason_is _ _ c.why_not_idle-in-Ignore.ensures.why);
}

pub returns-in-Start : goal.returns-in-Start
returns-in-Start c = record {
  reason = subst (λ (step : Step). IsReasonNow c.args.self.now step c.why_not_start.result) (sym c.in-Start.is) (reason_is _ _ c.why_not_start.ensures.why);
}

pub returns-in-Turn : goal.returns-in-Turn
returns-in-Turn c = record {
  reason = subst (λ (step : Step). IfOk c.why_not_turn.result (IsReasonNow c.args.self.now step)) (sym c.in-Turn.is) c.why_not_turn.ensures.why;
}

pub returns-in-Disk : goal.returns-in-Disk
returns-in-Disk c = record {
  reason = subst (λ (step : Step). IfOk c.why_not_change.result (IsReasonNow c.args.self.now step)) (sym c.in-Disk.is) c.why_not_change.ensures.why;
}
