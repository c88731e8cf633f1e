-- A line that is outside the language has a reason of its own.
use Rattle.std.proofs.Common.{sym, ◌∙◌}
use Rattle.std.proofs.lemmas.Result.{IfOk-weaker}
use Rattle.odb_script.proofs.RefusedLaws.{refused_has_reason}
use Rattle.odb_script.proofs.reason.reason_of.Goals as goal

pub returns-then-outside-clause-outside : goal.returns-then-outside-clause-outside
returns-then-outside-clause-outside c = λ refused.
    IfOk-weaker c.line_reason.result _ _ (λ reason is e. refused_has_reason c.args.line.now refused (sym is ∙ e)) c.line_reason.ensures.reason
