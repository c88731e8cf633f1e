-- What was asked is what the words ask.
use Rattle.std.proofs.Common.{sym, ◌∙◌}
use Rattle.odb_program.proofs.AddsLaws.{adds_nothing}
use Rattle.list_walk.proofs.SessionLemmas.{ends_asked, ends_help, ends_not_understood, ends_version}
use Rattle.list_walk.proofs.run.run.Goals as goal

pub returns-in-Ok-Walk-clause-ends : goal.returns-in-Ok-Walk-clause-ends
returns-in-Ok-Walk-clause-ends g c =
    ends_asked _ c.in-Ok-Walk.asked c.listed.result _ _ (sym c.in-Ok-Walk.ensures.command
    ∙ c.in-Ok-Walk.field-0-is) c.status_by-status.ensures.status c.hinted.ensures.status c.listed.ensures.ends c.listed.ensures.cause c.listed.ensures.cause_errors

pub returns-in-Ok-Help-clause-ends : goal.returns-in-Ok-Help-clause-ends
returns-in-Ok-Help-clause-ends g c =
    ends_help _ _ (sym c.in-Ok-Help.ensures.command ∙ c.in-Ok-Help.field-0-is) (adds_nothing _) (rw c.as_bytes.ensures.value at c.answer.ensures.delivered)

pub returns-in-Ok-Version-clause-ends : goal.returns-in-Ok-Version-clause-ends
returns-in-Ok-Version-clause-ends g c =
    ends_version _ _ (sym c.in-Ok-Version.ensures.command ∙ c.in-Ok-Version.field-0-is) (adds_nothing _) (rw c.as_bytes-in-Ok-Version.ensures.value at c.answer-in-Ok-Version.ensures.delivered)

pub returns-in-Ok-NotUnderstood-clause-ends : goal.returns-in-Ok-NotUnderstood-clause-ends
returns-in-Ok-NotUnderstood-clause-ends g c =
    ends_not_understood _ _ _ (sym c.in-Ok-NotUnderstood.ensures.command ∙ c.in-Ok-NotUnderstood.field-0-is) (adds_nothing _)
    (rw c.as_bytes-in-Ok-NotUnderstood.ensures.value at c.answer-in-Ok-NotUnderstood.ensures.delivered)
