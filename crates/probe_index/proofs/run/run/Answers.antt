-- Each command ends as its output is delivered, and only one that asks for ids reads the source.
use Rattle.std.proofs.Common.{◌++◌, sym, ◌∙◌}
use Rattle.odb_program.specs.Session.{input_of}
use Rattle.probe_index.specs.declared.run.TheConstants.{ABOUT, USAGE, VERSION}
use Rattle.probe_index.proofs.SessionLemmas.{ends_as, ends_no_words, ends_not_understood, ends_version, leaves_as, leaves_same}
use Rattle.probe_index.proofs.run.run.Goals as goal

pub returns-in-Ok-Probe-clause-ends : goal.returns-in-Ok-Probe-clause-ends
returns-in-Ok-Probe-clause-ends g c =
    ends_as _ _ c.probe.result (sym c.in-Ok-Probe.ensures.command ∙ c.in-Ok-Probe.field-0-is)
    (c.probe.ensures.ends (record { usage = USAGE.now; help = USAGE.now ++ ABOUT.now; version = VERSION.now }))

pub returns-in-Ok-Probe-clause-unread : goal.returns-in-Ok-Probe-clause-unread
returns-in-Ok-Probe-clause-unread g c = leaves_as _ _ _ _ (sym c.in-Ok-Probe.ensures.command ∙ c.in-Ok-Probe.field-0-is)

pub returns-in-Ok-Help-clause-ends : goal.returns-in-Ok-Help-clause-ends
returns-in-Ok-Help-clause-ends g c =
    ends_as _ _ c.help.result (sym c.in-Ok-Help.ensures.command ∙ c.in-Ok-Help.field-0-is) (c.help.ensures.ends (input_of g.S.Source.left g.S.Source.faults c.args.source.now c.args.source.now))

pub returns-in-Ok-Help-clause-unread : goal.returns-in-Ok-Help-clause-unread
returns-in-Ok-Help-clause-unread g c = leaves_same _ _

pub returns-in-Ok-Version-clause-ends : goal.returns-in-Ok-Version-clause-ends
returns-in-Ok-Version-clause-ends g c = ends_version _ _ (sym c.in-Ok-Version.ensures.command ∙ c.in-Ok-Version.field-0-is) (rw c.as_bytes.ensures.value at c.answer.ensures.delivered)

pub returns-in-Ok-Version-clause-unread : goal.returns-in-Ok-Version-clause-unread
returns-in-Ok-Version-clause-unread g c = leaves_same _ _

pub returns-in-Ok-NoWords-clause-ends : goal.returns-in-Ok-NoWords-clause-ends
returns-in-Ok-NoWords-clause-ends g c =
    ends_no_words _ _ (sym c.in-Ok-NoWords.ensures.command ∙ c.in-Ok-NoWords.field-0-is) (rw c.as_bytes-in-Ok-NoWords.ensures.value at c.answer-in-Ok-NoWords.ensures.delivered)

pub returns-in-Ok-NoWords-clause-unread : goal.returns-in-Ok-NoWords-clause-unread
returns-in-Ok-NoWords-clause-unread g c = leaves_same _ _

pub returns-in-Ok-NotUnderstood-clause-ends : goal.returns-in-Ok-NotUnderstood-clause-ends
returns-in-Ok-NotUnderstood-clause-ends g c =
    ends_not_understood _ _ (sym c.in-Ok-NotUnderstood.ensures.command ∙ c.in-Ok-NotUnderstood.field-0-is)
    (rw c.as_bytes-in-Ok-NotUnderstood.ensures.value at c.answer-in-Ok-NotUnderstood.ensures.delivered)

pub returns-in-Ok-NotUnderstood-clause-unread : goal.returns-in-Ok-NotUnderstood-clause-unread
returns-in-Ok-NotUnderstood-clause-unread g c = leaves_same _ _

pub returns-in-Err-clause-unread : goal.returns-in-Err-clause-unread
returns-in-Err-clause-unread g c = leaves_same _ _
