use Rattle.gix_odb_history.proofs.kept_core.journal_of_remains.Goals as goal

pub returns-clause-journal : goal.returns-clause-journal
returns-clause-journal c =
    record { opened = c.into_journal.ensures.opened; legal = c.into_journal.ensures.legal; possible = c.into_journal.ensures.possible; complete = c.requires.complete }
