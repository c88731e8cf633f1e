use Rattle.std.proofs.Common.{subst, sym}
use Rattle.gix_odb_core.specs.History.{History}
use Rattle.gix_odb_core.specs.Possible.{IsComplete}
use Rattle.gix_odb_history.specs.JournalKept.{IsJournal}
use Rattle.gix_odb_history.proofs.kept_core.journal_of_whole.Goals as goal

pub returns-clause-journal : goal.returns-clause-journal
returns-clause-journal c =
    subst IsJournal c.into_inner.ensures
    (record { opened = c.into_journal.ensures.opened; legal = c.into_journal.ensures.legal; possible = c.into_journal.ensures.possible; complete = subst (λ (h : History). IsComplete h.entries) (sym c.into_inner.ensures) c.requires.complete })
