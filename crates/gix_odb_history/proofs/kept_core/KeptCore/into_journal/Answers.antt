use Rattle.std.proofs.Common.{ap, subst, sym, ◌∙◌}
use Rattle.gix_odb_core.specs.Possible.{IsComplete}
use Rattle.gix_odb_history.specs.JournalKept.{IsJournal}
use Rattle.gix_odb_history.specs.KeptCore.{history_in}
use Rattle.gix_odb_history.specs.declared.kept_core.CoreState.{CoreState}
use Rattle.gix_odb_history.proofs.kept_core.KeptCore.into_journal.Goals as goal

-- no entry of a kept core lacks memory
pub journal_of_whole-requires : goal.journal_of_whole-requires
journal_of_whole-requires c =
    record { complete = rw c.in-Held.core-is (subst (λ (s : CoreState). IsComplete (history_in s).entries) c.in-Held.is c.self.invariant.complete) }

pub journal_of_remains-requires : goal.journal_of_remains-requires
journal_of_remains-requires c =
    record { complete = rw c.in-Left.remains-is (subst (λ (s : CoreState). IsComplete (history_in s).entries) c.in-Left.is c.self.invariant.complete) }

pub returns-in-Held-clause-journal : goal.returns-in-Held-clause-journal
returns-in-Held-clause-journal c = subst IsJournal (ap history_in (sym c.in-Held.is) ∙ c.self.view_is) (rw c.in-Held.is at c.journal_of_whole.ensures.journal)

pub returns-in-Left-clause-journal : goal.returns-in-Left-clause-journal
returns-in-Left-clause-journal c = subst IsJournal (ap history_in (sym c.in-Left.is) ∙ c.self.view_is) (rw c.in-Left.is at c.journal_of_remains.ensures.journal)
