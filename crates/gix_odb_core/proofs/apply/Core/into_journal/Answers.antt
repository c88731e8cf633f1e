use Rattle.std.proofs.Common.{subst}
use Rattle.gix_odb_core.specs.History.{History}
use Rattle.gix_odb_core.specs.Possible.{IsOpened, IsPossible}
use Rattle.gix_odb_core.specs.Replay.{IsLegal}
use Rattle.gix_odb_core.proofs.OpenedLemmas.{opened-core}
use Rattle.gix_odb_core.proofs.apply.Core.into_journal.Goals as goal

pub returns-clause-legal : goal.returns-clause-legal
returns-clause-legal c = subst (λ (h : History). IsLegal h.opening h.entries) c.self.view_is c.self.invariant.legal

pub returns-clause-opened : goal.returns-clause-opened
returns-clause-opened c = subst (λ (h : History). IsOpened h.opening) c.self.view_is (opened-core c.self.inside.opening)

pub returns-clause-possible : goal.returns-clause-possible
returns-clause-possible c = subst (λ (h : History). IsPossible h.opening h.entries) c.self.view_is c.self.invariant.possible
