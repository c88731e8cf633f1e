use Rattle.std.proofs.Common.{true, inl, inr, refl}
use Rattle.odb_disk.specs.declared.ask.DiskAsk.TheVariants as asks
use Rattle.gix_odb_loose.specs.LooseOrder.Answered.{tested_by}
use Rattle.gix_odb_loose.proofs.AskedLemmas.{asked_at, unasked, want_of_memory}
use Rattle.gix_odb_loose.proofs.RunLemmas.{test_answers, test_cause}
use Rattle.gix_odb_loose.proofs.store.Store.contains.Goals as goal

pub returns-clause-answer : goal.returns-clause-answer
returns-clause-answer g c =
    test_answers _ c.args.self.now c.args.id.now _ _ _ c.in_ok-path.ensures.path c.in_ok-answer.ensures.cause c.in_ok-answer.ensures.told c.in_ok-there.there c.in_ok-there.ensures.answer

pub returns-clause-cause : goal.returns-clause-cause
returns-clause-cause g c =
    test_cause (g.D.Disk.state c.args.disk.now) c.args.self.now c.args.id.now _ _ _ c.in_ok-path.ensures.path c.in_ok-answer.ensures.cause c.in_ok-there.there c.in_ok-there.ensures.answer

-- memory ran out for the path, for the ask, or for an error with the path
pub returns-in_err-path-clause-asked : goal.returns-in_err-path-clause-asked
returns-in_err-path-clause-asked g c = unasked g.D.Disk.answered _ _ c.from_residual.result _ _ refl (want_of_memory c.from_residual.result c.from_residual.ensures.1)

pub returns-in_err-answer-clause-asked : goal.returns-in_err-answer-clause-asked
returns-in_err-answer-clause-asked g c =
    unasked g.D.Disk.answered _ _ c.from_residual-in_err-answer.result _ _ c.in_err-answer.ensures.unasked
    (want_of_memory c.from_residual-in_err-answer.result c.from_residual-in_err-answer.ensures.1)

pub returns-in_err-there-clause-asked : goal.returns-in_err-there-clause-asked
returns-in_err-there-clause-asked g c =
    asked_at g.D.Disk.answered _ _ c.from_residual-in_err-there.result (λ path. asks.Look path true) tested_by _ _ c.in_ok-path.ensures.path _ c.in_ok-answer.ensures.asked
    (inr (want_of_memory c.from_residual-in_err-there.result c.from_residual-in_err-there.ensures.1))

pub returns-clause-asked : goal.returns-clause-asked
returns-clause-asked g c =
    asked_at g.D.Disk.answered _ _ c.in_ok-there.there (λ path. asks.Look path true) tested_by _ _ c.in_ok-path.ensures.path _ c.in_ok-answer.ensures.asked
    (inl c.in_ok-there.ensures.answer)
