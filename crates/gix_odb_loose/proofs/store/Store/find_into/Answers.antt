use Rattle.std.proofs.Common.{Some, None, Ok, Err, inr, refl}
use Rattle.odb_disk.specs.declared.ask.DiskAsk.TheVariants as asks
use Rattle.gix_odb_loose.specs.Answers.{put_in}
use Rattle.gix_odb_loose.proofs.AskedLemmas.{asked_at, find_asked, found_at, put_none, unasked, want_of_memory}
use Rattle.gix_odb_loose.proofs.RunLemmas.{find_answers, find_cause}
use Rattle.gix_odb_loose.proofs.store.Store.find_into.Goals as goal

-- the bytes put there are those of the file
pub returns-in-Ok-Some-clause-answer : goal.returns-in-Ok-Some-clause-answer
returns-in-Ok-Some-clause-answer g c =
    rw (c.into_vec.ensures.items)
    (find_answers _ c.args.self.now c.args.id.now _ _ _ c.in_ok-path.ensures.path c.in_ok-answer.ensures.cause c.in_ok-answer.ensures.told
    (Ok (Some (c.in-Ok-Some.kind, c.in-Ok-Some.bytes))) (cc (c.in-Ok-Some.is, c.in-Ok-Some.field-0-is, c.in_ok-found.ensures.answer)))

pub returns-in-Ok-None-clause-answer : goal.returns-in-Ok-None-clause-answer
returns-in-Ok-None-clause-answer g c =
    find_answers _ c.args.self.now c.args.id.now _ _ _ c.in_ok-path.ensures.path c.in_ok-answer.ensures.cause c.in_ok-answer.ensures.told (Ok None)
    (cc (c.in-Ok-None.is, c.in-Ok-None.field-0-is, c.in_ok-found.ensures.answer))

pub returns-clause-answer : goal.returns-clause-answer
returns-clause-answer g c =
    find_answers _ c.args.self.now c.args.id.now _ _ _ c.in_ok-path.ensures.path c.in_ok-answer.ensures.cause c.in_ok-answer.ensures.told (Err c.in-Err.error)
    (cc (c.in-Err.is, c.in_ok-found.ensures.answer))

pub returns-clause-cause : goal.returns-clause-cause
returns-clause-cause g c =
    find_cause _ c.args.self.now c.args.id.now _ _ _ c.in_ok-path.ensures.path c.in_ok-answer.ensures.cause c.in_ok-answer.ensures.told c.in-Err.error
    (cc (c.in-Err.is, c.in_ok-found.ensures.answer))

-- memory ran out for the path, for the ask, or for an error with the path
pub returns-in_err-path-clause-asked : goal.returns-in_err-path-clause-asked
returns-in_err-path-clause-asked g c =
    unasked g.D.Disk.answered _ _ (put_in c.from_residual.result _) _ _ refl
    (put_none c.from_residual.result _ (want_of_memory c.from_residual.result c.from_residual.ensures.1))

pub returns-in_err-answer-clause-asked : goal.returns-in_err-answer-clause-asked
returns-in_err-answer-clause-asked g c =
    unasked g.D.Disk.answered _ _ (put_in c.from_residual-in_err-answer.result _) _ _ c.in_err-answer.ensures.unasked
    (put_none c.from_residual-in_err-answer.result _ (want_of_memory c.from_residual-in_err-answer.result c.from_residual-in_err-answer.ensures.1))

pub returns-in_err-found-clause-asked : goal.returns-in_err-found-clause-asked
returns-in_err-found-clause-asked g c =
    asked_at g.D.Disk.answered _ _ (put_in c.from_residual-in_err-found.result _) asks.Read (found_at c.args.self.now) _ _ c.in_ok-path.ensures.path _ c.in_ok-answer.ensures.asked
    (inr (put_none c.from_residual-in_err-found.result _ (want_of_memory c.from_residual-in_err-found.result c.from_residual-in_err-found.ensures.1)))

pub returns-in-Ok-Some-clause-asked : goal.returns-in-Ok-Some-clause-asked
returns-in-Ok-Some-clause-asked g c =
    rw (c.into_vec.ensures.items)
    (find_asked g.D.Disk.answered c.args.self.now _ _ _ _ c.in_ok-path.ensures.path _ c.in_ok-answer.ensures.asked
    (Ok (Some (c.in-Ok-Some.kind, c.in-Ok-Some.bytes))) (cc (c.in-Ok-Some.is, c.in-Ok-Some.field-0-is, c.in_ok-found.ensures.answer)))

pub returns-in-Ok-None-clause-asked : goal.returns-in-Ok-None-clause-asked
returns-in-Ok-None-clause-asked g c =
    find_asked g.D.Disk.answered c.args.self.now _ _ _ _ c.in_ok-path.ensures.path _ c.in_ok-answer.ensures.asked (Ok None)
    (cc (c.in-Ok-None.is, c.in-Ok-None.field-0-is, c.in_ok-found.ensures.answer))

pub returns-clause-asked : goal.returns-clause-asked
returns-clause-asked g c =
    find_asked g.D.Disk.answered c.args.self.now _ _ _ _ c.in_ok-path.ensures.path _ c.in_ok-answer.ensures.asked (Err c.in-Err.error)
    (cc (c.in-Err.is, c.in_ok-found.ensures.answer))
