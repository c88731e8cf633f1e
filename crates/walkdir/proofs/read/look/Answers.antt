-- A stat returns what the disk answered, or the refusal as an error.
use Rattle.walkdir.proofs.FailuresLaws.{costs_none}
use Rattle.walkdir.proofs.ReadLemmas.{costs_refused, refused_on, told_found, told_refused}
use Rattle.walkdir.proofs.read.look.Goals as goal

pub returns-in-Ok-clause-told : goal.returns-in-Ok-clause-told
returns-in-Ok-clause-told g c =
    told_found (g.D.Disk.state c.args.disk.now) c.args.depth c.args.path.now c.args.follow c.in-Ok.meta c.in-Ok.ensures.answer

pub returns-in-Ok-clause-cause : goal.returns-in-Ok-clause-cause
returns-in-Ok-clause-cause g c = costs_none _ _ c.in-Ok.ensures.cause.later

pub returns-in-Err-clause-told : goal.returns-in-Err-clause-told
returns-in-Err-clause-told g c =
    told_refused (g.D.Disk.state c.args.disk.now) c.args.depth c.args.path.now c.args.follow c.in-Err.error c.from_path.result c.in-Err.ensures.answer
    c.from_path.ensures.made

pub returns-in-Err-clause-cause : goal.returns-in-Err-clause-cause
returns-in-Err-clause-cause g c =
    costs_refused c.args.depth c.args.path.now c.in-Err.error c.from_path.result _ _ c.in-Err.ensures.cause c.from_path.ensures.made

pub returns-in-Err-clause-call : goal.returns-in-Err-clause-call
returns-in-Err-clause-call g c = refused_on c.args.depth c.args.path.now c.in-Err.error c.from_path.result c.from_path.ensures.made

pub returns-in-Ok-clause-answered : goal.returns-in-Ok-clause-answered
returns-in-Ok-clause-answered g c = c.in-Ok.ensures.answered

pub returns-in-Err-clause-answered : goal.returns-in-Err-clause-answered
returns-in-Err-clause-answered g c = (c.in-Err.error, c.in-Err.ensures.answered, c.from_path.ensures.made)
