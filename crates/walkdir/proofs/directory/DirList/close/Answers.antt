-- Closing a stream is a call of the disk; a directory without one makes none.
use Rattle.walkdir.proofs.AnsweredLemmas.{leads_by, leads_still}
use Rattle.walkdir.proofs.directory.DirList.close.Goals as goal

pub returns-in-Some-clause-answered : goal.returns-in-Some-clause-answered
returns-in-Some-clause-answered g c = leads_by g.D.Disk.answered c.args.disk.now c.close_dir.new.self c.close_dir.ensures.answered

pub returns-in_default-clause-answered : goal.returns-in_default-clause-answered
returns-in_default-clause-answered g c = leads_still g.D.Disk.answered c.args.disk.now
