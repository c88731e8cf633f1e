-- What a stream gives next, as a child of its directory.
use Rattle.std.proofs.Common.{subst, sym}
use Rattle.walkdir.specs.Answered.{IsHeldIn}
use Rattle.walkdir.specs.declared.error.Error.{Error}
use Rattle.walkdir.proofs.AnsweredLemmas.Calls.{child_told, stream_told}
use Rattle.walkdir.proofs.AnsweredLemmas.{leads_by}
use Rattle.walkdir.proofs.read.next_of.Goals as goal

pub returns-in-Ok-None-clause-answered : goal.returns-in-Ok-None-clause-answered
returns-in-Ok-None-clause-answered g c =
    record { leads = leads_by g.D.Disk.answered c.args.disk.now c.next_entry.new.self c.in-Ok-None.ensures.answered; told = tt }

pub returns-in-Ok-Some-clause-answered : goal.returns-in-Ok-Some-clause-answered
returns-in-Ok-Some-clause-answered g c = record {
  leads = leads_by g.D.Disk.answered c.args.disk.now c.next_entry.new.self c.in-Ok-Some.ensures.answered;
  told = child_told g.D.Disk.answered c.args.disk.now c.next_entry.new.self c.child.result c.child.ensures.lost;
}

pub returns-in-Err-clause-answered : goal.returns-in-Err-clause-answered
returns-in-Err-clause-answered g c = record {
  leads = leads_by g.D.Disk.answered c.args.disk.now c.next_entry.new.self c.in-Err.ensures.answered;
  told = subst (λ (e : Error). IsHeldIn g.D.Disk.answered c.args.disk.now c.next_entry.new.self e.inner) (sym c.from_stream.ensures.made)
      (stream_told g.D.Disk.answered c.args.disk.now c.next_entry.new.self c.args.depth c.in-Err.error c.in-Err.ensures.answered);
}
