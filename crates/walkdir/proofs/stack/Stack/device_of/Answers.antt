-- The root's device is what a stat of it reported, where it matters.
use Rattle.std.proofs.Common.{true, Ok, Err, subst, sym}
use Rattle.std.specs.Prelude.{IfErr}
use Rattle.walkdir.specs.AnsweredTurns.{IsSeenIn}
use Rattle.walkdir.specs.Turns.Taken.{FindsDevice}
use Rattle.walkdir.proofs.AnsweredLemmas.{leads_still}
use Rattle.walkdir.proofs.AnsweredLemmas.Calls.{look_leads, look_refused}
use Rattle.walkdir.proofs.HandlesLemmas.{err_is}
use Rattle.walkdir.proofs.RootLemmas.{device_unwanted, device_wanted}
use Rattle.walkdir.proofs.stack.Stack.device_of.Goals as goal

pub returns-then-not-self-clause-finds : goal.returns-then-not-self-clause-finds
returns-then-not-self-clause-finds g c =
    device_unwanted (g.D.Disk.state c.args.disk.now) c.args.self.now.options c.args.root.now c.args.self.now.root_device c.if-not-self.true

pub returns-in_err-meta-clause-finds : goal.returns-in_err-meta-clause-finds
returns-in_err-meta-clause-finds g c =
    subst (λ r. FindsDevice (g.D.Disk.state c.args.disk.now) c.args.self.now.options c.args.root.now r)
    (sym (err_is c.from_residual.result c.in_err-meta.field-0.0 c.from_residual.ensures.1)) (c.if-not-self.false, c.in_err-meta.ensures.told)

pub returns-clause-finds : goal.returns-clause-finds
returns-clause-finds g c =
    device_wanted (g.D.Disk.state c.args.disk.now) c.args.self.now.options c.args.root.now c.in_ok-meta.meta c.in_ok-meta.ensures.told

pub returns-then-not-self-clause-answered : goal.returns-then-not-self-clause-answered
returns-then-not-self-clause-answered g c = record { leads = leads_still g.D.Disk.answered c.args.disk.now; told = λ first earlier. tt }

pub returns-in_err-meta-clause-answered : goal.returns-in_err-meta-clause-answered
returns-in_err-meta-clause-answered g c =
    let by = c.in_err-meta.ensures.answered in
    let error = c.in_err-meta.field-0.0 in
    record {
      leads = look_leads g.D.Disk.answered 0 c.args.root.now true c.args.disk.now c.look.new.disk (Err error) by;
      told = λ first earlier.
          subst (λ r. IfErr r (λ e. IsSeenIn g.D.Disk.answered first c.look.new.disk e.inner))
          (sym (err_is c.from_residual.result error c.from_residual.ensures.1))
          (look_refused g.D.Disk.answered first 0 c.args.root.now true c.args.disk.now c.look.new.disk error earlier by);
    }

pub returns-clause-answered : goal.returns-clause-answered
returns-clause-answered g c = record {
  leads = look_leads g.D.Disk.answered 0 c.args.root.now true c.args.disk.now c.look.new.disk (Ok c.in_ok-meta.meta) c.in_ok-meta.ensures.answered;
  told = λ first earlier. tt;
}
