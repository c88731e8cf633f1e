-- The place of a directory is the one found through a link, or what a stat reports.
use Rattle.std.proofs.Common.{◌≡◌, ◌||◌, true, subst, sym, arith, Option, Ok, Err}
use Rattle.walkdir.specs.Turns.Taken.{FindsPlace}
use Rattle.walkdir.specs.declared.directory.Place.{Place}
use Rattle.walkdir.proofs.HandlesLemmas.{err_is}
use Rattle.walkdir.proofs.HandlesLemmas.Entered.{place_refused}
use Rattle.walkdir.specs.AnsweredTurns.{IsWhereTold}
use Rattle.walkdir.proofs.AnsweredLemmas.{leads_still}
use Rattle.walkdir.proofs.AnsweredLemmas.Calls.{look_known, look_leads, look_refused}
use Rattle.walkdir.proofs.stack.Stack.place_of.Goals as goal
use Rattle.walkdir.proofs.stack.Stack.place_of.Goals.{else-not-self-via-then-not-self+else-not-self-2, else-not-self-via-else-not-self}

pub returns-in_err-meta-clause-place : goal.returns-in_err-meta-clause-place
returns-in_err-meta-clause-place g c =
    let state = g.D.Disk.state c.args.disk.now in
    let options = c.args.self.now.options in
    let found = c.args.found.now in
    let wanted : (options.follow_links || options.same_file_system) ≡ true = elim c.else-not-self.branch [
      | else-not-self-via-then-not-self+else-not-self-2 w ↦ grind arith
      | else-not-self-via-else-not-self w ↦ grind arith
    ] in
    subst (λ r. FindsPlace state options found r) (sym (err_is c.from_residual.result c.in_err-meta.field-0.0 c.from_residual.ensures.1))
    (place_refused state options found c.depth.result c.path.result.now c.in_err-meta.field-0.0 wanted c.depth.ensures.told c.path.ensures.told
    c.in_err-meta.ensures.told)

pub returns-in-Some-clause-answered : goal.returns-in-Some-clause-answered
returns-in-Some-clause-answered g c = record {
  leads = leads_still g.D.Disk.answered c.args.disk.now;
  told = λ first earlier known. subst (λ (p : Option Place). IsWhereTold g.D.Disk.answered first c.args.disk.now c.args.found.now.entry.path (Ok p))
      c.in-Some.is known;
}

pub returns-then-not-self-2-clause-answered : goal.returns-then-not-self-2-clause-answered
returns-then-not-self-2-clause-answered g c = record { leads = leads_still g.D.Disk.answered c.args.disk.now; told = λ first earlier known. tt }

pub returns-in_err-meta-clause-answered : goal.returns-in_err-meta-clause-answered
returns-in_err-meta-clause-answered g c =
    let by = c.in_err-meta.ensures.answered in
    let error = c.in_err-meta.field-0.0 in
    record {
      leads = look_leads g.D.Disk.answered c.depth.result c.path.result.now true c.args.disk.now c.look.new.disk (Err error) by;
      told = λ first earlier known.
          subst (λ r. IsWhereTold g.D.Disk.answered first c.look.new.disk c.args.found.now.entry.path r)
          (sym (err_is c.from_residual.result error c.from_residual.ensures.1))
          (look_refused g.D.Disk.answered first c.depth.result c.path.result.now true c.args.disk.now c.look.new.disk error earlier by);
    }

pub returns-clause-answered : goal.returns-clause-answered
returns-clause-answered g c =
    let by = c.in_ok-meta.ensures.answered in
    record {
      leads = look_leads g.D.Disk.answered c.depth.result c.path.result.now true c.args.disk.now c.look.new.disk (Ok c.in_ok-meta.meta) by;
      told = λ first earlier known.
          look_known g.D.Disk.answered first c.depth.result c.path.result.now c.args.found.now.entry.path c.args.disk.now c.look.new.disk
          c.in_ok-meta.meta c.place_in.result earlier by
          c.path.ensures.told c.place_in.ensures.told;
    }
