-- A directory or a root link is entered if the rules say so.
use Rattle.std.proofs.Common.{◌≡◌, ◌&&◌, true, false, cond, Some, ap, subst, sym, ◌∙◌, arith, Ok, Err}
use Rattle.std.proofs.lemmas.Bool.Decides.{nat_tests}
use Rattle.walkdir.specs.Entry.{is_dir_kind}
use Rattle.walkdir.specs.Turns.Taken.{EntersBy}
use Rattle.walkdir.specs.Walk.Entries.{entering, is_root_link, place_of}
use Rattle.walkdir.specs.declared.directory.Entering.{Entering}
use Rattle.walkdir.specs.declared.directory.Entering.TheVariants.{Stays, Enters}
use Rattle.walkdir.proofs.HandlesLemmas.Entered.{enters_dir, enters_link, enters_other, enters_refused}
use Rattle.walkdir.proofs.HandlesLemmas.{err_is, kind_tested}
use Rattle.walkdir.proofs.InnermostLemmas.{only_dir}
use Rattle.walkdir.specs.AnsweredTurns.{IsEnteringTold}
use Rattle.walkdir.proofs.AnsweredLemmas.{leads_still}
use Rattle.walkdir.proofs.AnsweredLemmas.Calls.{look_known, look_leads, look_refused}
use Rattle.walkdir.proofs.stack.Stack.entering.Goals as goal
use Rattle.walkdir.proofs.stack.Stack.entering.Goals.{then-not-is_link-via-then-not-is_link, then-not-is_link-via-else-not-is_link+then-depth-ne0}
use Rattle.walkdir.proofs.stack.Stack.entering.Goals.{then-not-is_link-via-else-not-is_link+else-depth-ne0+then-not-self}

pub returns-then-is_dir-clause-enters : goal.returns-then-is_dir-clause-enters
returns-then-is_dir-clause-enters g c =
    enters_dir (g.D.Disk.state c.args.disk.now) c.args.self.now.options c.args.self.now.root_device c.args.found.now c.entering_directory.result
    (sym c.is_dir.ensures.told ∙ c.if-is_dir.true)
    c.entering_directory.ensures.enters

pub returns-then-not-is_link-clause-enters : goal.returns-then-not-is_link-clause-enters
returns-then-not-is_link-clause-enters g c =
    let entry = c.args.found.now.entry in
    let root : (is_root_link entry && c.args.self.now.options.follow_root_links) ≡ false = elim c.then-not-is_link.branch [
      | then-not-is_link-via-then-not-is_link w ↦ grind (arith, nat_tests)
      | then-not-is_link-via-else-not-is_link+then-depth-ne0 w ↦ grind (arith, nat_tests)
      | then-not-is_link-via-else-not-is_link+else-depth-ne0+then-not-self w ↦ grind (arith, nat_tests)
    ] in
    enters_other (g.D.Disk.state c.args.disk.now) c.args.self.now.options c.args.self.now.root_device c.args.found.now (sym c.is_dir.ensures.told
    ∙ c.if-is_dir.false) root

pub returns-in_err-meta-clause-enters : goal.returns-in_err-meta-clause-enters
returns-in_err-meta-clause-enters g c =
    let state = g.D.Disk.state c.args.disk.now in
    let walk = c.args.self.now in
    let entry = c.args.found.now.entry in
    let root : (is_root_link entry && walk.options.follow_root_links) ≡ true = grind (arith, nat_tests) in
    subst (λ r. EntersBy entering state walk.options walk.root_device c.args.found.now r)
    (sym (err_is c.from_residual.result c.in_err-meta.field-0.0 c.from_residual.ensures.1))
    (enters_refused state walk.options walk.root_device c.args.found.now c.path.result.now c.in_err-meta.field-0.0 (sym c.is_dir.ensures.told
    ∙ c.if-is_dir.false) root
    (sym c.depth.ensures.told ∙ c.if-depth-ne0.false) c.path.ensures.told c.in_err-meta.ensures.told)

pub returns-then-eq-clause-enters : goal.returns-then-eq-clause-enters
returns-then-eq-clause-enters g c =
    let walk = c.args.self.now in
    let entry = c.args.found.now.entry in
    let meta = c.in_ok-meta.meta in
    let root : (is_root_link entry && walk.options.follow_root_links) ≡ true = grind (arith, nat_tests) in
    let dir : is_dir_kind meta.kind ≡ true = sym (c.eq.ensures ∙ kind_tested meta.kind) ∙ c.if-eq.true in
    enters_link (g.D.Disk.state c.args.disk.now) walk.options walk.root_device c.args.found.now c.path.result.now meta
    (Enters (Some c.place_in.result))
    (sym c.is_dir.ensures.told ∙ c.if-is_dir.false) root c.path.ensures.told c.in_ok-meta.ensures.told
    (ap {B = Entering} (λ p. Enters (Some p)) c.place_in.ensures.told ∙ sym (ap (λ b. cond b (Enters (Some (place_of meta))) Stays) dir))

pub returns-else-eq-clause-enters : goal.returns-else-eq-clause-enters
returns-else-eq-clause-enters g c =
    let walk = c.args.self.now in
    let entry = c.args.found.now.entry in
    let meta = c.in_ok-meta.meta in
    let root : (is_root_link entry && walk.options.follow_root_links) ≡ true = grind (arith, nat_tests) in
    let dir : is_dir_kind meta.kind ≡ false = sym (c.eq.ensures ∙ kind_tested meta.kind) ∙ c.if-eq.false in
    enters_link (g.D.Disk.state c.args.disk.now) walk.options walk.root_device c.args.found.now c.path.result.now meta Stays
    (sym c.is_dir.ensures.told ∙ c.if-is_dir.false) root c.path.ensures.told c.in_ok-meta.ensures.told
    (sym (ap (λ b. cond b (Enters (Some (place_of meta))) Stays) dir))

pub returns-then-is_dir-clause-kind : goal.returns-then-is_dir-clause-kind
returns-then-is_dir-clause-kind g c = only_dir c.args.found.now.entry c.entering_directory.result (sym c.is_dir.ensures.told ∙ c.if-is_dir.true)

pub returns-then-not-is_link-clause-answered : goal.returns-then-not-is_link-clause-answered
returns-then-not-is_link-clause-answered g c = record { leads = leads_still g.D.Disk.answered c.args.disk.now; told = λ first earlier known. tt }

pub returns-in_err-meta-clause-answered : goal.returns-in_err-meta-clause-answered
returns-in_err-meta-clause-answered g c =
    let by = c.in_err-meta.ensures.answered in
    let error = c.in_err-meta.field-0.0 in
    record {
      leads = look_leads g.D.Disk.answered 0 c.path.result.now true c.args.disk.now c.look.new.disk (Err error) by;
      told = λ first earlier known.
          subst (λ r. IsEnteringTold g.D.Disk.answered first c.look.new.disk c.args.found.now.entry.path r)
          (sym (err_is c.from_residual.result error c.from_residual.ensures.1))
          (look_refused g.D.Disk.answered first 0 c.path.result.now true c.args.disk.now c.look.new.disk error earlier by);
    }

pub returns-then-eq-clause-answered : goal.returns-then-eq-clause-answered
returns-then-eq-clause-answered g c =
    let by = c.in_ok-meta.ensures.answered in
    record {
      leads = look_leads g.D.Disk.answered 0 c.path.result.now true c.args.disk.now c.look.new.disk (Ok c.in_ok-meta.meta) by;
      told = λ first earlier known.
          look_known g.D.Disk.answered first 0 c.path.result.now c.args.found.now.entry.path c.args.disk.now c.look.new.disk c.in_ok-meta.meta
          c.place_in.result earlier by
          c.path.ensures.told c.place_in.ensures.told;
    }

pub returns-else-eq-clause-answered : goal.returns-else-eq-clause-answered
returns-else-eq-clause-answered g c = record {
  leads = look_leads g.D.Disk.answered 0 c.path.result.now true c.args.disk.now c.look.new.disk (Ok c.in_ok-meta.meta) c.in_ok-meta.ensures.answered;
  told = λ first earlier known. tt;
}
