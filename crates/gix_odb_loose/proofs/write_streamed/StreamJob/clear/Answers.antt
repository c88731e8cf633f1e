use Rattle.std.specs.Prelude.{is_some}
use Rattle.std.proofs.Common.{sym, ap, ◌∙◌, [], ◌∷◌, ◌++◌}
use Rattle.gix_odb_loose.specs.Exchanges.{exchanged}
use Rattle.gix_odb_loose.proofs.AskedLemmas.{AreAllCalls-push}
use Rattle.gix_odb_loose.proofs.StillAskLaws.{removal_still}
use Rattle.gix_odb_loose.proofs.StreamJobsLemmas.Ends.{clear_unmade, clear_removed}
use Rattle.gix_odb_loose.proofs.write_streamed.StreamJob.clear.Goals as goal

pub returns-then-is_some-clause-cleared : goal.returns-then-is_some-clause-cleared
returns-then-is_some-clause-cleared g c =
    λ w first rest source_now since.
    let made = ap is_some (sym c.number_made.ensures.number) ∙ (sym c.is_some.ensures ∙ c.if-is_some.true) in
    let still = removal_still w c.args.self.now.removal c.args.self.now.stage made since.2.removal in (
      since.0 ++ exchanged c.args.self.now.removal c.carry_out.result ∷ [],
      AreAllCalls-push g.D.Disk.answered since.0 first c.args.disk.now c.carry_out.new.disk c.args.self.now.removal c.carry_out.result since.1 c.carry_out.ensures.answered,
      clear_removed w _ _ since.0 rest source_now c.args.self.now (g.D.Disk.state c.carry_out.new.disk) (g.D.Disk.faults c.carry_out.new.disk) c.carry_out.result
          (c.carry_out.ensures.answer still) c.carry_out.ensures.state c.carry_out.ensures.later
          c.carry_out.ensures.cause c.carry_out.ensures.tree c.args.self.now.stage made since.2,
    )

pub returns-else-is_some-clause-cleared : goal.returns-else-is_some-clause-cleared
returns-else-is_some-clause-cleared g c =
    λ w first rest source_now since. (
      since.0,
      since.1,
      clear_unmade w _ _ since.0 rest source_now c.args.self.now c.args.self.now.stage (ap is_some (sym c.number_made.ensures.number) ∙ (sym c.is_some.ensures ∙ c.if-is_some.false)) since.2,
    )

pub returns-then-is_some-clause-streams : goal.returns-then-is_some-clause-streams
returns-then-is_some-clause-streams g c =
    λ w past rest source_now at.
    let made = ap is_some (sym c.number_made.ensures.number) ∙ (sym c.is_some.ensures ∙ c.if-is_some.true) in
    c.carry_out.ensures.streams (removal_still w c.args.self.now.removal c.args.self.now.stage made at.removal)
