use Rattle.std.proofs.Common.{[], ◌∷◌, ◌++◌}
use Rattle.gix_odb_loose.specs.Exchanges.{exchanged}
use Rattle.gix_odb_loose.proofs.AskedLemmas.{AreAllCalls-push}
use Rattle.gix_odb_loose.proofs.StreamJobsLemmas.Turn.{turn_answered}
use Rattle.gix_odb_loose.proofs.StreamJobsLemmas.Turns.{turn_fewer}
use Rattle.gix_odb_loose.proofs.StreamJobsLemmas.Ends.{asks_broken, broken_first}
use Rattle.gix_odb_loose.proofs.write_streamed.StreamJob.asked.Goals as goal

pub returns-in_err-ask-clause-asks : goal.returns-in_err-ask-clause-asks
returns-in_err-ask-clause-asks g c =
    λ w first rest source_now since. (
      since.0,
      since.1,
      asks_broken w _ _ since.0 _ _ c.ask.new.self c.from_residual.result c.from_residual.ensures.0 (broken_first w _ _ since.0 _ _ c.args.self.now c.ask.new.self c.ask.ensures.same since.2),
    )

pub returns-clause-asks : goal.returns-clause-asks
returns-clause-asks g c =
    λ w first rest source_now since. (
      since.0 ++ exchanged c.in_ok-ask.ask c.carry_out-answer.result ∷ [],
      AreAllCalls-push g.D.Disk.answered since.0 first c.args.disk.now c.carry_out-answer.new.disk c.in_ok-ask.ask c.carry_out-answer.result since.1 c.carry_out-answer.ensures.answered,
      turn_answered w _ (g.D.Disk.state c.carry_out-answer.new.disk) _
          (g.D.Disk.faults c.carry_out-answer.new.disk) since.0 _ _ c.args.self.now c.ask.new.self
          c.args.self.now.stage c.in_ok-ask.ask c.carry_out-answer.result c.len-len.result c.next-wanted.result since.2 c.len-len.ensures.len c.in_ok-ask.ensures.ask
          c.ask.ensures.same c.next-wanted.ensures.next
          (c.carry_out-answer.ensures.answer c.in_ok-ask.ensures.still) c.carry_out-answer.ensures.state c.carry_out-answer.ensures.later c.carry_out-answer.ensures.cause
          c.carry_out-answer.ensures.tree,
    )

pub returns-clause-fewer : goal.returns-clause-fewer
returns-clause-fewer g c =
    λ w past rest source_now at.
    turn_fewer w _ _ past _ _ c.args.self.now c.ask.new.self c.args.self.now.stage
    c.carry_out-answer.result c.len-len.result c.next-wanted.result at c.len-len.ensures.len c.ask.ensures.same c.next-wanted.ensures.next
