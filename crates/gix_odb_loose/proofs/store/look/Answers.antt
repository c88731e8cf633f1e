use Rattle.std.proofs.Common.{subst}
use Rattle.gix_odb_loose.proofs.RunLemmas.{look_kept, look_still, look_told}
use Rattle.gix_odb_loose.proofs.store.look.Goals as goal

pub returns-clause-told : goal.returns-clause-told
returns-clause-told g c = look_told _ _ _ _ c.in_ok-ask.ensures.ask (c.carry_out-answer.ensures.answer (look_still _ _ c.in_ok-ask.ensures.ask))

pub returns-clause-kept : goal.returns-clause-kept
returns-clause-kept g c = look_kept _ _ _ _ _ c.in_ok-ask.ensures.ask c.carry_out-answer.ensures.state

pub returns-clause-streams : goal.returns-clause-streams
returns-clause-streams g c = c.carry_out-answer.ensures.streams (look_still _ _ c.in_ok-ask.ensures.ask)

pub returns-clause-asked : goal.returns-clause-asked
returns-clause-asked g c =
    subst (λ ask. g.D.Disk.answered c.args.disk.now ask c.carry_out-answer.result c.carry_out-answer.new.disk) c.in_ok-ask.ensures.ask c.carry_out-answer.ensures.answered
