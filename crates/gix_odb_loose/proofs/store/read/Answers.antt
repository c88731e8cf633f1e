use Rattle.std.proofs.Common.{subst}
use Rattle.gix_odb_loose.proofs.RunLemmas.{read_kept, read_still, read_told}
use Rattle.gix_odb_loose.proofs.store.read.Goals as goal

pub returns-clause-told : goal.returns-clause-told
returns-clause-told g c = read_told _ _ _ _ c.in_ok-ask.ensures.ask (c.carry_out-answer.ensures.answer (read_still _ _ c.in_ok-ask.ensures.ask))

pub returns-clause-kept : goal.returns-clause-kept
returns-clause-kept g c = read_kept _ _ _ _ _ c.in_ok-ask.ensures.ask c.carry_out-answer.ensures.state

pub returns-clause-streams : goal.returns-clause-streams
returns-clause-streams g c = c.carry_out-answer.ensures.streams (read_still _ _ c.in_ok-ask.ensures.ask)

pub returns-clause-asked : goal.returns-clause-asked
returns-clause-asked g c =
    subst (λ ask. g.D.Disk.answered c.args.disk.now ask c.carry_out-answer.result c.carry_out-answer.new.disk) c.in_ok-ask.ensures.ask c.carry_out-answer.ensures.answered
