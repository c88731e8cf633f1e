use Rattle.std.proofs.Common.{◌∙◌}
use Rattle.gix_odb_loose.proofs.PrefixSearchesLemmas.Answered.{state_stays}
use Rattle.gix_odb_loose.proofs.PrefixSearchesLemmas.Drives.{owns_then, turn_asked, turn_fewer, turn_stands}
use Rattle.gix_odb_loose.proofs.store_prefix.turn.Goals as goal

pub returns-in-Ok-clause-stands : goal.returns-in-Ok-clause-stands
returns-in-Ok-clause-stands g c =
    λ b state stands.
    turn_stands g.D.Disk.streams g.D.Disk.faults b _ _ _ c.asked.new.disk c.fed.new.disk c.args.search c.in-Ok.answer c.fed.result c.asked.ensures.later c.in-Ok.ensures.told state stands c.fed.ensures.fed
    c.fed.ensures.same

pub returns-in-Ok-clause-fewer : goal.returns-in-Ok-clause-fewer
returns-in-Ok-clause-fewer g c =
    λ b state stands.
    turn_fewer g.D.Disk.streams g.D.Disk.faults b _ _ _ c.asked.new.disk c.fed.new.disk c.args.search c.in-Ok.answer c.fed.result c.asked.ensures.later c.in-Ok.ensures.told state stands c.fed.ensures.fed
    c.fed.ensures.same

pub returns-in-Ok-clause-back : goal.returns-in-Ok-clause-back
returns-in-Ok-clause-back g c =
    λ b state stands.
    c.fed.ensures.back b (owns_then b _ state _ _ _ _ c.asked.ensures.later c.args.search c.in-Ok.answer stands c.in-Ok.ensures.told)

pub returns-in-Ok-clause-asked : goal.returns-in-Ok-clause-asked
returns-in-Ok-clause-asked g c =
    turn_asked g.D.Disk.answered c.args.disk.now c.asked.new.disk c.fed.new.disk c.args.search c.in-Ok.answer c.fed.result c.in-Ok.ensures.answered c.fed.ensures.fed c.fed.ensures.same

pub returns-in-Ok-clause-kept : goal.returns-in-Ok-clause-kept
returns-in-Ok-clause-kept g c = c.fed.ensures.kept ∙ (c.in-Ok.ensures.state ∙ state_stays _ c.args.search c.in-Ok.answer)
