use Rattle.std.proofs.Common.{rules}
use Rattle.list_walk.proofs.WrittenLemmas.{back_after, back_on}
use Rattle.list_walk.proofs.run.walked.Goals as goal

-- the dropped walk closes its own streams, and left all others as they were
pub returns-in-Ok-clause-back : goal.returns-in-Ok-clause-back
returns-in-Ok-clause-back g c =
    back_on g.D.Disk.streams c.drop-walk.new.self.0 _ _ _ (search rules) (back_after g.S.Sorter.order c.args.walk _ _ _ _ c.in-Ok.ensures.begun c.written.ensures.leaves c.drop-walk.ensures.back)
