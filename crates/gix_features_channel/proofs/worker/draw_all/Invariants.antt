use Rattle.gix_features_channel.specs.EagerJobs.{CanBegin}
use Rattle.gix_features_channel.proofs.worker.draw_all.Given as goal

-- the job may go on as it began
abbrev pub invariant-drawing : goal.invariant-drawing
invariant-drawing g l = record { can : CanBegin g.I.Iterator.can_next g.I.Iterator.next_gives l.job }
