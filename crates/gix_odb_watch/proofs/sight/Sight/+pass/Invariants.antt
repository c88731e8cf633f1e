use Rattle.std.proofs.Common.{length}
use Rattle.gix_odb_watch.proofs.sight.Sight.+pass.Given as goal

abbrev pub decreases-pass : goal.decreases-pass
decreases-pass l = length l.path.now
