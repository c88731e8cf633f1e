use Rattle.std.proofs.Common.{◌+◌, ◌-◌, ◌*◌}
use Rattle.gix_features_workers.proofs.rounds.+halves.Given as goal

abbrev pub decreases-round : goal.decreases-round
decreases-round g l = 4 * l.count

abbrev pub decreases-both_halves : goal.decreases-both_halves
decreases-both_halves g l = 4 * (l.low + l.high) - 1

abbrev pub decreases-both_halves-front : goal.decreases-both_halves-front
decreases-both_halves-front g l = 4 * l.low + 1

abbrev pub decreases-both_halves-back : goal.decreases-both_halves-back
decreases-both_halves-back g l = 4 * l.high + 1
