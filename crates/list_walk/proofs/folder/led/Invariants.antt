use Rattle.std.proofs.Common.{◌≡◌, length, map}
use Rattle.list_walk.specs.Folder.{led}
use Rattle.list_walk.proofs.folder.led.Given as goal

-- the parts that are left lead, from where the way is, to where all lead
abbrev pub invariant-loop-rest : goal.invariant-loop-rest
invariant-loop-rest l = led l.way (map (λ part. part.now) l.rest) ≡ led l.fn.start (map (λ part. part.now) l.initial.rest)

abbrev pub decreases-loop-rest : goal.decreases-loop-rest
decreases-loop-rest l = length l.rest
