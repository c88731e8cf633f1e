use Rattle.std.proofs.Common.{◌≡◌, length}
use Rattle.odb_script.specs.Line.{texts_of}
use Rattle.odb_script.specs.Opening.{chosen_by, nothing_chosen}
use Rattle.odb_script.proofs.choice.chosen_by.Given as goal

-- the options that are left choose, after what is chosen so far, what all choose
abbrev pub invariant-loop-rest : goal.invariant-loop-rest
invariant-loop-rest l = chosen_by (texts_of l.rest) l.chosen ≡ chosen_by (texts_of l.initial.rest) nothing_chosen

abbrev pub decreases-loop-rest : goal.decreases-loop-rest
decreases-loop-rest l = length l.rest
