use Rattle.std.specs.Prelude.{◌≡◌, take}
use Rattle.gix_odb_world.specs.StepList.{steps_of}
use Rattle.gix_odb_world.proofs.step_list.copies.Given as goal

-- the steps of the entries so far are copied
abbrev pub invariant-loop-entry : goal.invariant-loop-entry
invariant-loop-entry l = l.steps ≡ steps_of (take l.entry-index l.entries)
