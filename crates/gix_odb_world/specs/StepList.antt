-- The steps of a play as its code keeps them. No public clause cites this.
use Rattle.std.specs.Prelude.{List, [], ◌∷◌, replicate}
use Rattle.std.specs.List.{flat_map}
use Rattle.gix_odb_calls.specs.declared.step.Step.{Step}
use Rattle.gix_odb_calls.specs.declared.step.Step.TheVariants.{Turn}
use Rattle.gix_odb_world.specs.declared.step_list.Entry.{Entry}
use Rattle.gix_odb_world.specs.declared.step_list.Entry.TheVariants.{Lent, Turns}

-- the steps of an entry
abbrev pub steps_in : Entry → List Step
steps_in (Lent step) = step.now ∷ []
steps_in (Turns handle count) = replicate count (Turn handle)

-- the steps of entries, one after another
abbrev pub steps_of : List Entry → List Step
steps_of entries = flat_map steps_in entries
