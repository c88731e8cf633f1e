use Rattle.std.specs.Prelude.{◌≡◌, ◌++◌, replicate}
use Rattle.gix_odb_calls.specs.declared.step.Step.TheVariants.{Turn}
use Rattle.gix_odb_world.proofs.step_list.put_turns.Given as goal

-- so many turns as were counted
abbrev pub invariant-loop : goal.invariant-loop
invariant-loop l = l.steps ≡ l.fn.steps ++ replicate l.counter (Turn l.handle)
