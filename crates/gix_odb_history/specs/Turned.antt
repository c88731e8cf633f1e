-- Whether an event is a turn of a handle. An invalid turn is none: it has no effect.
use Rattle.std.specs.Prelude.{ℕ, Bool, true, false, ◌&&◌, ◌==◌}
use Rattle.gix_odb_calls.specs.declared.step.Outcome.{Outcome}
use Rattle.gix_odb_calls.specs.declared.step.Outcome.TheVariants as outcomes
use Rattle.gix_odb_calls.specs.declared.step.Step.{Step}
use Rattle.gix_odb_calls.specs.declared.step.Step.TheVariants as steps
use Rattle.gix_odb_history.specs.Event.{Event}

-- whether a step was valid, by its outcome
abbrev pub is_done : Outcome → Bool
is_done outcomes.Applied = true
is_done outcomes.Pending = true
is_done (outcomes.Reply reply) = true
is_done (outcomes.Misuse why) = false

abbrev pub turns_handle : (handle : ℕ) → Step → Bool
turns_handle handle (steps.Turn other) = handle == other
turns_handle handle step = false

abbrev pub is_turn_of : (handle : ℕ) → Event → Bool
is_turn_of handle e = is_done e.outcome && turns_handle handle e.step
