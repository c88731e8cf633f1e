-- Lines: a step, or all turns of a handle up to its reply.
use Rattle.std.specs.Prelude.{◌≡◌, ◌≢◌, ℕ, ◌+◌, ◌-◌, List, [], ◌∷◌, ◌++◌, length}
use Rattle.std.specs.List.{AllByRecursion}
use Rattle.gix_odb_calls.specs.declared.step.Step.{Step}
use Rattle.gix_odb_calls.specs.declared.step.Step.TheVariants as step_kinds
use Rattle.gix_odb_calls.specs.declared.step.Outcome.{Outcome}
use Rattle.gix_odb_calls.specs.declared.step.Outcome.TheVariants as comes
use Rattle.gix_odb_calls.specs.declared.line.Line.{Line}
use Rattle.gix_odb_calls.specs.declared.line.Line.TheVariants.{One, Finish}
use Rattle.odb_disk.specs.MemDisk.{Volume}
use Rattle.gix_odb_world.specs.declared.play.Play.{Play}
use Rattle.gix_odb_world.specs.Headline.{Headline}
use Rattle.gix_odb_world.specs.RunLaws.Pending.{AreLinesInTime}

-- A step that was made, and its outcome.
pub record Made : Type 0 where
  pub step : Step
  pub outcome : Outcome

-- steps with their outcomes
unfoldable pub made_of : List Step → List Outcome → List Made
made_of [] outcomes = []
made_of (step ∷ steps) [] = []
made_of (step ∷ steps) (outcome ∷ outcomes) = record { step = step; outcome = outcome } ∷ made_of steps outcomes

-- What a line stands for: its one step; or turns of its handle, all pending but the last.
abbrev pub StandsFor : Line → List Made → Type 0
StandsFor (One step) made = (outcome : Outcome) × (made ≡ record { step = step; outcome = outcome } ∷ [])
StandsFor (Finish handle) made =
    (before : List Made) × (last : Outcome) × (made ≡ before ++ record { step = step_kinds.Turn handle; outcome = last } ∷ [])
    × AllByRecursion (λ m. (m.step ≡ step_kinds.Turn handle) × (m.outcome ≡ comes.Pending)) before × (last ≢ comes.Pending)

-- The lines stand, one after another, for the steps that were made from a place on. `last` has, for each line,
-- the place of its last step.
abbrev pub Plays : ℕ → List Line → List Made → List ℕ → Type 0
Plays place [] made last = (made ≡ []) × (last ≡ [])
Plays place (line ∷ lines) made last =
    (own : List Made) × (others : List Made) × (rest : List ℕ) × StandsFor line own × (made ≡ own ++ others)
    × (last ≡ (place + length own - 1) ∷ rest) × Plays (place + length own) lines others rest

-- The lines stand for the steps of a play, from this disk on, and the run of these steps is its run. Each line that finishes a task ends
-- in time.
pub record IsPlayed (first : Volume) (lines : List Line) (play : Play) : Type 0 where
  pub headline : Headline first play.steps play.run
  pub plays : Plays 0 lines (made_of play.steps play.run.outcomes) play.last
  pub in_time : AreLinesInTime first headline.events 0 lines play.last
