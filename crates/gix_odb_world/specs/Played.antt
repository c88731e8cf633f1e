-- What the code of a play does for lines. No public clause cites this.
use Rattle.std.specs.Prelude.{◌≡◌, ℕ, List, [], ◌∷◌, ◌++◌, map}
use Rattle.std.specs.List.{AllByRecursion}
use Rattle.odb_disk.specs.MemDisk.{Volume}
use Rattle.gix_odb_calls.specs.declared.step.Step.{Step}
use Rattle.gix_odb_calls.specs.declared.step.Step.TheVariants.{Turn}
use Rattle.gix_odb_calls.specs.declared.step.Outcome.{Outcome}
use Rattle.gix_odb_calls.specs.declared.step.Outcome.TheVariants.{Pending}
use Rattle.gix_odb_calls.specs.declared.line.Line.{Line}
use Rattle.gix_odb_world.specs.declared.course.Course.{Course}
use Rattle.gix_odb_world.specs.Play.{Made, StandsFor, Plays, made_of}
use Rattle.gix_odb_world.specs.World.{IsRunOf}

-- a world goes on by steps that were made, which are added to those before
pub record Makes (old new : Course) (before after : List Step) (own : List Made) : Type 0 where
  pub outcomes : new.outcomes ≡ old.outcomes ++ map (λ m. m.outcome) own
  pub steps : after ≡ before ++ map (λ m. m.step) own
  pub runs : (first : Volume) (earlier : List Step) → IsRunOf first earlier old → IsRunOf first (earlier ++ map (λ m. m.step) own) new

-- by one step
pub record MakesOne (old new : Course) (before after : List Step) (step : Step) : Type 0 where
  pub outcome : Outcome
  pub makes : Makes old new before after (record { step = step; outcome = outcome } ∷ [])

-- by pending turns of a handle
pub record PlaysTurns (old new : Course) (before after : List Step) (handle : ℕ) : Type 0 where
  pub own : List Made
  pub pending : AllByRecursion (λ m. (m.step ≡ Turn handle) × (m.outcome ≡ Pending)) own
  pub makes : Makes old new before after own

-- by what a line stands for
pub record PlaysLine (old new : Course) (before after : List Step) (line : Line) : Type 0 where
  pub own : List Made
  pub stands : StandsFor line own
  pub makes : Makes old new before after own

-- What holds in a play after so many lines, by which these steps were made.
pub record HasPlayed (first : Volume) (lines : List Line) (steps : List Step) (last : List ℕ) (world : Course) : Type 0 where
  pub run : IsRunOf first steps world
  pub plays : Plays 0 lines (made_of steps world.outcomes) last
