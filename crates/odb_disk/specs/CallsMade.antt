-- Calls made one after another: what each was answered, and the states between them. `Answered` says what one call is
-- answered, and the state after it: for a disk, `Disk.answered`.
use Rattle.std.specs.Prelude.{◌≡◌, List, [], ◌∷◌}

module _ {State Ask Answer : Type 0} (Answered : State → Ask → Answer → State → Type 0) where
  -- these calls, each with its answer, lead from one state to another
  abbrev pub Makes : List (Ask × Answer) → State → State → Type 0
  Makes [] before after = before ≡ after
  Makes (call ∷ calls) before after = (between : State) × Answered before call.0 call.1 between × Makes calls between after

  -- some calls lead from one state to another
  abbrev pub Leads : State → State → Type 0
  Leads before after = (calls : List (Ask × Answer)) × Makes calls before after

  -- one of the calls that lead from one state to another was this one, and was answered so
  pub record IsAnsweredBetween (before after : State) (ask : Ask) (answer : Answer) : Type 0 where
    pub here : State
    pub there : State
    pub earlier : Leads before here
    pub answered : Answered here ask answer there
    pub later : Leads there after
