-- Laws of calls made one after another: none, one, and two runs joined.
use Rattle.std.proofs.Common.{List, [], ◌∷◌, ◌++◌, refl, sym, subst}
use Rattle.odb_disk.specs.CallsMade.{Makes, Leads, IsAnsweredBetween}

module _ {State Ask Answer : Type 0} (Answered : State → Ask → Answer → State → Type 0) where
  pub makes_none : (state : State) → Makes Answered [] state state
  makes_none state = refl

  pub makes_one : (before after : State) (ask : Ask) (answer : Answer) → Answered before ask answer after → Makes Answered ((ask, answer) ∷ []) before after
  makes_one before after ask answer answered = (after, answered, refl)

  pub makes_joined : (first second : List (Ask × Answer)) (before between after : State)
      → Makes Answered first before between → Makes Answered second between after → Makes Answered (first ++ second) before after
  makes_joined [] second before between after none more = subst (λ s. Makes Answered second s after) (sym none) more
  makes_joined (call ∷ first) second before between after made more = (made.0, made.1, makes_joined first second made.0 between after made.2 more)

  -- ---- runs whose calls aren't named

  pub leads_nowhere : (state : State) → Leads Answered state state
  leads_nowhere state = ([], refl)

  pub leads_by_one : (before after : State) (ask : Ask) (answer : Answer) → Answered before ask answer after → Leads Answered before after
  leads_by_one before after ask answer answered = ((ask, answer) ∷ [], makes_one before after ask answer answered)

  pub leads_on : (before between after : State) → Leads Answered before between → Leads Answered between after → Leads Answered before after
  leads_on before between after first second = (first.0 ++ second.0, makes_joined first.0 second.0 before between after first.1 second.1)

  -- ---- one of the calls

  pub answered_here : (before after : State) (ask : Ask) (answer : Answer) → Answered before ask answer after → IsAnsweredBetween Answered before after ask answer
  answered_here before after ask answer answered = record { here = before; there = after; earlier = leads_nowhere before; answered = answered; later = leads_nowhere after }

  -- it is between any states further apart
  pub answered_wider : (first before after last : State) (ask : Ask) (answer : Answer)
      → Leads Answered first before → IsAnsweredBetween Answered before after ask answer → Leads Answered after last → IsAnsweredBetween Answered first last ask answer
  answered_wider first before after last ask answer earlier is later = record {
    here = is.here;
    there = is.there;
    earlier = leads_on first before is.here earlier is.earlier;
    answered = is.answered;
    later = leads_on is.there after last is.later later;
  }

  -- and it is one of the calls that lead from the one state to the other
  pub leads_through : (before after : State) (ask : Ask) (answer : Answer) → IsAnsweredBetween Answered before after ask answer → Leads Answered before after
  leads_through before after ask answer is = leads_on before is.here after is.earlier (leads_on is.here is.there after (leads_by_one is.here is.there ask answer is.answered) is.later)
