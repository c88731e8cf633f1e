-- What a lawful event shows of its step: one that isn't misused is valid, and keeps the rule of two contents.
use Rattle.std.proofs.Common.{◌≡◌, true, List, Option, Some, None, Result, Ok, Err, refl, sym, ◌∙◌, subst}
use Rattle.std.specs.Result.{IfOk}
use Rattle.odb_disk.specs.MemDisk.{Volume}
use Rattle.gix_odb_calls.specs.declared.step.Outcome.{Outcome}
use Rattle.gix_odb_calls.specs.declared.step.Outcome.TheVariants as outcomes
use Rattle.gix_odb_calls.specs.declared.step.Why.{Why}
use Rattle.gix_odb_history.specs.Event.{Event}
use Rattle.gix_odb_world.specs.Headline.{Law}
use Rattle.gix_odb_history.specs.Turned.{is_done}
use Rattle.gix_odb_world.specs.TwoContents.{BreaksRule, would_change}
use Rattle.gix_odb_world.specs.Valid.{IsFirstReason, IsReason, misuse_of, why_not_after}

pub no_other : (other : Option Why) (breaks : Type 0) → IsFirstReason other breaks None → None ≡ other
no_other None breaks is = refl
no_other (Some other) breaks is = is

no_break : (other : Option Why) (breaks : Type 0) → IsFirstReason other breaks None → None ≡ other → ¬ breaks
no_break None breaks is none = is
no_break (Some other) breaks is none = absurd (cc none)

pub breaks_not : (other : Option Why) (breaks : Type 0) → IsFirstReason other breaks None → ¬ breaks
breaks_not other breaks is = no_break other breaks is (no_other other breaks is)

-- another reason is the first one
pub other_reason : (other : Option Why) (breaks : Type 0) (why : Why) → other ≡ Some why → IsFirstReason other breaks (Some why)
other_reason None breaks why is = absurd (cc is)
other_reason (Some other) breaks why is = sym is

-- where no other reason holds, the rule of two contents decides
pub by_rule : (other : Option Why) (breaks : Type 0) (why : Option Why) → other ≡ None → IsFirstReason None breaks why → IsFirstReason other breaks why
by_rule None breaks why is by = by
by_rule (Some other) breaks why is by = absurd (cc is)

-- a step that changes nothing has no reason except another one
pub reason_is : (other why : Option Why) → why ≡ other → IsFirstReason other ⊥ why
reason_is None None is = λ breaks. breaks
reason_is None (Some why) is = absurd (cc is)
reason_is (Some other) why is = is

pub if_reason_is : {E : Type 0} (answer : Result (Option Why) E) (other : Option Why) → IfOk answer (λ why. why ≡ other) → IfOk answer (IsFirstReason other ⊥)
if_reason_is (Ok why) other is = reason_is other why is
if_reason_is (Err error) other is = tt

-- the first reason is the same for equivalent conditions
pub same_reason : (other twin : Option Why) → other ≡ twin → (breaks does : Type 0) → (breaks → does) → (does → breaks) → (why : Option Why)
    → IsFirstReason other breaks why → IsFirstReason twin does why
same_reason (Some other) (Some twin) same breaks does to from why is = is ∙ same
same_reason None None same breaks does to from None is = λ d. is (from d)
same_reason None None same breaks does to from (Some why) is = (is.0, to is.1)
same_reason None (Some twin) same breaks does to from why is = absurd (cc same)
same_reason (Some other) None same breaks does to from why is = absurd (cc same)

pub done_if_sound : (outcome : Outcome) → misuse_of outcome ≡ None → is_done outcome ≡ true
done_if_sound outcomes.Applied sound = refl
done_if_sound outcomes.Pending sound = refl
done_if_sound (outcomes.Reply reply) sound = refl
done_if_sound (outcomes.Misuse why) sound = absurd (cc sound)

module _ (first : Volume) (past : List Event) (e : Event) (law : Law first past e) (sound : misuse_of e.outcome ≡ None) where
  sound_reason : IsReason first past e.step None
  sound_reason = subst (IsReason first past e.step) sound law.valid

  pub valid_if_sound : None ≡ why_not_after first past e.step
  valid_if_sound = no_other (why_not_after first past e.step) (BreaksRule first past (would_change first past e.step)) sound_reason

  pub keeps_rule : ¬ (BreaksRule first past (would_change first past e.step))
  keeps_rule = breaks_not (why_not_after first past e.step) (BreaksRule first past (would_change first past e.step)) sound_reason
