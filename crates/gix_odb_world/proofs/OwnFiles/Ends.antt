-- The turns with which a write ends.
use Rattle.std.proofs.Common.{◌≡◌, ℕ, Ok, refl, subst, eq-eqb}
use Rattle.std.specs.Prelude.{if◌then◌else◌}
use Rattle.odb_disk.specs.declared.ask.DiskAnswer.{DiskAnswer}
use Rattle.odb_disk.specs.declared.ask.DiskAnswer.TheVariants as answers
use Rattle.gix_hash.specs.declared.object_id.ObjectId.{ObjectId}
use Rattle.gix_odb_loose.specs.LooseOrder as loose_order
use Rattle.gix_odb_loose.specs.declared.write_order.Refusal.{Refusal}
use Rattle.gix_odb_loose.specs.declared.write_order.WriteStage.TheVariants as stages
use Rattle.gix_odb.specs.CallOrder.{result_of_write}
use Rattle.gix_odb_calls.specs.declared.call.Reply.{Reply}
use Rattle.gix_odb_calls.specs.declared.call.Reply.TheVariants as replies
use Rattle.gix_odb_calls.specs.declared.step.Outcome.{Outcome}
use Rattle.gix_odb_calls.specs.declared.step.Outcome.TheVariants as outcomes
use Rattle.gix_odb_calls.specs.declared.step.Step.{Step}
use Rattle.gix_odb_calls.specs.declared.step.Step.TheVariants as steps
use Rattle.gix_odb_history.specs.Event.{Asked}
use Rattle.gix_odb_world.specs.Status.{Store, Status, replied, status_after}
use Rattle.gix_odb_world.specs.Running.Write.{write_at}
use Rattle.gix_odb_history.specs.Writing.{ToWrite}
use Rattle.gix_odb_world.proofs.FileSteps.AtWrite.{AtWrite, ended}

-- a write that removes its file ends with the turn
pub removing_ends : (w : ToWrite) (number : ℕ) (refusal : Refusal) (answer : DiskAnswer)
    → (reply : Reply) × (result_of_write (loose_order.fed (write_at w (stages.Removing number refusal)) answer) ≡ Ok reply)
removing_ends w number refusal answer = (_, refl)

-- a write that gives the object its name does too
pub moving_ends : (w : ToWrite) (number : ℕ) (id : ObjectId)
    → result_of_write (loose_order.fed (write_at w (stages.Moving number id)) answers.Done) ≡ Ok (replies.Wrote id)
moving_ends w number id = refl

pub no_write_after : (store : Store) (begun number : ℕ) (step : Step) (outcome : Outcome) (asked : Asked) (table : ℕ → Status) (handle : ℕ) (reply : Reply)
    → step ≡ steps.Turn handle → outcome ≡ outcomes.Reply reply → ¬ (AtWrite store begun (status_after number step outcome asked table handle))
no_write_after store begun number step outcome asked table handle reply turn is at =
    let here : AtWrite store begun (status_after number (steps.Turn handle) (outcomes.Reply reply) asked table handle) =
    subst (λ o. AtWrite store begun (status_after number (steps.Turn handle) o asked table handle)) is (subst (λ s. AtWrite store begun (status_after number s outcome asked table handle)) turn at) in
    ended store begun asked reply (table handle) (subst (λ b. AtWrite store begun (if b then replied asked reply (table handle) else table handle)) (eq-eqb handle handle refl) here)
