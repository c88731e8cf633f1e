-- What a core answers: of which kind, and with which number of the list.
use Rattle.std.proofs.Common.{◌≡◌, ℕ, ◌+◌, ◌≤◌, Bool, true, false, cond, ◌==◌, List, Option, Some, None, Ok, Err, refl, sym, ap}
use Rattle.gix_odb_core.specs.Files.{slot_with_index, slot_with_pack}
use Rattle.gix_odb_events.specs.Slots.{slot_at}
use Rattle.gix_odb_events.specs.declared.slot.Filled.{Filled}
use Rattle.gix_odb_events.specs.Answers as core
use Rattle.gix_odb_core.specs.Replay.{answer_of, publish_answer, put_answer}
use Rattle.gix_odb_core.specs.Steps.{Publishing, Outdated, TooFew, Overflows, Unchanged, Published, after, publishing}
use Rattle.gix_odb_events.specs.View.{last_state}
use Rattle.gix_odb_core.specs.Views.{view_of}
use Rattle.gix_odb_events.specs.declared.event.Effect.TheVariants as effects
use Rattle.gix_odb_events.specs.declared.event.Event.{Event}
use Rattle.gix_odb_events.specs.declared.event.Event.TheVariants as events
use Rattle.gix_odb_events.specs.declared.event.Refusal.TheVariants as refusals
use Rattle.gix_odb_core.specs.declared.journal.Entry.{Entry}
use Rattle.gix_odb_core.specs.declared.shape.Shape.{Shape}
use Rattle.gix_odb_events.specs.declared.view.View.{View}
use Rattle.gix_odb_events.specs.declared.answer.Answer.TheVariants as told
use Rattle.gix_odb_events.specs.declared.answer.Ask.TheVariants as asks
use Rattle.gix_odb.specs.LookExchanges.{IsAnswerTo}
use Rattle.gix_odb.specs.Laps.{Follows, number_by}
use Rattle.gix_odb_world.proofs.CoreLaws.Shapes.{publishing_comes_to}

module _ (entries : List Entry) (shape : Shape) (number seat : ℕ) where
  -- ---- of which kind it is

  module _ (now : Shape) (Asked : core.Answer → Type 0) (put : (view : View) (stored : Bool) → Asked (Ok (effects.Put view stored)))
      (overflows : Asked (Err refusals.GenerationOverflow)) where
    put_comes_to : (filled : Option Filled) → Asked (put_answer shape now number filled)
    put_comes_to None = put (view_of now number) false
    put_comes_to (Some filled) = by (shape.state_id == last_state)
      where
        by : (b : Bool) → Asked (cond b (Err refusals.GenerationOverflow) (Ok (effects.Put (view_of now number) true)))
        by true = overflows
        by false = put (view_of now number) true

  -- it suits its event
  pub answer_suits_its_event : (event : Event) → IsAnswerTo (asks.Core event) (told.Core (answer_of entries shape number seat event))
  answer_suits_its_event (events.Register stable) = tt
  answer_suits_its_event events.Upgrade = tt
  answer_suits_its_event events.Remove = tt
  answer_suits_its_event events.Look = (view_of shape number, refl)
  answer_suits_its_event events.Report = tt
  answer_suits_its_event (events.PutIndex slot path file) =
      put_comes_to (after shape seat (events.PutIndex slot path file))
      (λ answer. IsAnswerTo (asks.Core (events.PutIndex slot path file)) (told.Core answer)) (λ view stored. tt) tt
      (slot_with_index path file (slot_at shape.slots slot))
  answer_suits_its_event (events.PutPack pack path file) =
      put_comes_to (after shape seat (events.PutPack pack path file))
      (λ answer. IsAnswerTo (asks.Core (events.PutPack pack path file)) (told.Core answer)) (λ view stored. tt) tt
      (slot_with_pack path file (slot_at shape.slots pack.index))
  answer_suits_its_event (events.PassOver slot path why) = tt
  answer_suits_its_event (events.Publish listing) = by (publishing shape listing)
    where
      by : (p : Publishing) → IsAnswerTo (asks.Core (events.Publish listing)) (told.Core (publish_answer shape number p))
      by Outdated = tt
      by (TooFew needed) = tt
      by Overflows = tt
      by (Unchanged now) = tt
      by (Published now) = tt

  -- ---- its number

  -- the answer to an outdated listing has the number of the list
  pub outdated_tells_the_number : (event : Event) (other : ℕ) → answer_of entries shape number seat event ≡ Ok (effects.Outdated other) → shape.list_no ≡ other
  outdated_tells_the_number (events.Register stable) other is = absurd cc
  outdated_tells_the_number events.Upgrade other is = absurd cc
  outdated_tells_the_number events.Remove other is = absurd cc
  outdated_tells_the_number events.Look other is = absurd cc
  outdated_tells_the_number events.Report other is = absurd cc
  outdated_tells_the_number (events.PutIndex slot path file) other is =
      put_comes_to (after shape seat (events.PutIndex slot path file)) (λ answer. answer ≡ Ok (effects.Outdated other) → shape.list_no ≡ other)
      (λ view stored no. absurd cc) (λ no. absurd cc)
      (slot_with_index path file (slot_at shape.slots slot)) is
  outdated_tells_the_number (events.PutPack pack path file) other is =
      put_comes_to (after shape seat (events.PutPack pack path file)) (λ answer. answer ≡ Ok (effects.Outdated other) → shape.list_no ≡ other)
      (λ view stored no. absurd cc) (λ no. absurd cc)
      (slot_with_pack path file (slot_at shape.slots pack.index)) is
  outdated_tells_the_number (events.PassOver slot path why) other is = absurd cc
  outdated_tells_the_number (events.Publish listing) other is = by (publishing shape listing) is
    where
      by : (p : Publishing) → publish_answer shape number p ≡ Ok (effects.Outdated other) → shape.list_no ≡ other
      by Outdated is = cc
      by (TooFew needed) is = absurd cc
      by Overflows is = absurd cc
      by (Unchanged now) is = absurd cc
      by (Published now) is = absurd cc

  -- a publish makes the next number of its base, or confirms it
  pub answer_follows_its_base : (before : ℕ) → shape.list_no ≤ last_state → (event : Event) → Follows before event (answer_of entries shape number seat event)
  answer_follows_its_base before below (events.Publish listing) =
      publishing_comes_to (λ p. Follows before (events.Publish listing) (publish_answer shape number p)) shape listing
      (λ differs. ((λ is. differs (sym is)), below)) (λ needed. tt) tt (λ slots same. sym same) (λ slots list renewed same differs. ap (λ n. n + 1) (sym same))
  answer_follows_its_base before below event = tt

-- the number after an answer is that of an outdated listing, that of a view, or the one before
pub number_behind_gives : (P : ℕ → Type 0) (before : ℕ) (answer : core.Answer) → ((number : ℕ) → answer ≡ Ok (effects.Outdated number) → P number)
    → ((view : View) → core.view_in answer ≡ Some view → P view.list_no) → P before → P (number_by before (told.Core answer))
number_behind_gives P before (Err refusal) outdated shows same = same
number_behind_gives P before (Ok (effects.Seen view)) outdated shows same = shows view refl
number_behind_gives P before (Ok (effects.Reported view report)) outdated shows same = shows view refl
number_behind_gives P before (Ok effects.Removed) outdated shows same = same
number_behind_gives P before (Ok (effects.Put view stored)) outdated shows same = shows view refl
number_behind_gives P before (Ok (effects.Published view)) outdated shows same = shows view refl
number_behind_gives P before (Ok (effects.Unchanged view)) outdated shows same = shows view refl
number_behind_gives P before (Ok (effects.Outdated number)) outdated shows same = outdated number refl
