use Rattle.std.proofs.Common.{sym, subst}
use Rattle.gix_odb_events.specs.declared.answer.Answer.TheVariants as told
use Rattle.gix_odb_events.specs.declared.answer.Ask.TheVariants as asks
use Rattle.gix_odb_events.specs.declared.event.Event.{Event}
use Rattle.gix_odb_events.specs.Asks.{IsAnswerTo}
use Rattle.pack_find_tests.proofs.happening.happen_for.Goals as goal

-- a listing that is published
pub returns-in-Publish : goal.returns-in-Publish
returns-in-Publish c = record {
  suits = subst (λ (event : Event). IsAnswerTo (asks.Core event) (told.Core c.published.result)) (sym c.in-Publish.is) (c.published.ensures.suits c.in-Publish.listing);
}
