-- How a query ends whose object is in its snapshot.
use Rattle.std.specs.Prelude.{◌≡◌}
use Rattle.gix_odb_calls.specs.declared.call.Reply.{Reply}
use Rattle.gix_odb_calls.specs.declared.query.Query.{Query}
use Rattle.gix_odb_calls.specs.declared.step.Outcome.TheVariants as outcomes
use Rattle.gix_odb.specs.LookUpOrder.{not_found}
use Rattle.gix_odb.specs.AtHand.{SaysYes}
use Rattle.gix_odb_history.specs.Event.{Event, OfNothing}
use Rattle.gix_odb_history.specs.declared.record.Did.TheVariants.{Nothing}

-- In an event a query ended: it asked for nothing and did nothing, and its reply isn't "not found". A test is answered with yes.
pub record EndsUnasked (query : Query) (e : Event) : Type 0 where
  pub reply : Reply
  pub ends : e.outcome ≡ outcomes.Reply reply
  pub asked : e.asked ≡ OfNothing
  pub did : e.entry.did ≡ Nothing
  pub found : ¬ (reply ≡ not_found query.want)
  pub says_yes : SaysYes query.want reply
