-- Which answers an ask may have.
use Rattle.std.specs.Prelude.{◌≡◌, Some, Ok, Err}
use Rattle.gix_odb_events.specs.Answers.{view_in}
use Rattle.gix_odb_events.specs.declared.event.Effect.TheVariants as effects
use Rattle.gix_odb_events.specs.declared.event.Event.TheVariants as events
use Rattle.gix_odb_events.specs.declared.view.View.{View}
use Rattle.gix_odb_events.specs.declared.answer.Answer.{Answer}
use Rattle.gix_odb_events.specs.declared.answer.Answer.TheVariants as told
use Rattle.gix_odb_events.specs.declared.answer.Ask.{Ask}
use Rattle.gix_odb_events.specs.declared.answer.Ask.TheVariants as asks

-- an answer is of the kind of its ask: calls of the disk are answered by the disk, events by the core, and a new core by that core; a read of the
-- core's state by a view and a listing by its result, unless the event is refused
abbrev pub IsAnswerTo : Ask → Answer → Type 0
IsAnswerTo (asks.Disk ask) (told.Disk answer) = Unit {0}
IsAnswerTo (asks.Core event) (told.Core (Err refusal)) = Unit {0}
IsAnswerTo (asks.Core events.Look) (told.Core (Ok effect)) = (view : View) × (view_in (Ok effect) ≡ Some view)
IsAnswerTo (asks.Core (events.Publish listing)) (told.Core (Ok (effects.Published view))) = Unit {0}
IsAnswerTo (asks.Core (events.Publish listing)) (told.Core (Ok (effects.Unchanged view))) = Unit {0}
IsAnswerTo (asks.Core (events.Publish listing)) (told.Core (Ok (effects.Outdated number))) = Unit {0}
IsAnswerTo (asks.Core (events.Publish listing)) (told.Core (Ok effect)) = ⊥
IsAnswerTo (asks.Core event) (told.Core (Ok effect)) = Unit {0}
IsAnswerTo (asks.NewCore slots folders) (told.Core answer) = Unit {0}
IsAnswerTo ask answer = ⊥
