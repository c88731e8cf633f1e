-- A run as a list of events.
use Rattle.std.specs.Prelude.{ℕ, Option, Some, None}
use Rattle.odb_disk.specs.declared.ask.DiskAnswer.{DiskAnswer}
use Rattle.odb_disk.specs.declared.ask.DiskAsk.{DiskAsk}
use Rattle.gix_odb_events.specs.Answers as replays
use Rattle.gix_odb_events.specs.declared.answer.Answer.{Answer}
use Rattle.gix_odb_events.specs.declared.answer.Answer.TheVariants as told
use Rattle.gix_odb_events.specs.declared.event.Event as core
use Rattle.gix_odb_calls.specs.declared.step.Step.{Step}
use Rattle.gix_odb_calls.specs.declared.step.Outcome.{Outcome}
use Rattle.gix_odb_history.specs.declared.record.Record.{Record}

-- an event of a store's core, and the answer of a core to one
abbrev pub CoreEvent : Type 0
CoreEvent = core.Event

abbrev pub CoreAnswer : Type 0
CoreAnswer = replays.Answer

-- The ask of an event, apart from its step: nothing; a call of the disk, with the answer; an event of the core of a store, by
-- the handle with a seat, with the answer; or a new core, with the store's number, the seat that was registered, and the answer.
pub data Asked : Type 0 where
  OfNothing : Asked
  OfDisk : (ask : DiskAsk) (answer : DiskAnswer) → Asked
  OfCore : (store seat : ℕ) (event : CoreEvent) (answer : CoreAnswer) → Asked
  OfNewCore : (slots folders store seat : ℕ) (answer : CoreAnswer) → Asked

-- the answer to the ask, if there is one
abbrev pub answered : Asked → Option Answer
answered OfNothing = None
answered (OfDisk ask answer) = Some (told.Disk answer)
answered (OfCore store seat event answer) = Some (told.Core answer)
answered (OfNewCore slots folders store seat answer) = Some (told.Core answer)

-- a step, its outcome, its record, and its ask
pub record Event : Type 0 where
  pub step : Step
  pub outcome : Outcome
  pub entry : Record
  pub asked : Asked
