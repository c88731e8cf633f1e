-- What a machine that may be done is fed.
use Rattle.std.specs.Prelude.{◌≡◌, Option, Some, None}
use Rattle.odb_disk.specs.declared.ask.DiskAsk.{DiskAsk}
use Rattle.gix_odb_events.specs.Asks.{IsAnswerTo}
use Rattle.gix_odb_events.specs.declared.answer.Answer.{Answer}
use Rattle.gix_odb_events.specs.declared.answer.Ask.{Ask}
use Rattle.gix_odb_events.specs.declared.answer.Ask.TheVariants as asks

-- an answer is one that what is asked for can have. A machine that asks for nothing is fed nothing
abbrev pub IsAnswerOf : Option Ask → Answer → Type 0
IsAnswerOf None answer = ⊥
IsAnswerOf (Some ask) answer = IsAnswerTo ask answer

-- what is asked for is a call of the disk
abbrev pub IsDiskAsk : Option Ask → Type 0
IsDiskAsk ask = (own : DiskAsk) × (ask ≡ Some (asks.Disk own))
