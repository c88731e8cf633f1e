-- Which answers each ask has.
use Rattle.std.specs.Prelude.{◌≡◌, List, Contains}
use Rattle.odb_disk.specs.declared.ask.DiskAnswer.{DiskAnswer}
use Rattle.odb_disk.specs.declared.ask.DiskAnswer.TheVariants as disk_answers
use Rattle.odb_disk.specs.declared.ask.DiskAsk.{DiskAsk}
use Rattle.odb_disk.specs.declared.ask.DiskAsk.TheVariants as disk_asks
use Rattle.odb_disk.specs.declared.disk_error.DiskError.{DiskError}
use Rattle.odb_disk.specs.declared.disk_error.DiskError.TheVariants as disk_errors
use Rattle.gix_odb_events.specs.declared.answer.Answer.{Answer}
use Rattle.gix_odb_events.specs.declared.answer.Answer.TheVariants as told
use Rattle.gix_odb_events.specs.declared.answer.Ask.{Ask}
use Rattle.gix_odb_events.specs.declared.answer.Ask.TheVariants as asks
use Rattle.gix_odb.specs.Exchange.{Exchange, IsAnswerTo}

-- why a path can't be read, statted or opened
abbrev pub IsRefusal : DiskError → Type 0
IsRefusal disk_errors.Absent = Unit {0}
IsRefusal disk_errors.WrongKind = Unit {0}
IsRefusal disk_errors.LinkLoop = Unit {0}
IsRefusal disk_errors.Failed = Unit {0}
IsRefusal error = ⊥

-- An answer is one of those that a call of the disk has, where a stream that is read on is open. A close never fails.
abbrev pub Suits : DiskAsk → DiskAnswer → Type 0
Suits (disk_asks.Read path) (disk_answers.File bytes time) = Unit {0}
Suits (disk_asks.Read path) (disk_answers.Refused error) = IsRefusal error
Suits (disk_asks.Read path) answer = ⊥
Suits (disk_asks.Look path follow) (disk_answers.Meta meta) = Unit {0}
Suits (disk_asks.Look path follow) (disk_answers.Refused error) = IsRefusal error
Suits (disk_asks.Look path follow) answer = ⊥
Suits (disk_asks.OpenDir path) (disk_answers.Dir dir) = Unit {0}
Suits (disk_asks.OpenDir path) (disk_answers.Refused error) = IsRefusal error
Suits (disk_asks.OpenDir path) answer = ⊥
Suits (disk_asks.NextEntry dir) (disk_answers.Entry entry) = Unit {0}
Suits (disk_asks.NextEntry dir) disk_answers.End = Unit {0}
Suits (disk_asks.NextEntry dir) (disk_answers.Refused error) = error ≡ disk_errors.Failed
Suits (disk_asks.NextEntry dir) answer = ⊥
Suits (disk_asks.CloseDir dir) answer = answer ≡ disk_answers.Done
Suits ask answer = Unit {0}

-- an answer is one that its call of the disk has, and of the kind of its ask
abbrev pub IsSuited : Ask → Answer → Type 0
IsSuited (asks.Disk ask) (told.Disk answer) = Suits ask answer
IsSuited ask answer = IsAnswerTo ask answer

abbrev pub AreSuited : List Exchange → Type 0
AreSuited exchanges = (exchange : Exchange) → Contains exchanges exchange → IsSuited exchange.ask exchange.answer
