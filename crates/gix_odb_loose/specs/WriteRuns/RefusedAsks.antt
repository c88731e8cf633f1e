-- Which answers refused the asks of a write.
use Rattle.std.specs.Prelude.{◌≡◌, ◌⊎◌, List, Contains, Option, IfSome}
use Rattle.odb_disk.specs.Tree.{State}
use Rattle.odb_disk.specs.declared.ask.DiskAsk.{DiskAsk}
use Rattle.odb_disk.specs.declared.ask.DiskAnswer.{DiskAnswer}
use Rattle.odb_disk.specs.declared.ask.DiskAnswer.TheVariants as answers
use Rattle.odb_disk.specs.declared.disk_error.DiskError.{DiskError}
use Rattle.odb_disk.specs.declared.disk_error.DiskError.TheVariants as disk_errors
use Rattle.gix_odb_loose.specs.Exchanges.{Exchange, exchanged}
use Rattle.gix_odb_loose.specs.WriteHistory.Refused.{IsRefused}

-- a part of the way is absent, of the wrong kind or a link loop
abbrev pub IsOnWay : DiskError → Type 0
IsOnWay disk_errors.Absent = Unit {0}
IsOnWay disk_errors.WrongKind = Unit {0}
IsOnWay disk_errors.LinkLoop = Unit {0}
IsOnWay disk_errors.Exists = ⊥
IsOnWay disk_errors.NotEmpty = ⊥
IsOnWay disk_errors.Failed = ⊥
IsOnWay disk_errors.NoMemory = ⊥

-- An answer refuses by a failure, which the count of faults shows, or by the way. The answers of a disk that doesn't report its
-- state aren't known.
abbrev pub RefusesBy : Option State → (Failed : Type 0) → DiskAnswer → Type 0
RefusesBy state Failed answer = ((answer ≡ answers.Refused disk_errors.Failed) × Failed) ⊎ IfSome state (λ _. (error : DiskError) × IsOnWay error × (answer ≡ answers.Refused error))

-- this ask was made, and its own answer refused it
abbrev pub Refuses : Option State → (Failed : Type 0) → List Exchange → DiskAsk → Type 0
Refuses state Failed exchanges ask = (answer : DiskAnswer) × Contains exchanges (exchanged ask answer) × IsRefused ask answer × RefusesBy state Failed answer

-- something was there already where an ask was made
abbrev pub FoundThere : List Exchange → DiskAsk → Type 0
FoundThere exchanges ask = Contains exchanges (exchanged ask (answers.Refused disk_errors.Exists))
