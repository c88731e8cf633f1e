-- What refuses an ask of a write, what exchanges show of that, and the cause of an error in them.
use Rattle.std.specs.Prelude.{◌≡◌, ℕ, List, [], ◌∷◌, ◌++◌, Contains}
use Rattle.odb_disk.specs.declared.ask.DiskAsk.{DiskAsk}
use Rattle.odb_disk.specs.declared.ask.DiskAsk.TheVariants as asks
use Rattle.odb_disk.specs.declared.ask.DiskAnswer.{DiskAnswer}
use Rattle.odb_disk.specs.declared.ask.DiskAnswer.TheVariants as answers
use Rattle.odb_disk.specs.declared.disk_error.DiskError.TheVariants as disk_errors
use Rattle.gix_hash.specs.declared.object_id.ObjectId.{ObjectId}
use Rattle.gix_odb_loose.specs.Causes.{WriteCause}
use Rattle.gix_odb_loose.specs.Exchanges.{Exchange, exchanged}
use Rattle.gix_odb_loose.specs.WriteOrder.{temp_path}
use Rattle.gix_odb_loose.specs.declared.write.Error.{Error}
use Rattle.gix_odb_loose.specs.declared.write_order.WriteHead.{WriteHead}
use Rattle.gix_odb_loose.specs.WriteHistory.WentWell.{IsFilled}

-- Exists refuses neither a new file (the next name is tried) nor a directory
abbrev pub IsRefusedByExists : DiskAsk → Type 0
IsRefusedByExists (asks.NewFile path) = ⊥
IsRefusedByExists (asks.MakeDir path) = ⊥
IsRefusedByExists ask = Unit {0}

-- an answer refuses an ask, other than by running out of memory
abbrev pub IsRefused : DiskAsk → DiskAnswer → Type 0
IsRefused ask answers.Done = ⊥
IsRefused ask (answers.Refused disk_errors.NoMemory) = ⊥
IsRefused ask (answers.Refused disk_errors.Exists) = IsRefusedByExists ask
IsRefused ask answer = Unit {0}

abbrev pub RefusedIn : List Exchange → DiskAsk → Type 0
RefusedIn past ask = (answer : DiskAnswer) × Contains past (exchanged ask answer) × IsRefused ask answer

abbrev pub TakenIn : List Exchange → DiskAsk → Type 0
TakenIn past ask = Contains past (exchanged ask (answers.Refused disk_errors.Exists))

abbrev pub DoneIn : List Exchange → DiskAsk → Type 0
DoneIn past ask = Contains past (exchanged ask answers.Done)

abbrev pub WantedIn : List Exchange → Type 0
WantedIn past = (ask : DiskAsk) × Contains past (exchanged ask (answers.Refused disk_errors.NoMemory))

-- The source of the data failed after what was appended, and then the temporary file was asked to be removed.
pub record IsFailedRead (head : WriteHead) (past : List Exchange) : Type 0 where
  pub number : ℕ
  pub appended : List ℕ
  pub before : List Exchange
  pub answer : DiskAnswer
  pub filled : IsFilled head number appended before
  pub removed : past ≡ before ++ exchanged (asks.Remove (temp_path head.objects number)) answer ∷ []

-- an error has its cause in the exchanges, or in the source
abbrev pub HasCauseIn : WriteHead → (Named : ObjectId → Type 0) (SourceFailed : Type 0) (Counted : ℕ → Type 0) → List Exchange → Error → Type 0
HasCauseIn head Named SourceFailed Counted past error = WriteCause head Named (RefusedIn past) (TakenIn past) (DoneIn past) SourceFailed (WantedIn past) Counted error
