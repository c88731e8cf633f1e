-- What is asked and answered, one after another.
use Rattle.std.specs.Prelude.{◌≡◌, List, [], ◌∷◌, Contains}
use Rattle.odb_disk.specs.declared.disk_error.DiskError.TheVariants as disk_errors
use Rattle.odb_disk.specs.declared.ask.DiskAnswer.TheVariants as disk_answers
use Rattle.gix_odb_events.specs.declared.answer.Answer.{Answer}
use Rattle.gix_odb_events.specs.declared.answer.Answer.TheVariants as told
use Rattle.gix_odb_events.specs.declared.answer.Ask.{Ask}
pub use Rattle.gix_odb_events.specs.Asks.{IsAnswerTo}

-- one ask and its answer
pub record Exchange : Type 0 where
  pub ask : Ask
  pub answer : Answer

abbrev pub AreAnswered : List Exchange → Type 0
AreAnswered [] = Unit {0}
AreAnswered (exchange ∷ exchanges) = IsAnswerTo exchange.ask exchange.answer × AreAnswered exchanges

-- ---- what exchanges show

-- a call of the disk failed in one of them
pub record HasFailed (exchanges : List Exchange) : Type 0 where
  pub exchange : Exchange
  pub among : Contains exchanges exchange
  pub failed : exchange.answer ≡ told.Disk (disk_answers.Refused disk_errors.Failed)

-- one of them has this ask and this answer
abbrev pub WasTold : List Exchange → Ask → Answer → Type 0
WasTold exchanges ask answer = Contains exchanges (record { ask = ask; answer = answer })
