-- What a look-up asked and was answered, one after another.
use Rattle.std.specs.Prelude.{◌≡◌, ℕ, ◌+◌, List, [], ◌∷◌, ◌++◌, Option, Some, None, Ok}
use Rattle.odb_base.specs.Path.{Path}
use Rattle.odb_disk.specs.declared.ask.DiskAnswer.{DiskAnswer}
use Rattle.gix_hash.specs.declared.object_id.ObjectId.{ObjectId}
use Rattle.gix_odb_events.specs.declared.event.Effect.TheVariants as effects
use Rattle.gix_odb_events.specs.declared.event.Event.TheVariants as events
use Rattle.gix_odb_events.specs.declared.view.View.{View}
use Rattle.gix_odb_events.specs.declared.answer.Answer.{Answer}
use Rattle.gix_odb_events.specs.declared.answer.Answer.TheVariants as told
use Rattle.gix_odb_events.specs.declared.answer.Ask.{Ask}
use Rattle.gix_odb_events.specs.declared.answer.Ask.TheVariants as asks
use Rattle.gix_odb_calls.specs.Verdict.{asking, folder_ask, folder_verdict}
use Rattle.gix_object.specs.declared.want.Want.{Want}
use Rattle.gix_odb_calls.specs.declared.verdict.Verdict.{Verdict}
pub use Rattle.gix_odb_events.specs.Asks.{IsAnswerTo}
pub use Rattle.gix_odb.specs.Exchange.{Exchange, AreAnswered, HasFailed, WasTold}
use Rattle.gix_odb.specs.LookUpOrder.{Setting, ask_of, fed, view_of}
use Rattle.gix_odb.specs.declared.look_up.LookUp.{LookUp}

-- the look-up after exchanges
abbrev pub behind : Setting → LookUp → List Exchange → LookUp
behind setting look [] = look
behind setting look (exchange ∷ exchanges) = behind setting (fed setting look exchange.answer) exchanges

-- each exchange answers what the look-up asked then
abbrev pub AreAsked : Setting → LookUp → List Exchange → Type 0
AreAsked setting look [] = Unit {0}
AreAsked setting look (exchange ∷ exchanges) = (ask_of look ≡ Some exchange.ask) × AreAsked setting (fed setting look exchange.answer) exchanges

-- ---- what exchanges show

-- this one is the last of them
abbrev pub IsLast : List Exchange → Exchange → Type 0
IsLast exchanges exchange = (earlier : List Exchange) × (exchanges ≡ earlier ++ exchange ∷ [])

-- the loose objects of a folder were asked for an object in one of them, and the verdict on the answer is this one
pub record HasVerdict (setting : Setting) (want : Want) (id : ObjectId) (exchanges : List Exchange) (folder : Path) (verdict : Verdict) : Type 0 where
  pub answer : DiskAnswer
  pub told : WasTold exchanges (asks.Disk (folder_ask (asking setting.parts.alloc_limit_bytes want id folder))) (told.Disk answer)
  pub is : folder_verdict (asking setting.parts.alloc_limit_bytes want id folder) answer ≡ verdict

-- the number of the list in a view, or else another
abbrev pub number_or : Option ℕ → Option View → Option ℕ
number_or other None = other
number_or other (Some view) = Some view.list_no

-- the number of the list in the first view that was passed, if one was
abbrev pub first_number : List Exchange → Option ℕ
first_number [] = None
first_number (exchange ∷ exchanges) = number_or (first_number exchanges) (view_of exchange.answer)

-- how many lists were published in them
abbrev pub is_publish : Ask → Answer → ℕ
is_publish (asks.Core (events.Publish listing)) (told.Core (Ok (effects.Published view))) = 1
is_publish ask answer = 0

abbrev pub published_in : List Exchange → ℕ
published_in [] = 0
published_in (exchange ∷ exchanges) = is_publish exchange.ask exchange.answer + published_in exchanges
