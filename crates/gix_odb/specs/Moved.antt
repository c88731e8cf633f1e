-- An object that is loose up to an exchange of a look-up, and lies in a pack from then on.
use Rattle.std.specs.Prelude.{◌≡◌, true, List, Contains, Some}
use Rattle.odb_base.specs.Path.{Path}
use Rattle.odb_disk.specs.declared.ask.DiskAnswer.{DiskAnswer}
use Rattle.gix_hash.specs.declared.object_id.ObjectId.{ObjectId}
use Rattle.gix_odb_events.specs.declared.view.View.{View}
use Rattle.gix_odb_events.specs.declared.answer.Answer.{Answer}
use Rattle.gix_odb_events.specs.declared.answer.Answer.TheVariants as told
use Rattle.gix_odb_events.specs.declared.answer.Ask.{Ask}
use Rattle.gix_odb_events.specs.declared.answer.Ask.TheVariants as asks
use Rattle.gix_odb_calls.specs.Verdict.{asking, folder_ask, folder_verdict}
use Rattle.gix_odb_calls.specs.declared.call.Reply.{Reply}
use Rattle.gix_object.specs.declared.want.Want.{Want}
use Rattle.gix_odb_calls.specs.declared.verdict.Verdict.TheVariants as verdicts
use Rattle.gix_odb.specs.LookExchanges.{Exchange, IsAnswerTo}
use Rattle.gix_odb.specs.LookUpOrder.{Setting, view_of}
use Rattle.gix_odb.specs.Reply.{IsAnswer}

-- each view that exchanges pass is of a core that had published a list
abbrev pub ArePublished : List Exchange → Type 0
ArePublished exchanges = (exchange : Exchange) → Contains exchanges exchange → (view : View) → view_of exchange.answer ≡ Some view → view.read ≡ true

module _ (setting : Setting) (want : Want) (id : ObjectId) (folder : Path) where
  -- the loose objects of the folder, asked for what is wanted, have the object, by this answer of the disk
  pub record HasLoose (answer : DiskAnswer) : Type 0 where
    pub told : Reply
    pub says : folder_verdict (asking setting.parts.alloc_limit_bytes want id folder) answer ≡ verdicts.Ends told
    pub found : IsAnswer told

  -- an exchange is fair to the loose object of the folder: where its call is the one by which it is asked for, the answer has it
  abbrev pub IsLooseFair : Ask → Answer → Type 0
  IsLooseFair (asks.Disk ask) (told.Disk answer) = folder_ask (asking setting.parts.alloc_limit_bytes want id folder) ≡ ask → HasLoose answer
  IsLooseFair ask answer = IsAnswerTo ask answer

  abbrev pub AreLooseFair : List Exchange → Type 0
  AreLooseFair exchanges = (exchange : Exchange) → Contains exchanges exchange → IsLooseFair exchange.ask exchange.answer
