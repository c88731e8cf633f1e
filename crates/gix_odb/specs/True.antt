-- What true exchanges with a disk and a core say.
use Rattle.std.specs.Prelude.{◌≡◌, ℕ, List, Contains, Some}
use Rattle.odb_base.specs.Path.{Path}
use Rattle.odb_disk.specs.declared.ask.DiskAnswer.{DiskAnswer}
use Rattle.odb_disk.specs.declared.ask.DiskAnswer.TheVariants as disk_answers
use Rattle.odb_disk.specs.declared.ask.DiskAsk.{DiskAsk}
use Rattle.odb_disk.specs.declared.ask.DiskAsk.TheVariants as disk_asks
use Rattle.gix_hash.specs.declared.kind.Kind.{Kind}
use Rattle.gix_odb_events.specs.declared.view.View.{View}
use Rattle.gix_odb_events.specs.declared.answer.Answer.{Answer}
use Rattle.gix_odb_events.specs.declared.answer.Answer.TheVariants as told
use Rattle.gix_odb_events.specs.declared.answer.Ask.{Ask}
use Rattle.gix_odb_events.specs.declared.answer.Ask.TheVariants as asks
use Rattle.gix_odb.specs.LookExchanges.{Exchange, IsAnswerTo}
use Rattle.gix_odb.specs.LookUpOrder.{Setting, view_of}
use Rattle.gix_odb.specs.Shown.{IsShownView}
pub use Rattle.gix_odb.specs.Suited.{IsRefusal, Suits}

-- Here `Shown path time bytes` says that a file with these bytes and this time was shown at this path since the store was opened.

-- a file that was read was shown
abbrev pub ShowsRead : (Shown : Path → ℕ → List ℕ → Type 0) → DiskAsk → DiskAnswer → Type 0
ShowsRead Shown (disk_asks.Read path) (disk_answers.File bytes time) = Shown path time bytes
ShowsRead Shown ask answer = Unit {0}

-- and so was what an exchange read
abbrev pub IsReadShown : (Shown : Path → ℕ → List ℕ → Type 0) → Ask → Answer → Type 0
IsReadShown Shown (asks.Disk ask) (told.Disk answer) = ShowsRead Shown ask answer
IsReadShown Shown ask answer = Unit {0}

module _ (Shown : Path → ℕ → List ℕ → Type 0) (setting : Setting) (hash : Kind) where
  -- an exchange is true, which no answer of another kind than its ask is
  abbrev pub IsTrue : Ask → Answer → Type 0
  IsTrue (asks.Disk ask) (told.Disk answer) = Suits ask answer × ShowsRead Shown ask answer
  IsTrue (asks.Core event) (told.Core answer) = (view : View) → view_of (told.Core answer) ≡ Some view → IsShownView Shown setting hash view
  IsTrue (asks.NewCore slots folders) (told.Core answer) = (view : View) → view_of (told.Core answer) ≡ Some view → IsShownView Shown setting hash view
  IsTrue ask answer = IsAnswerTo ask answer

  abbrev pub AreTrue : List Exchange → Type 0
  AreTrue exchanges = (exchange : Exchange) → Contains exchanges exchange → IsTrue exchange.ask exchange.answer
