-- The stream that a look-up reads, as its exchanges show it.
use Rattle.std.specs.Prelude.{ℕ, List, [], ◌∷◌, ◌++◌, Option, Some, None}
use Rattle.odb_base.specs.Path.{Path}
use Rattle.odb_disk.specs.declared.ask.DiskAnswer.{DiskAnswer}
use Rattle.odb_disk.specs.declared.ask.DiskAnswer.TheVariants as disk_answers
use Rattle.odb_disk.specs.declared.ask.DiskAsk.TheVariants as disk_asks
use Rattle.odb_disk.specs.declared.entry.Entry.{Entry}
use Rattle.gix_odb_events.specs.declared.answer.Answer.{Answer}
use Rattle.gix_odb_events.specs.declared.answer.Answer.TheVariants as told
use Rattle.gix_odb_events.specs.declared.answer.Ask.{Ask}
use Rattle.gix_odb_events.specs.declared.answer.Ask.TheVariants as asks
use Rattle.gix_odb.specs.Exchange.{Exchange}

-- the folder that was opened last, the number of its stream, and the entries that it gave since
pub record Stream : Type 0 where
  pub folder : Path
  pub dir : ℕ
  pub entries : List Entry

abbrev pub opens : Path → DiskAnswer → Option Stream
opens folder (disk_answers.Dir dir) = Some (record { folder = folder; dir = dir; entries = [] })
opens folder answer = None

abbrev pub reads : Option Stream → DiskAnswer → Option Stream
reads (Some stream) (disk_answers.Entry entry) = Some (record stream { entries = stream.entries ++ entry ∷ [] })
reads before answer = before

-- the stream after one more exchange: none where it was closed, or where a folder wasn't opened
abbrev pub stream_by : Option Stream → Ask → Answer → Option Stream
stream_by before (asks.Disk (disk_asks.OpenDir folder)) (told.Disk answer) = opens folder answer
stream_by before (asks.Disk (disk_asks.NextEntry dir)) (told.Disk answer) = reads before answer
stream_by before (asks.Disk (disk_asks.CloseDir dir)) (told.Disk answer) = None
stream_by before ask answer = before

abbrev pub stream_from : Option Stream → List Exchange → Option Stream
stream_from before [] = before
stream_from before (exchange ∷ exchanges) = stream_from (stream_by before exchange.ask exchange.answer) exchanges

-- the stream that was opened last and is still open
abbrev pub stream_in : List Exchange → Option Stream
stream_in exchanges = stream_from None exchanges
