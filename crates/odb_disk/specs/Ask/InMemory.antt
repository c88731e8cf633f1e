-- What a disk in memory answers to a call that is given as a value, and how it is afterwards.
use Rattle.std.specs.Prelude.{◌≡◌, ◌↔◌, Bool, true, false, ◌&&◌, if◌then◌else◌}
use Rattle.odb_disk.specs.Tree.{Tree, tree_of}
use Rattle.odb_disk.specs.Tree.Write.{written}
use Rattle.odb_disk.specs.MemDisk.{Volume, next_fails, after_call}
use Rattle.odb_disk.specs.Streams.{Streams, IsLeastClosed, still_gives}
use Rattle.odb_disk.specs.Entries.{opened}
use Rattle.odb_disk.specs.StreamAsks.{least_closed, streams_after}
use Rattle.odb_disk.specs.declared.disk_error.DiskError.TheVariants as errors
use Rattle.odb_disk.specs.declared.ask.DiskAsk.{DiskAsk}
use Rattle.odb_disk.specs.declared.ask.DiskAsk.TheVariants as asks
use Rattle.odb_disk.specs.declared.ask.DiskAnswer.{DiskAnswer}
use Rattle.odb_disk.specs.declared.ask.DiskAnswer.TheVariants as answers
use Rattle.odb_disk.specs.Ask.Answer.{answer_of, dir_answer, entry_answer, change_of_ask}

-- ---- what it answers

-- what a disk with a tree and streams answers to a call, if it gives a new stream the least number
abbrev pub answer_in : Tree → Streams → DiskAsk → DiskAnswer
answer_in tree streams (asks.OpenDir path) = dir_answer (least_closed streams) (opened tree path)
answer_in tree streams (asks.NextEntry dir) = entry_answer (still_gives streams dir)
answer_in tree streams ask = answer_of tree ask

-- whether a call has a number: a close has none, and never fails
abbrev pub is_counted : DiskAsk → Bool
is_counted (asks.CloseDir dir) = false
is_counted ask = true

-- whether a call of a disk in memory fails now
abbrev pub fails_now : Volume → DiskAsk → Bool
fails_now disk ask = is_counted ask && next_fails disk

-- what a disk in memory answers now: what its tree and its streams answer, unless the call fails
abbrev pub answer_now : Volume → DiskAsk → DiskAnswer
answer_now disk ask = if fails_now disk ask then answers.Refused errors.Failed else answer_in (tree_of disk.state) disk.streams ask

-- ---- how it is afterwards

-- a disk in memory after a call was counted
abbrev pub after_count : Volume → DiskAsk → Volume
after_count disk ask = if is_counted ask then after_call disk else disk

-- the streams after a call with this answer: one that fails changes none
abbrev pub streams_left : Tree → Streams → DiskAsk → DiskAnswer → Streams
streams_left tree streams ask (answers.Refused error) = streams
streams_left tree streams ask answer = streams_after tree streams ask

-- a disk in memory after a call: the call is counted, and changes the tree and the streams unless it fails
unfoldable pub after_ask : Volume → DiskAsk → Volume
after_ask disk ask = record (after_count disk ask) {
  state = if fails_now disk ask then disk.state else written disk.state (change_of_ask (tree_of disk.state) ask);
  streams = if fails_now disk ask then disk.streams else streams_after (tree_of disk.state) disk.streams ask;
}

-- ---- what each call keeps to

-- a stream that is opened has the least number that no open one has
abbrev pub TakesLeast : Streams → DiskAnswer → Type 0
TakesLeast streams (answers.Dir dir) = IsLeastClosed streams.open_dirs dir
TakesLeast streams answer = Unit {0}

-- A disk in memory was asked, answered and is another one afterwards: the call is counted, it fails exactly if its number
-- is listed, and a stream that it opens has the least number.
pub record IsCounted (old : Volume) (ask : DiskAsk) (answer : DiskAnswer) (new : Volume) : Type 0 where
  -- one more call, and one more failed call if it failed; a close has no number
  pub counted : new.calls ≡ (after_count old ask).calls
  -- a close never fails
  pub failed : (answer ≡ answers.Refused errors.Failed) ↔ (fails_now old ask ≡ true)
  -- so the number is known before the call
  pub least : TakesLeast old.streams answer
