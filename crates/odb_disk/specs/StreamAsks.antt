-- The calls of streams as values: what they are answered, and how the streams are afterwards.
use Rattle.std.specs.Prelude.{◌≡◌, ℕ, ◌+◌, max, fold, find, Bool, true, false, not, List, ◌∷◌, Option, Some, unwrap_or, Result, Ok, Err, IfSome}
use Rattle.std.specs.List.{range_with_len}
use Rattle.std.specs.FinMap as finite
use Rattle.odb_base.specs.Path.{Path}
use Rattle.odb_disk.specs.Tree.{Tree, State, tree_of}
use Rattle.odb_disk.specs.Tree.Follow.{Refusal}
use Rattle.odb_disk.specs.Streams.{Streams, AnswersOpen, Opens, GivesFirst, IsAtEnd, Gives, still_gives, is_open, with_stream, with_opened, with_closed}
use Rattle.odb_disk.specs.Entries.{opened}
use Rattle.odb_disk.specs.declared.entry.Entry.{Entry}
use Rattle.odb_disk.specs.declared.ask.DiskAsk.{DiskAsk}
use Rattle.odb_disk.specs.declared.ask.DiskAsk.TheVariants as asks
use Rattle.odb_disk.specs.declared.ask.DiskAnswer.{DiskAnswer}
use Rattle.odb_disk.specs.declared.ask.DiskAnswer.TheVariants as answers

-- whether a call opens a stream, takes from one or closes one
abbrev pub is_of_streams : DiskAsk → Bool
is_of_streams (asks.OpenDir path) = true
is_of_streams (asks.NextEntry dir) = true
is_of_streams (asks.CloseDir dir) = true
is_of_streams ask = false

-- ---- on any disk

-- an opening gave a new stream, or failed and changed none
abbrev pub OpensAs : Option State → Path → Streams → Streams → DiskAnswer → Type 0
OpensAs state path old new (answers.Dir dir) = Opens state path old new dir
OpensAs state path old new (answers.Refused error) = (new ≡ old) × IfSome state (λ s. AnswersOpen (Err error) (opened (tree_of s) path))
OpensAs state path old new answer = ⊥

-- a stream gave its first entry or its end, or the call failed and took nothing
abbrev pub GivesAs : Streams → Streams → ℕ → DiskAnswer → Type 0
GivesAs old new dir (answers.Entry entry) = GivesFirst old new dir entry
GivesAs old new dir answers.End = IsAtEnd old new dir
GivesAs old new dir (answers.Refused error) = Gives old new dir (Err error)
GivesAs old new dir answer = ⊥

abbrev pub ClosesAs : Streams → Streams → ℕ → DiskAnswer → Type 0
ClosesAs old new dir answers.Done = new ≡ with_closed old dir
ClosesAs old new dir answer = ⊥

-- what a call of streams was answered, and how the streams are afterwards
abbrev pub AnswersStreams : Option State → Streams → Streams → DiskAsk → DiskAnswer → Type 0
AnswersStreams state old new (asks.OpenDir path) answer = OpensAs state path old new answer
AnswersStreams state old new (asks.NextEntry dir) answer = GivesAs old new dir answer
AnswersStreams state old new (asks.CloseDir dir) answer = ClosesAs old new dir answer
AnswersStreams state old new ask answer = Unit {0}

-- ---- on a disk that gives each new stream the least number

abbrev pub greatest_open : Streams → ℕ
greatest_open streams = fold max 0 (finite.keys streams.open_dirs)

-- the least number that no open stream has: one up to the greatest that one has, or the next
unfoldable pub least_closed : Streams → ℕ
least_closed streams = unwrap_or (find (λ dir. not (is_open streams dir)) (range_with_len 0 (greatest_open streams + 1))) (greatest_open streams + 1)

abbrev pub after_opening : Streams → Result (List Entry) Refusal → Streams
after_opening streams (Ok entries) = with_opened streams (least_closed streams) entries
after_opening streams (Err refusal) = streams

abbrev pub after_taking : Streams → ℕ → Option (List Entry) → Streams
after_taking streams dir (Some (entry ∷ rest)) = with_stream streams dir rest
after_taking streams dir entries = streams

-- the streams after a call that didn't fail
abbrev pub streams_after : Tree → Streams → DiskAsk → Streams
streams_after tree streams (asks.OpenDir path) = after_opening streams (opened tree path)
streams_after tree streams (asks.NextEntry dir) = after_taking streams dir (still_gives streams dir)
streams_after tree streams (asks.CloseDir dir) = with_closed streams dir
streams_after tree streams ask = streams
