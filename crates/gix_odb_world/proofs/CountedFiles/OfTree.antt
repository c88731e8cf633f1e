-- While one tree answers exchanges, the open stream has given, and is to give, what its folder's directory lists.
use Rattle.std.proofs.Common.{◌≡◌, List, [], ◌∷◌, ◌++◌, Option, Some, None, Ok, refl, sym, ap, ◌∙◌, subst, append_assoc}
use Rattle.odb_base.specs.Path.{Path}
use Rattle.odb_disk.specs.declared.ask.DiskAnswer.{DiskAnswer}
use Rattle.odb_disk.specs.declared.ask.DiskAnswer.TheVariants as answers
use Rattle.odb_disk.specs.declared.ask.DiskAsk.TheVariants as disk_asks
use Rattle.odb_disk.specs.Entries.{opened}
use Rattle.odb_disk.specs.Tree.{Tree}
use Rattle.odb_disk.specs.declared.disk_error.DiskError.TheVariants as errors
use Rattle.odb_disk.specs.declared.entry.Entry.{Entry}
use Rattle.gix_odb_events.specs.declared.answer.Answer.{Answer}
use Rattle.gix_odb_events.specs.declared.answer.Answer.TheVariants as told
use Rattle.gix_odb_events.specs.declared.answer.Ask.{Ask}
use Rattle.gix_odb_events.specs.declared.answer.Ask.TheVariants as asks
use Rattle.gix_odb.specs.LookExchanges.{Exchange}
use Rattle.gix_odb.specs.OpenStream.{GivesNext}
use Rattle.gix_odb.specs.Stream.{Stream, reads, stream_by, stream_from}
use Rattle.gix_odb.specs.Stream as streams
use Rattle.gix_odb.specs.ListedFiles.{AreOfTree, IsToldOfTree, Opens}
use Rattle.gix_odb_world.specs.Running.Listed.{AreOfTreeTo}

module _ (tree : Tree) where
  -- ---- lists of exchanges

  -- whatever is left in the end
  pub of_tree_to : (coming : List Entry) (exchanges : List Exchange) (left : List Entry) → AreOfTreeTo tree coming exchanges left → AreOfTree tree coming exchanges
  of_tree_to coming [] left of = tt
  of_tree_to coming (exchange ∷ exchanges) left of = (of.0, of.1, of_tree_to of.0 exchanges left of.2)

  -- with one more exchange
  pub AreOfTreeTo-push : (coming : List Entry) (exchanges : List Exchange) (left : List Entry) (exchange : Exchange) (after : List Entry)
      → AreOfTreeTo tree coming exchanges left → IsToldOfTree tree left exchange.ask exchange.answer after
      → AreOfTreeTo tree coming (exchanges ++ exchange ∷ []) after
  AreOfTreeTo-push coming [] left exchange after of one =
      (after, subst (λ (es : List Entry). IsToldOfTree tree es exchange.ask exchange.answer after) of one, refl)
  AreOfTreeTo-push coming (first ∷ exchanges) left exchange after of one =
      (of.0, of.1, AreOfTreeTo-push of.0 exchanges left exchange after of.2 one)

  -- ---- the open stream

  -- with these entries still to come it gives what its folder's directory lists
  abbrev pub GivesAll : Option Stream → (coming : List Entry) → Type 0
  GivesAll None coming = Unit {0}
  GivesAll (Some stream) coming = opened tree stream.folder ≡ Ok (stream.entries ++ coming)

  opened_gives : (folder : Path) (answer : DiskAnswer) (left : List Entry) → Opens (opened tree folder) answer left → GivesAll (streams.opens folder answer) left
  opened_gives folder (answers.Dir dir) left of = of
  opened_gives folder answer left of = tt

  read_gives : (stream : Stream) (coming left : List Entry) (answer : DiskAnswer) → GivesAll (Some stream) coming → GivesNext coming answer left
      → GivesAll (reads (Some stream) answer) left
  read_gives stream coming left (answers.Entry entry) all next =
      all ∙ ap (λ (more : List Entry). Ok (stream.entries ++ more)) next ∙ ap Ok (sym (append_assoc stream.entries (entry ∷ []) left))
  read_gives stream coming left answers.End all next = all ∙ ap (λ (more : List Entry). Ok (stream.entries ++ more)) (next.0 ∙ sym next.1)
  read_gives stream coming left (answers.Refused errors.Failed) all next = all ∙ ap (λ (more : List Entry). Ok (stream.entries ++ more)) (sym next)
  read_gives stream coming left answer all next = absurd next

  no_stream_gives : (answer : DiskAnswer) (left : List Entry) → GivesAll (reads None answer) left
  no_stream_gives answer left = tt

  one_read_gives : (before : Option Stream) (coming left : List Entry) (answer : DiskAnswer) → GivesAll before coming → GivesNext coming answer left
      → GivesAll (reads before answer) left
  one_read_gives None coming left answer all next = no_stream_gives answer left
  one_read_gives (Some stream) coming left answer all next = read_gives stream coming left answer all next

  as_before : (before : Option Stream) (coming left : List Entry) → GivesAll before coming → left ≡ coming → GivesAll before left
  as_before before coming left all same = subst (GivesAll before) (sym same) all

  one_gives : (before : Option Stream) (coming : List Entry) (ask : Ask) (answer : Answer) (left : List Entry) → GivesAll before coming
      → IsToldOfTree tree coming ask answer left → GivesAll (stream_by before ask answer) left
  one_gives before coming (asks.Disk (disk_asks.OpenDir folder)) (told.Disk answer) left all of = opened_gives folder answer left of
  one_gives before coming (asks.Disk (disk_asks.NextEntry dir)) (told.Disk answer) left all of = one_read_gives before coming left answer all of
  one_gives before coming (asks.Disk (disk_asks.CloseDir dir)) (told.Disk answer) left all of = tt
  one_gives before coming (asks.Disk (disk_asks.Look path follow)) (told.Disk answer) left all of = as_before before coming left all of.1
  one_gives before coming (asks.Disk (disk_asks.Read path)) (told.Disk answer) left all of = as_before before coming left all of.1
  one_gives before coming (asks.Disk (disk_asks.MakeDir path)) (told.Disk answer) left all of = as_before before coming left all of.1
  one_gives before coming (asks.Disk (disk_asks.NewFile path)) (told.Disk answer) left all of = as_before before coming left all of.1
  one_gives before coming (asks.Disk (disk_asks.Append path bytes)) (told.Disk answer) left all of = as_before before coming left all of.1
  one_gives before coming (asks.Disk (disk_asks.Rename from to)) (told.Disk answer) left all of = as_before before coming left all of.1
  one_gives before coming (asks.Disk (disk_asks.Remove path)) (told.Disk answer) left all of = as_before before coming left all of.1
  one_gives before coming (asks.Core event) (told.Core answer) left all of = as_before before coming left all of
  one_gives before coming (asks.NewCore slots folders) (told.Core answer) left all of = as_before before coming left all of
  one_gives before coming (asks.Disk ask) (told.Core answer) left all of = absurd of
  one_gives before coming (asks.Core event) (told.Disk answer) left all of = absurd of
  one_gives before coming (asks.NewCore slots folders) (told.Disk answer) left all of = absurd of

  -- after all exchanges it still does
  pub streams_give_all : (before : Option Stream) (coming : List Entry) (exchanges : List Exchange) (left : List Entry) → GivesAll before coming
      → AreOfTreeTo tree coming exchanges left → GivesAll (stream_from before exchanges) left
  streams_give_all before coming [] left all of = as_before before coming left all of
  streams_give_all before coming (exchange ∷ exchanges) left all of =
      streams_give_all (stream_by before exchange.ask exchange.answer) of.0 exchanges left
      (one_gives before coming exchange.ask exchange.answer of.0 all of.1) of.2
