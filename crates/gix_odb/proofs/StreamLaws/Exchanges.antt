-- Laws of what exchanges tell of the stream that is open: they tell what it has given, and its next answer is fair.
use Rattle.std.proofs.Common.{◌≡◌, ℕ, List, length, Option, Some, Ok, refl, sym, subst}
use Rattle.odb_base.specs.Path.{Name, Path}
use Rattle.odb_disk.specs.Tree.{Tree}
use Rattle.odb_disk.specs.Tree.Follow.{listed}
use Rattle.odb_disk.specs.declared.entry.Entry.{Entry}
use Rattle.odb_disk.specs.Ask.{after_ask, answer_now}
use Rattle.odb_disk.specs.MemDisk.{Volume}
use Rattle.odb_disk.specs.declared.ask.DiskAnswer.{DiskAnswer}
use Rattle.odb_disk.specs.declared.ask.DiskAnswer.TheVariants as answers
use Rattle.odb_disk.specs.declared.ask.DiskAsk.TheVariants as disk_asks
use Rattle.gix_hash.specs.declared.kind.Kind.{Kind}
use Rattle.gix_hash.specs.declared.object_id.ObjectId.{ObjectId}
use Rattle.gix_odb_search.specs.PackFolder.{pack_folder}
use Rattle.gix_odb_search.specs.declared.multi_pack.MultiUse.{MultiUse}
use Rattle.gix_odb_events.specs.declared.answer.Answer.TheVariants as told
use Rattle.gix_odb_events.specs.declared.answer.Ask.TheVariants as asks
use Rattle.gix_odb.specs.LookExchanges.{Exchange}
use Rattle.gix_odb.specs.Fair.{IsFair, IsStreamFair, PackedPlace, carrier_name}
use Rattle.gix_odb.specs.Stream.{Stream, reads, stream_by, stream_in}
use Rattle.gix_odb.specs.Laps.{HasAtMost}
use Rattle.gix_odb.proofs.StreamLaws.Directories.{name_is_given_before_the_end, next_entry_of_the_name_is_a_file}
use Rattle.gix_odb.proofs.StreamLaws.Directories.{stream_gives_few_entries, stream_of_a_directory_goes_on}
use Rattle.gix_odb.specs.OpenStream.{IsStreamOf, ListsFile, given_by}

-- ---- the stream that exchanges show

-- after an answer to a call for the next entry
pub reads-given : (folder : Path) (dir : ℕ) (given : List Entry) (answer : DiskAnswer)
    → reads (Some (record { folder = folder; dir = dir; entries = given })) answer ≡ Some (record { folder = folder; dir = dir; entries = given_by given answer })
reads-given folder dir given (answers.Entry entry) = refl
reads-given folder dir given answers.End = refl
reads-given folder dir given (answers.Refused error) = refl
reads-given folder dir given (answers.Meta meta) = refl
reads-given folder dir given (answers.File bytes time) = refl
reads-given folder dir given (answers.Dir other) = refl
reads-given folder dir given answers.Done = refl

-- ---- its next answer

-- the next answer of the open stream is fair, if its directory listed the carrier as a file when it was opened
module _ (multi : Option MultiUse) (hash : Kind) (id : ObjectId) (place : PackedPlace)
    (tree : Tree) (disk : Volume) (stream : Stream) (coming : List Entry) (streams : IsStreamOf tree stream.folder disk stream.dir stream.entries coming)
    (lists : stream.folder ≡ pack_folder place.folder → ListsFile tree stream.folder (carrier_name place)) where
  fair_by : (answer : DiskAnswer) → answer_now disk (disk_asks.NextEntry stream.dir) ≡ answer → IsStreamFair place (Some stream) answer
  fair_by (answers.Entry entry) is = λ here named.
      next_entry_of_the_name_is_a_file tree stream.folder disk stream.dir stream.entries coming streams (carrier_name place) (lists here) entry is named
  fair_by answers.End is = λ here. name_is_given_before_the_end tree stream.folder disk stream.dir stream.entries coming streams (carrier_name place) (lists here) is
  fair_by (answers.Refused error) is = tt
  fair_by (answers.Meta meta) is = tt
  fair_by (answers.File bytes time) is = tt
  fair_by (answers.Dir other) is = tt
  fair_by answers.Done is = tt

  pub next_answer_is_fair : (past : List Exchange) → stream_in past ≡ Some stream
      → IsFair multi hash id place past (asks.Disk (disk_asks.NextEntry stream.dir)) (told.Disk (answer_now disk (disk_asks.NextEntry stream.dir)))
  next_answer_is_fair past last =
      let answer = answer_now disk (disk_asks.NextEntry stream.dir) in subst (λ o. IsStreamFair place o answer) (sym last) (fair_by answer refl)

-- ---- how many entries it has given

-- it gives at most as many entries as the directory had names when it was opened
pub stream_is_within_the_names : (tree : Tree) (disk : Volume) (stream : Stream) (coming : List Entry) (names : List Name)
    → IsStreamOf tree stream.folder disk stream.dir stream.entries coming → listed tree stream.folder ≡ Ok names
    → HasAtMost (length names)
    (stream_by (Some stream) (asks.Disk (disk_asks.NextEntry stream.dir)) (told.Disk (answer_now disk (disk_asks.NextEntry stream.dir))))
stream_is_within_the_names tree disk stream coming names streams are =
    let next = disk_asks.NextEntry stream.dir in
    let read = stream_of_a_directory_goes_on tree stream.folder disk stream.dir stream.entries coming streams in
    subst (HasAtMost (length names)) (sym (reads-given stream.folder stream.dir stream.entries (answer_now disk next)))
    (stream_gives_few_entries tree stream.folder (after_ask disk next) stream.dir (given_by stream.entries (answer_now disk next)) read.left read.after names are)
