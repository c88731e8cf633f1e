-- From what a call that is given as a value keeps to on every disk to what a disk in memory answers, and how it is afterwards.
use Rattle.std.specs.Prelude.{if◌then◌else◌}
use Rattle.std.specs.Result.{result_ok}
use Rattle.std.proofs.Common.{◌≡◌, ◌≢◌, ◌↔◌, true, false, Bool, List, [], ◌∷◌, Option, Some, None, Result, Ok, Err, refl, sym, ap, ◌∙◌, cond}
use Rattle.odb_disk.specs.Tree.{Tree, State, tree_of}
use Rattle.odb_disk.specs.Tree.Follow.{Refusal}
use Rattle.odb_disk.specs.Tree.Write as writing
use Rattle.odb_disk.specs.Tree.Write.{change_of_make_dir, change_of_new_file, change_of_append, change_of_rename, change_of_remove, done, written}
use Rattle.odb_disk.specs.MemDisk.{Volume, after_call}
use Rattle.odb_disk.specs.Streams.{Streams, still_gives}
use Rattle.odb_disk.specs.Entries.{opened}
use Rattle.odb_disk.specs.StreamAsks.{streams_after, after_opening, after_taking, least_closed}
use Rattle.odb_disk.specs.Ask.{dir_answer, entry_answer, write_answer, answer_of, answer_in, change_of_ask, state_after, streams_left}
use Rattle.odb_disk.specs.Ask.{is_counted, fails_now, after_count, after_ask, AnswersAsk, IsCounted, ran_out}
use Rattle.odb_disk.specs.declared.change.Change.{Change}
use Rattle.odb_disk.specs.declared.entry.Entry.{Entry}
use Rattle.odb_disk.specs.declared.disk_error.DiskError.{DiskError}
use Rattle.odb_disk.specs.declared.disk_error.DiskError.TheVariants as errors
use Rattle.odb_disk.specs.declared.ask.DiskAsk.{DiskAsk}
use Rattle.odb_disk.specs.declared.ask.DiskAsk.TheVariants as asks
use Rattle.odb_disk.specs.declared.ask.DiskAnswer.{DiskAnswer}
use Rattle.odb_disk.specs.declared.ask.DiskAnswer.TheVariants as answers
use Rattle.odb_disk.proofs.MemDiskLemmas.{after_call-state, after_call-streams}

-- ---- what it answers

-- a call fails exactly if it is to
abbrev FailsAs : Bool → DiskAnswer → Type 0
FailsAs fails answer = (answer ≡ answers.Refused errors.Failed) ↔ (fails ≡ true)

-- what a disk in memory answers, by whether the call fails and what its tree answers
pub answered_by : (fails : Bool) (answer told : DiskAnswer) → AnswersAsk answer told → FailsAs fails answer → answer ≢ answers.Refused errors.NoMemory
    → answer ≡ (if fails then answers.Refused errors.Failed else told)
answered_by true answer told is failed some = failed.1 refl
answered_by false (answers.Meta found) told is failed some = is
answered_by false (answers.File bytes time) told is failed some = is
answered_by false (answers.Dir dir) told is failed some = is
answered_by false (answers.Entry entry) told is failed some = is
answered_by false answers.End told is failed some = is
answered_by false answers.Done told is failed some = is
answered_by false (answers.Refused errors.Absent) told is failed some = is
answered_by false (answers.Refused errors.WrongKind) told is failed some = is
answered_by false (answers.Refused errors.LinkLoop) told is failed some = is
answered_by false (answers.Refused errors.Exists) told is failed some = is
answered_by false (answers.Refused errors.NotEmpty) told is failed some = is
answered_by false (answers.Refused errors.Failed) told is failed some = absurd (cc (failed.0 refl))
answered_by false (answers.Refused errors.NoMemory) told is failed some = absurd (some refl)

-- ---- a disk in memory after a call

undone_write : (told : Result Change writing.Refusal) → write_answer told ≢ answers.Done → result_ok told ≡ None
undone_write (Ok change) other = absurd (other refl)
undone_write (Err refusal) other = refl

-- a call that isn't done makes no change
pub undone : (t : Tree) (streams : Streams) (ask : DiskAsk) → answer_in t streams ask ≢ answers.Done → change_of_ask t ask ≡ None
unfolding answer_of change_of_ask
undone t streams (asks.Look path follow) other = refl
undone t streams (asks.Read path) other = refl
undone t streams (asks.OpenDir path) other = refl
undone t streams (asks.NextEntry dir) other = refl
undone t streams (asks.CloseDir dir) other = refl
undone t streams (asks.MakeDir path) other = undone_write (change_of_make_dir t path) other
undone t streams (asks.NewFile path) other = undone_write (change_of_new_file t path) other
undone t streams (asks.Append path bytes) other = undone_write (change_of_append t path bytes) other
undone t streams (asks.Rename from to) other = undone_write (change_of_rename t from to) other
undone t streams (asks.Remove path) other = undone_write (change_of_remove t path) other

-- a call that its tree and its streams refuse changes no stream
unmoved : (t : Tree) (streams : Streams) (ask : DiskAsk) (error : DiskError) → answers.Refused error ≡ answer_in t streams ask → streams ≡ streams_after t streams ask
unfolding answer_of
unmoved t streams (asks.Look path follow) error is = refl
unmoved t streams (asks.Read path) error is = refl
unmoved t streams (asks.OpenDir path) error is = by_told (opened t path) is
  where
    by_told : (told : Result (List Entry) Refusal) → answers.Refused error ≡ dir_answer (least_closed streams) told → streams ≡ after_opening streams told
    by_told (Ok entries) is = absurd (cc is)
    by_told (Err refusal) is = refl
unmoved t streams (asks.NextEntry dir) error is = by_left (still_gives streams dir) is
  where
    by_left : (left : Option (List Entry)) → answers.Refused error ≡ entry_answer left → streams ≡ after_taking streams dir left
    by_left (Some (entry ∷ rest)) is = absurd (cc is)
    by_left (Some []) is = refl
    by_left None is = refl
unmoved t streams (asks.CloseDir dir) error is = absurd (cc is)
unmoved t streams (asks.MakeDir path) error is = refl
unmoved t streams (asks.NewFile path) error is = refl
unmoved t streams (asks.Append path bytes) error is = refl
unmoved t streams (asks.Rename from to) error is = refl
unmoved t streams (asks.Remove path) error is = refl

module _ (s : State) (streams : Streams) (ask : DiskAsk) where
  not_done : (answer : DiskAnswer) → answer ≢ answers.Done → answer ≡ answer_in (tree_of s) streams ask → s ≡ written s (change_of_ask (tree_of s) ask)
  not_done answer other is = sym (ap (written s) (undone (tree_of s) streams ask (λ d. other (is ∙ d))))

  state_by : (fails : Bool) (answer : DiskAnswer) → answer ≢ answers.Refused errors.NoMemory → AnswersAsk answer (answer_in (tree_of s) streams ask) → FailsAs fails answer
      → state_after s ask answer ≡ cond fails s (written s (change_of_ask (tree_of s) ask))
  state_by true answer some is failed = ap (state_after s ask) (failed.1 refl)
  state_by false answers.Done some is failed = refl
  state_by false (answers.Meta found) some is failed = not_done (answers.Meta found) (λ e. cc) is
  state_by false (answers.File bytes time) some is failed = not_done (answers.File bytes time) (λ e. cc) is
  state_by false (answers.Dir dir) some is failed = not_done (answers.Dir dir) (λ e. cc) is
  state_by false (answers.Entry entry) some is failed = not_done (answers.Entry entry) (λ e. cc) is
  state_by false answers.End some is failed = not_done answers.End (λ e. cc) is
  state_by false (answers.Refused errors.Absent) some is failed = not_done (answers.Refused errors.Absent) (λ e. cc) is
  state_by false (answers.Refused errors.WrongKind) some is failed = not_done (answers.Refused errors.WrongKind) (λ e. cc) is
  state_by false (answers.Refused errors.LinkLoop) some is failed = not_done (answers.Refused errors.LinkLoop) (λ e. cc) is
  state_by false (answers.Refused errors.Exists) some is failed = not_done (answers.Refused errors.Exists) (λ e. cc) is
  state_by false (answers.Refused errors.NotEmpty) some is failed = not_done (answers.Refused errors.NotEmpty) (λ e. cc) is
  state_by false (answers.Refused errors.Failed) some is failed = absurd (cc (failed.0 refl))
  state_by false (answers.Refused errors.NoMemory) some is failed = absurd (some refl)

  streams_by : (fails : Bool) (answer : DiskAnswer) → answer ≢ answers.Refused errors.NoMemory → AnswersAsk answer (answer_in (tree_of s) streams ask) → FailsAs fails answer
      → streams_left (tree_of s) streams ask answer ≡ cond fails streams (streams_after (tree_of s) streams ask)
  streams_by true answer some is failed = ap (streams_left (tree_of s) streams ask) (failed.1 refl)
  streams_by false answers.Done some is failed = refl
  streams_by false (answers.Meta found) some is failed = refl
  streams_by false (answers.File bytes time) some is failed = refl
  streams_by false (answers.Dir dir) some is failed = refl
  streams_by false (answers.Entry entry) some is failed = refl
  streams_by false answers.End some is failed = refl
  streams_by false (answers.Refused errors.Absent) some is failed = unmoved (tree_of s) streams ask errors.Absent is
  streams_by false (answers.Refused errors.WrongKind) some is failed = unmoved (tree_of s) streams ask errors.WrongKind is
  streams_by false (answers.Refused errors.LinkLoop) some is failed = unmoved (tree_of s) streams ask errors.LinkLoop is
  streams_by false (answers.Refused errors.Exists) some is failed = unmoved (tree_of s) streams ask errors.Exists is
  streams_by false (answers.Refused errors.NotEmpty) some is failed = unmoved (tree_of s) streams ask errors.NotEmpty is
  streams_by false (answers.Refused errors.Failed) some is failed = absurd (cc (failed.0 refl))
  streams_by false (answers.Refused errors.NoMemory) some is failed = absurd (some refl)

-- counting a call changes neither the tree nor a stream
pub after_count-state : (disk : Volume) (ask : DiskAsk) → (after_count disk ask).state ≡ disk.state
after_count-state disk ask = by (is_counted ask)
  where
    by : (counted : Bool) → (cond counted (after_call disk) disk).state ≡ disk.state
    by true = after_call-state disk
    by false = refl

after_count-streams : (disk : Volume) (ask : DiskAsk) → (after_count disk ask).streams ≡ disk.streams
after_count-streams disk ask = by (is_counted ask)
  where
    by : (counted : Bool) → (cond counted (after_call disk) disk).streams ≡ disk.streams
    by true = after_call-streams disk
    by false = refl

module _ (disk new : Volume) (ask : DiskAsk) (answer : DiskAnswer) (state : new.state ≡ state_after disk.state ask answer)
    (streams : new.streams ≡ streams_left (tree_of disk.state) disk.streams ask answer) (counted : new.calls ≡ (after_count disk ask).calls) where
  pub volume_after_ask : answer ≢ answers.Refused errors.NoMemory → AnswersAsk answer (answer_in (tree_of disk.state) disk.streams ask) → FailsAs (fails_now disk ask) answer → new ≡ after_ask disk ask
  unfolding after_ask
  volume_after_ask some is failed =
      let after = state ∙ state_by disk.state disk.streams ask (fails_now disk ask) answer some is failed in
      let left = streams ∙ streams_by disk.state disk.streams ask (fails_now disk ask) answer some is failed in
      λ i. record { state = after i; streams = left i; calls = counted i }

  pub volume_kept : answer ≡ answers.Refused errors.NoMemory → new ≡ after_count disk ask
  volume_kept is =
      let same = state ∙ ap (state_after disk.state ask) is ∙ sym (after_count-state disk ask) in
      let kept = streams ∙ ap (streams_left (tree_of disk.state) disk.streams ask) is ∙ sym (after_count-streams disk ask) in
      λ i. record { state = same i; streams = kept i; calls = counted i }

pub has_memory : (answer : DiskAnswer) → ran_out answer ≡ false → answer ≢ answers.Refused errors.NoMemory
has_memory answer some is = let both : false ≡ true = sym some ∙ ap ran_out is in cc

pub no_memory : (answer : DiskAnswer) → ran_out answer ≡ true → answer ≡ answers.Refused errors.NoMemory
no_memory (answers.Meta found) is = absurd (cc)
no_memory (answers.File bytes time) is = absurd (cc)
no_memory (answers.Dir dir) is = absurd (cc)
no_memory (answers.Entry entry) is = absurd (cc)
no_memory answers.End is = absurd (cc)
no_memory answers.Done is = absurd (cc)
no_memory (answers.Refused errors.Absent) is = absurd (cc)
no_memory (answers.Refused errors.WrongKind) is = absurd (cc)
no_memory (answers.Refused errors.LinkLoop) is = absurd (cc)
no_memory (answers.Refused errors.Exists) is = absurd (cc)
no_memory (answers.Refused errors.NotEmpty) is = absurd (cc)
no_memory (answers.Refused errors.Failed) is = absurd (cc)
no_memory (answers.Refused errors.NoMemory) is = refl

-- ---- what each call keeps to

module _ (old new : Volume) (ask : DiskAsk) (counted : new ≡ after_count old ask) where
  pub counted_failed : fails_now old ask ≡ true → IsCounted old ask (answers.Refused errors.Failed) new
  counted_failed fails = record { counted = ap (λ v. v.calls) counted; failed = (λ _. fails, λ _. refl); least = tt }
