-- What an answer of the disk tells at the moment of a turn: a file that is read was shown, and each answer is one that its call has.
use Rattle.std.proofs.Common.{◌≡◌, ◌⊎◌, ℕ, ◌≤◌, Bool, true, false, List, [], ◌∷◌, ◌++◌, length, Result, Ok, Err, inl, inr, refl, ◌∙◌, ap}
use Rattle.std.specs.Prelude.{if◌then◌else◌}
use Rattle.odb_base.specs.Path.{Path}
use Rattle.odb_disk.specs.Entries.{opened}
use Rattle.odb_disk.specs.Tree.{tree_of}
use Rattle.odb_disk.specs.Tree.Follow.{Refusal, Absent, WrongKind, LinkLoop, looked, read_of}
use Rattle.odb_disk.specs.declared.disk_error.DiskError.TheVariants as errors
use Rattle.odb_disk.specs.declared.entry.Entry.{Entry}
use Rattle.odb_disk.specs.declared.meta.Meta.{Meta}
use Rattle.odb_disk.specs.Ask.{answer_now, answer_of, dir_answer, fails_now, file_answer, meta_answer}
use Rattle.odb_disk.specs.MemDisk.{Volume}
use Rattle.odb_disk.specs.StreamAsks.{least_closed}
use Rattle.odb_disk.specs.declared.ask.DiskAnswer.{DiskAnswer}
use Rattle.odb_disk.specs.declared.ask.DiskAnswer.TheVariants as answers
use Rattle.odb_disk.specs.declared.ask.DiskAsk.{DiskAsk}
use Rattle.odb_disk.specs.declared.ask.DiskAsk.TheVariants as asks
use Rattle.gix_hash.specs.declared.kind.Kind.{Kind}
use Rattle.gix_odb_events.specs.declared.answer.Answer.TheVariants as told
use Rattle.gix_odb_events.specs.declared.answer.Ask.TheVariants as parts
use Rattle.gix_odb.specs.LookUpOrder.{Setting}
use Rattle.gix_odb.specs.True.{IsTrue, Suits}
use Rattle.gix_odb_history.specs.Event.{Event}
use Rattle.gix_odb_history.specs.Run.{FailedSince, disk_after, has_failed}
use Rattle.gix_odb_world.specs.Status.{Running}
use Rattle.gix_odb_history.proofs.FailedLemmas.{has_failed-now}
use Rattle.gix_odb_world.proofs.QuietTurn.{failed_earlier}
use Rattle.gix_odb_world.proofs.WriteTurn.Common.{IsTurnWith}

-- ---- a failed call

failed_is : (answer : DiskAnswer) → has_failed answer ≡ true → answer ≡ answers.Refused errors.Failed
failed_is (answers.Refused errors.Failed) is = refl
failed_is (answers.Refused errors.Absent) is = absurd (cc is)
failed_is (answers.Refused errors.WrongKind) is = absurd (cc is)
failed_is (answers.Refused errors.LinkLoop) is = absurd (cc is)
failed_is (answers.Refused errors.Exists) is = absurd (cc is)
failed_is (answers.Refused errors.NotEmpty) is = absurd (cc is)
failed_is (answers.Refused errors.NoMemory) is = absurd (cc is)
failed_is (answers.Meta meta) is = absurd (cc is)
failed_is (answers.File bytes time) is = absurd (cc is)
failed_is (answers.Dir dir) is = absurd (cc is)
failed_is (answers.Entry entry) is = absurd (cc is)
failed_is answers.End is = absurd (cc is)
failed_is answers.Done is = absurd (cc is)

-- where a call has failed, it did so before the turn, or the turn's call of the disk failed
pub failed_or_told : (first : Volume) (events : List Event) (e : Event) (handle : ℕ) (running : Running) (since : running.begun ≤ length events) (ask : DiskAsk)
    → IsTurnWith first events e handle ask → FailedSince (events ++ e ∷ []) handle running.begun
    → FailedSince events handle running.begun ⊎ (told.Disk (answer_now (disk_after first events) ask) ≡ told.Disk (answers.Refused errors.Failed))
failed_or_told first events e handle running since ask turn failed = by (fails_now (disk_after first events) ask) refl
  where
    by : (b : Bool) → fails_now (disk_after first events) ask ≡ b
        → FailedSince events handle running.begun ⊎ (told.Disk (answer_now (disk_after first events) ask) ≡ told.Disk (answers.Refused errors.Failed))
    by true fails = inr (ap told.Disk (failed_is (answer_now (disk_after first events) ask) (has_failed-now (disk_after first events) ask ∙ fails)))
    by false works = inl (failed_earlier first events e handle running since ask turn works failed)

-- ---- which answers a call has

suits_read : (path : Path) (b : Bool) (o : Result (List ℕ × ℕ) Refusal) → Suits (asks.Read path) (if b then answers.Refused errors.Failed else file_answer o)
suits_read path true o = tt
suits_read path false (Ok file) = tt
suits_read path false (Err Absent) = tt
suits_read path false (Err WrongKind) = tt
suits_read path false (Err LinkLoop) = tt

suits_look : (path : Path) (follow b : Bool) (o : Result Meta Refusal) → Suits (asks.Look path follow) (if b then answers.Refused errors.Failed else meta_answer o)
suits_look path follow true o = tt
suits_look path follow false (Ok meta) = tt
suits_look path follow false (Err Absent) = tt
suits_look path follow false (Err WrongKind) = tt
suits_look path follow false (Err LinkLoop) = tt

suits_open : (path : Path) (b : Bool) (dir : ℕ) (o : Result (List Entry) Refusal) → Suits (asks.OpenDir path) (if b then answers.Refused errors.Failed else dir_answer dir o)
suits_open path true dir o = tt
suits_open path false dir (Ok entries) = tt
suits_open path false dir (Err Absent) = tt
suits_open path false dir (Err WrongKind) = tt
suits_open path false dir (Err LinkLoop) = tt

-- each call has one of its answers, where the call for the next entry is on an open stream
pub suits : (disk : Volume) (ask : DiskAsk) → ((dir : ℕ) → ask ≡ asks.NextEntry dir → Suits (asks.NextEntry dir) (answer_now disk (asks.NextEntry dir)))
    → Suits ask (answer_now disk ask)
unfolding answer_of
suits disk (asks.Read path) on_open = suits_read path (fails_now disk (asks.Read path)) (read_of (tree_of disk.state) path)
suits disk (asks.Look path follow) on_open = suits_look path follow (fails_now disk (asks.Look path follow)) (looked (tree_of disk.state) path follow)
suits disk (asks.OpenDir path) on_open = suits_open path (fails_now disk (asks.OpenDir path)) (least_closed disk.streams) (opened (tree_of disk.state) path)
suits disk (asks.NextEntry dir) on_open = on_open dir refl
suits disk (asks.CloseDir dir) on_open = refl
suits disk (asks.MakeDir path) on_open = tt
suits disk (asks.NewFile path) on_open = tt
suits disk (asks.Append path bytes) on_open = tt
suits disk (asks.Rename from to) on_open = tt
suits disk (asks.Remove path) on_open = tt

-- ---- a file that was read

file_read : (o : Result (List ℕ × ℕ) Refusal) (bytes : List ℕ) (time : ℕ) → file_answer o ≡ answers.File bytes time → o ≡ Ok (bytes, time)
file_read (Ok file) bytes time is =
    let same_bytes : file.0 ≡ bytes = cc is in
    let same_time : file.1 ≡ time = cc is in
    ap (λ b. Ok (b, file.1)) same_bytes ∙ ap (λ t. Ok (bytes, t)) same_time
file_read (Err refusal) bytes time is = absurd (cc is)

read_so : (b : Bool) (o : Result (List ℕ × ℕ) Refusal) (bytes : List ℕ) (time : ℕ)
    → (if b then answers.Refused errors.Failed else file_answer o) ≡ answers.File bytes time → o ≡ Ok (bytes, time)
read_so true o bytes time is = absurd (cc is)
read_so false o bytes time is = file_read o bytes time is

pub read_is : (disk : Volume) (path : Path) (bytes : List ℕ) (time : ℕ) → answer_now disk (asks.Read path) ≡ answers.File bytes time
    → read_of (tree_of disk.state) path ≡ Ok (bytes, time)
unfolding answer_of
read_is disk path bytes time is = read_so (fails_now disk (asks.Read path)) (read_of (tree_of disk.state) path) bytes time is

pub is_true : (Shown : Path → ℕ → List ℕ → Type 0) (setting : Setting) (hash : Kind) (disk : Volume)
    → ((path : Path) (bytes : List ℕ) (time : ℕ) → read_of (tree_of disk.state) path ≡ Ok (bytes, time) → Shown path time bytes)
    → (ask : DiskAsk) → Suits ask (answer_now disk ask) → IsTrue Shown setting hash (parts.Disk ask) (told.Disk (answer_now disk ask))
is_true Shown setting hash disk shows ask suits = by ask (answer_now disk ask) refl suits
  where
    by : (own : DiskAsk) (answer : DiskAnswer) → answer_now disk own ≡ answer → Suits own answer → IsTrue Shown setting hash (parts.Disk own) (told.Disk answer)
    by (asks.Read path) (answers.File bytes time) is suits = (suits, shows path bytes time (read_is disk path bytes time is))
    by own answer is suits = (suits, tt)
