-- A call of a disk in memory fails iff it has a number that is listed.
use Rattle.std.proofs.Common.{◌≡◌, ℕ, Bool, true, false, List, [], ◌∷◌, Option, Some, None, Ok, Err, Result, refl, sym, ap, ◌∙◌}
use Rattle.std.specs.Prelude.{if◌then◌else◌, ◌&&◌}
use Rattle.odb_disk.specs.Tree.{Tree, tree_of}
use Rattle.odb_disk.specs.Tree.Follow.{Refusal, Absent, WrongKind, LinkLoop, looked, read_of}
use Rattle.odb_disk.specs.Tree.Write as writing
use Rattle.odb_disk.specs.Tree.Write.{change_of_make_dir, change_of_new_file, change_of_append, change_of_rename, change_of_remove}
use Rattle.odb_disk.specs.MemDisk.{Volume, next_fails, after_call}
use Rattle.odb_disk.specs.StreamAsks.{is_of_streams, least_closed}
use Rattle.odb_disk.specs.Streams.{Streams, still_gives}
use Rattle.odb_disk.specs.Entries.{opened}
use Rattle.odb_disk.proofs.StillAskLaws.{answer_now-still, counted-still}
use Rattle.odb_disk.specs.Ask.{answer_in, answer_of, answer_now, dir_answer, entry_answer, fails_now, meta_answer, file_answer, write_answer, error_of, error_of_write}
use Rattle.odb_disk.specs.declared.change.Change.{Change}
use Rattle.odb_disk.specs.declared.entry.Entry.{Entry}
use Rattle.odb_disk.specs.declared.meta.Meta.{Meta}
use Rattle.odb_disk.specs.declared.disk_error.DiskError.TheVariants as disk_errors
use Rattle.odb_disk.specs.declared.ask.DiskAsk.{DiskAsk}
use Rattle.odb_disk.specs.declared.ask.DiskAsk.TheVariants.{Look, Read, OpenDir, NextEntry, CloseDir, MakeDir, NewFile, Append, Rename, Remove}
use Rattle.odb_disk.specs.declared.ask.DiskAnswer.{DiskAnswer}
use Rattle.odb_disk.specs.declared.ask.DiskAnswer.TheVariants as answers
use Rattle.gix_odb_history.specs.Run.{has_failed}

has_failed-error : (refusal : Refusal) → has_failed (answers.Refused (error_of refusal)) ≡ false
has_failed-error Absent = refl
has_failed-error WrongKind = refl
has_failed-error LinkLoop = refl

has_failed-meta : (told : Result Meta Refusal) → has_failed (meta_answer told) ≡ false
has_failed-meta (Ok found) = refl
has_failed-meta (Err refusal) = has_failed-error refusal

has_failed-file : (told : Result (List ℕ × ℕ) Refusal) → has_failed (file_answer told) ≡ false
has_failed-file (Ok file) = refl
has_failed-file (Err refusal) = has_failed-error refusal

has_failed-dir : (dir : ℕ) (told : Result (List Entry) Refusal) → has_failed (dir_answer dir told) ≡ false
has_failed-dir dir (Ok entries) = refl
has_failed-dir dir (Err refusal) = has_failed-error refusal

has_failed-entry : (left : Option (List Entry)) → has_failed (entry_answer left) ≡ false
has_failed-entry (Some (entry ∷ rest)) = refl
has_failed-entry (Some []) = refl
has_failed-entry None = refl

has_failed-error_write : (refusal : writing.Refusal) → has_failed (answers.Refused (error_of_write refusal)) ≡ false
has_failed-error_write writing.Absent = refl
has_failed-error_write writing.WrongKind = refl
has_failed-error_write writing.LinkLoop = refl
has_failed-error_write writing.Exists = refl
has_failed-error_write writing.NotEmpty = refl

has_failed-write : (told : Result Change writing.Refusal) → has_failed (write_answer told) ≡ false
has_failed-write (Ok change) = refl
has_failed-write (Err refusal) = has_failed-error_write refusal

has_failed-told : (tree : Tree) (ask : DiskAsk) → has_failed (answer_of tree ask) ≡ false
unfolding answer_of
has_failed-told tree (Look path follow) = has_failed-meta (looked tree path follow)
has_failed-told tree (Read path) = has_failed-file (read_of tree path)
has_failed-told tree (OpenDir path) = has_failed-dir 0 (opened tree path)
has_failed-told tree (NextEntry dir) = refl
has_failed-told tree (CloseDir dir) = refl
has_failed-told tree (MakeDir path) = has_failed-write (change_of_make_dir tree path)
has_failed-told tree (NewFile path) = has_failed-write (change_of_new_file tree path)
has_failed-told tree (Append path bytes) = has_failed-write (change_of_append tree path bytes)
has_failed-told tree (Rename from to) = has_failed-write (change_of_rename tree from to)
has_failed-told tree (Remove path) = has_failed-write (change_of_remove tree path)

has_failed-in : (tree : Tree) (streams : Streams) (ask : DiskAsk) → has_failed (answer_in tree streams ask) ≡ false
has_failed-in tree streams (Look path follow) = has_failed-told tree (Look path follow)
has_failed-in tree streams (Read path) = has_failed-told tree (Read path)
has_failed-in tree streams (OpenDir path) = has_failed-dir (least_closed streams) (opened tree path)
has_failed-in tree streams (NextEntry dir) = has_failed-entry (still_gives streams dir)
has_failed-in tree streams (CloseDir dir) = has_failed-told tree (CloseDir dir)
has_failed-in tree streams (MakeDir path) = has_failed-told tree (MakeDir path)
has_failed-in tree streams (NewFile path) = has_failed-told tree (NewFile path)
has_failed-in tree streams (Append path bytes) = has_failed-told tree (Append path bytes)
has_failed-in tree streams (Rename from to) = has_failed-told tree (Rename from to)
has_failed-in tree streams (Remove path) = has_failed-told tree (Remove path)

has_failed-either : (fails : Bool) (answer : DiskAnswer) → has_failed answer ≡ false → has_failed (if fails then answers.Refused disk_errors.Failed else answer) ≡ fails
has_failed-either true answer told = refl
has_failed-either false answer told = told

pub has_failed-now : (disk : Volume) (ask : DiskAsk) → has_failed (answer_now disk ask) ≡ fails_now disk ask
has_failed-now disk ask = has_failed-either (fails_now disk ask) (answer_in (tree_of disk.state) disk.streams ask) (has_failed-in (tree_of disk.state) disk.streams ask)

-- a call that isn't on streams has a number
pub fails_now-still : (disk : Volume) (ask : DiskAsk) → is_of_streams ask ≡ false → fails_now disk ask ≡ next_fails disk
fails_now-still disk ask still = ap (λ b. b && next_fails disk) (counted-still ask still)

-- and only the tree determines its answer, unless it fails
pub answer_by_tree : (disk : Volume) (ask : DiskAsk) → is_of_streams ask ≡ false
    → answer_now disk ask ≡ (if fails_now disk ask then answers.Refused disk_errors.Failed else answer_of (tree_of disk.state) ask)
answer_by_tree disk ask still =
    answer_now-still disk ask still
    ∙ ap (λ b. if b then answers.Refused disk_errors.Failed else answer_of (tree_of disk.state) ask) (sym (fails_now-still disk ask still))

-- a call changes no tree
pub state-after_call : (disk : Volume) → (after_call disk).state ≡ disk.state
unfolding after_call
state-after_call disk = refl
