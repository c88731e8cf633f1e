-- No answer of a disk is that memory ran out; which calls change nothing, and the disk after a call.
use Rattle.std.proofs.Common.{◌≡◌, ◌≢◌, ℕ, Bool, true, false, List, [], ◌∷◌, Option, Some, None, Result, Ok, Err, refl, sym, ap}
use Rattle.std.specs.Prelude.{if◌then◌else◌}
use Rattle.odb_base.specs.Path.{Path}
use Rattle.odb_disk.specs.Ask.{answer_in, answer_now, answer_of, change_of_ask, after_ask, dir_answer, entry_answer, error_of, fails_now, file_answer, meta_answer, ran_out, write_answer}
use Rattle.odb_disk.specs.StreamAsks.{least_closed}
use Rattle.odb_disk.specs.Streams.{Streams, still_gives}
use Rattle.odb_disk.specs.Entries.{opened}
use Rattle.odb_disk.specs.MemDisk.{Volume}
use Rattle.odb_disk.specs.Tree.{Tree, State, tree_of}
use Rattle.odb_disk.specs.Tree.Follow.{Refusal, Absent, WrongKind, LinkLoop, looked, read_of}
use Rattle.odb_disk.specs.Tree.Write as writing
use Rattle.odb_disk.specs.Tree.Write.{change_of_append, change_of_make_dir, change_of_new_file, change_of_remove, change_of_rename, written}
use Rattle.odb_disk.specs.declared.ask.DiskAnswer.{DiskAnswer}
use Rattle.odb_disk.specs.declared.ask.DiskAnswer.TheVariants as answers
use Rattle.odb_disk.specs.declared.ask.DiskAsk.{DiskAsk}
use Rattle.odb_disk.specs.declared.ask.DiskAsk.TheVariants as asks
use Rattle.odb_disk.specs.declared.change.Change.{Change}
use Rattle.odb_disk.specs.declared.disk_error.DiskError.TheVariants as disk_errors
use Rattle.odb_disk.specs.declared.entry.Entry.{Entry}
use Rattle.odb_disk.specs.declared.meta.Meta.{Meta}
use Rattle.gix_odb_history.specs.Run.{change_by}

-- ---- no answer is that memory ran out

ran_out-error : (refusal : Refusal) → ran_out (answers.Refused (error_of refusal)) ≡ false
ran_out-error Absent = refl
ran_out-error WrongKind = refl
ran_out-error LinkLoop = refl

ran_out-meta : (told : Result Meta Refusal) → ran_out (meta_answer told) ≡ false
ran_out-meta (Ok found) = refl
ran_out-meta (Err refusal) = ran_out-error refusal

ran_out-file : (told : Result (List ℕ × ℕ) Refusal) → ran_out (file_answer told) ≡ false
ran_out-file (Ok file) = refl
ran_out-file (Err refusal) = ran_out-error refusal

ran_out-write : (told : Result Change writing.Refusal) → ran_out (write_answer told) ≡ false
ran_out-write (Ok change) = refl
ran_out-write (Err writing.Absent) = refl
ran_out-write (Err writing.WrongKind) = refl
ran_out-write (Err writing.LinkLoop) = refl
ran_out-write (Err writing.Exists) = refl
ran_out-write (Err writing.NotEmpty) = refl

ran_out-dir : (dir : ℕ) (told : Result (List Entry) Refusal) → ran_out (dir_answer dir told) ≡ false
ran_out-dir dir (Ok entries) = refl
ran_out-dir dir (Err refusal) = ran_out-error refusal

ran_out-entry : (left : Option (List Entry)) → ran_out (entry_answer left) ≡ false
ran_out-entry (Some (entry ∷ rest)) = refl
ran_out-entry (Some []) = refl
ran_out-entry None = refl

ran_out-told : (tree : Tree) (ask : DiskAsk) → ran_out (answer_of tree ask) ≡ false
unfolding answer_of
ran_out-told tree (asks.Look path follow) = ran_out-meta (looked tree path follow)
ran_out-told tree (asks.Read path) = ran_out-file (read_of tree path)
ran_out-told tree (asks.OpenDir path) = ran_out-dir 0 (opened tree path)
ran_out-told tree (asks.NextEntry dir) = refl
ran_out-told tree (asks.CloseDir dir) = refl
ran_out-told tree (asks.MakeDir path) = ran_out-write (change_of_make_dir tree path)
ran_out-told tree (asks.NewFile path) = ran_out-write (change_of_new_file tree path)
ran_out-told tree (asks.Append path bytes) = ran_out-write (change_of_append tree path bytes)
ran_out-told tree (asks.Rename from to) = ran_out-write (change_of_rename tree from to)
ran_out-told tree (asks.Remove path) = ran_out-write (change_of_remove tree path)

ran_out-in : (tree : Tree) (streams : Streams) (ask : DiskAsk) → ran_out (answer_in tree streams ask) ≡ false
ran_out-in tree streams (asks.Look path follow) = ran_out-told tree (asks.Look path follow)
ran_out-in tree streams (asks.Read path) = ran_out-told tree (asks.Read path)
ran_out-in tree streams (asks.OpenDir path) = ran_out-dir (least_closed streams) (opened tree path)
ran_out-in tree streams (asks.NextEntry dir) = ran_out-entry (still_gives streams dir)
ran_out-in tree streams (asks.CloseDir dir) = ran_out-told tree (asks.CloseDir dir)
ran_out-in tree streams (asks.MakeDir path) = ran_out-told tree (asks.MakeDir path)
ran_out-in tree streams (asks.NewFile path) = ran_out-told tree (asks.NewFile path)
ran_out-in tree streams (asks.Append path bytes) = ran_out-told tree (asks.Append path bytes)
ran_out-in tree streams (asks.Rename from to) = ran_out-told tree (asks.Rename from to)
ran_out-in tree streams (asks.Remove path) = ran_out-told tree (asks.Remove path)

ran_out-either : (fails : Bool) (answer : DiskAnswer) → ran_out answer ≡ false
    → ran_out (if fails then answers.Refused disk_errors.Failed else answer) ≡ false
ran_out-either true answer told = refl
ran_out-either false answer told = told

pub never_wants : (disk : Volume) (ask : DiskAsk) → answers.Refused disk_errors.NoMemory ≢ answer_now disk ask
never_wants disk ask e =
    let none : ran_out (answer_now disk ask) ≡ false = ran_out-either (fails_now disk ask) (answer_in (tree_of disk.state) disk.streams ask) (ran_out-in (tree_of disk.state) disk.streams ask) in
    let some : true ≡ ran_out (answer_now disk ask) = ap ran_out e in
    cc (none, some)

-- ---- the disk after a call

-- one that fails makes no change
after_either : (disk : Volume) (change : Option Change) (fails : Bool)
    → written disk.state (if fails then None else change) ≡ (if fails then disk.state else written disk.state change)
after_either disk change true = refl
after_either disk change false = refl

-- a call that makes no change in the tree
pub change_by-quiet : (disk : Volume) (ask : DiskAsk) → change_of_ask (tree_of disk.state) ask ≡ None → change_by disk ask ≡ None
change_by-quiet disk ask quiet = by_failing (fails_now disk ask)
  where
    by_failing : (fails : Bool) → (if fails then None else change_of_ask (tree_of disk.state) ask) ≡ None
    by_failing true = refl
    by_failing false = quiet

-- the disk after the record of a call is the disk after the call
pub after_ask-change : (disk : Volume) (ask : DiskAsk)
    → after_ask disk ask ≡ record (after_ask disk ask) { state = written disk.state (change_by disk ask) }
unfolding after_ask
after_ask-change disk ask = ap (λ (s : State). record (after_ask disk ask) { state = s }) (sym (after_either disk (change_of_ask (tree_of disk.state) ask) (fails_now disk ask)))

-- a stat and a read make no change
pub look_quiet : (path : Path) (follow : Bool) (tree : Tree) → change_of_ask tree (asks.Look path follow) ≡ None
unfolding change_of_ask
look_quiet path follow tree = refl

pub read_quiet : (path : Path) (tree : Tree) → change_of_ask tree (asks.Read path) ≡ None
unfolding change_of_ask
read_quiet path tree = refl
