-- What a tree answers to a call that is given as a value, which change the call makes, and the state after it.
use Rattle.std.specs.Prelude.{◌≡◌, ℕ, Bool, true, false, List, [], ◌∷◌, Option, Some, None, Result, Ok, Err}
use Rattle.std.specs.Result.{result_ok}
use Rattle.odb_base.specs.Path.{Path}
use Rattle.odb_disk.specs.Tree.{Tree, State, tree_of}
use Rattle.odb_disk.specs.Tree.Write as writing
use Rattle.odb_disk.specs.Tree.Write.{change_of_make_dir, change_of_new_file, change_of_append, change_of_rename, change_of_remove, written}
use Rattle.odb_disk.specs.Tree.Follow.{Refusal, Absent, WrongKind, LinkLoop, looked, read_of}
use Rattle.odb_disk.specs.Entries.{opened}
use Rattle.odb_disk.specs.declared.change.Change.{Change}
use Rattle.odb_disk.specs.declared.meta.Meta.{Meta}
use Rattle.odb_disk.specs.declared.entry.Entry.{Entry}
use Rattle.odb_disk.specs.declared.disk_error.DiskError.{DiskError}
use Rattle.odb_disk.specs.declared.disk_error.DiskError.TheVariants as errors
use Rattle.odb_disk.specs.declared.ask.DiskAsk.{DiskAsk}
use Rattle.odb_disk.specs.declared.ask.DiskAsk.TheVariants as asks
use Rattle.odb_disk.specs.declared.ask.DiskAnswer.{DiskAnswer}
use Rattle.odb_disk.specs.declared.ask.DiskAnswer.TheVariants as answers
use Rattle.odb_disk.specs.declared.ask.Op.{Op}
use Rattle.odb_disk.specs.declared.ask.Op.TheVariants as ops

-- the error with which a refusal is answered
abbrev pub error_of : Refusal → DiskError
error_of Absent = errors.Absent
error_of WrongKind = errors.WrongKind
error_of LinkLoop = errors.LinkLoop

abbrev pub error_of_write : writing.Refusal → DiskError
error_of_write writing.Absent = errors.Absent
error_of_write writing.WrongKind = errors.WrongKind
error_of_write writing.LinkLoop = errors.LinkLoop
error_of_write writing.Exists = errors.Exists
error_of_write writing.NotEmpty = errors.NotEmpty

abbrev pub meta_answer : Result Meta Refusal → DiskAnswer
meta_answer (Ok found) = answers.Meta found
meta_answer (Err refusal) = answers.Refused (error_of refusal)

abbrev pub file_answer : Result (List ℕ × ℕ) Refusal → DiskAnswer
file_answer (Ok file) = answers.File file.0 file.1
file_answer (Err refusal) = answers.Refused (error_of refusal)

abbrev pub write_answer : {A : Type 0} → Result A writing.Refusal → DiskAnswer
write_answer (Ok x) = answers.Done
write_answer (Err refusal) = answers.Refused (error_of_write refusal)

-- the answers to an opening that would give this number, and to a stream that has these entries left
abbrev pub dir_answer : ℕ → Result (List Entry) Refusal → DiskAnswer
dir_answer dir (Ok entries) = answers.Dir dir
dir_answer dir (Err refusal) = answers.Refused (error_of refusal)

abbrev pub entry_answer : Option (List Entry) → DiskAnswer
entry_answer (Some (entry ∷ rest)) = answers.Entry entry
entry_answer (Some []) = answers.End
entry_answer None = answers.Refused errors.Absent

-- What a tree answers to a call if no stream is open. A call that isn't on a stream is answered so whatever streams are
-- open.
unfoldable pub answer_of : Tree → DiskAsk → DiskAnswer
answer_of tree (asks.Look path follow) = meta_answer (looked tree path follow)
answer_of tree (asks.Read path) = file_answer (read_of tree path)
answer_of tree (asks.OpenDir path) = dir_answer 0 (opened tree path)
answer_of tree (asks.NextEntry dir) = answers.Refused errors.Absent
answer_of tree (asks.CloseDir dir) = answers.Done
answer_of tree (asks.MakeDir path) = write_answer (change_of_make_dir tree path)
answer_of tree (asks.NewFile path) = write_answer (change_of_new_file tree path)
answer_of tree (asks.Append path bytes) = write_answer (change_of_append tree path bytes)
answer_of tree (asks.Rename from to) = write_answer (change_of_rename tree from to)
answer_of tree (asks.Remove path) = write_answer (change_of_remove tree path)

-- the change of a call in a tree: one that only reads makes none, and one that fails makes none
unfoldable pub change_of_ask : Tree → DiskAsk → Option Change
change_of_ask tree (asks.Look path follow) = None
change_of_ask tree (asks.Read path) = None
change_of_ask tree (asks.OpenDir path) = None
change_of_ask tree (asks.NextEntry dir) = None
change_of_ask tree (asks.CloseDir dir) = None
change_of_ask tree (asks.MakeDir path) = result_ok (change_of_make_dir tree path)
change_of_ask tree (asks.NewFile path) = result_ok (change_of_new_file tree path)
change_of_ask tree (asks.Append path bytes) = result_ok (change_of_append tree path bytes)
change_of_ask tree (asks.Rename from to) = result_ok (change_of_rename tree from to)
change_of_ask tree (asks.Remove path) = result_ok (change_of_remove tree path)

-- The name of a call, and its path: the source, if there are two. A call on an open stream has none.
abbrev pub op_of : DiskAsk → Op
op_of (asks.Look path follow) = ops.Look
op_of (asks.Read path) = ops.Read
op_of (asks.OpenDir path) = ops.OpenDir
op_of (asks.NextEntry dir) = ops.NextEntry
op_of (asks.CloseDir dir) = ops.CloseDir
op_of (asks.MakeDir path) = ops.MakeDir
op_of (asks.NewFile path) = ops.NewFile
op_of (asks.Append path bytes) = ops.Append
op_of (asks.Rename from to) = ops.Rename
op_of (asks.Remove path) = ops.Remove

abbrev pub path_asked : DiskAsk → Option Path
path_asked (asks.Look path follow) = Some path
path_asked (asks.Read path) = Some path
path_asked (asks.OpenDir path) = Some path
path_asked (asks.NextEntry dir) = None
path_asked (asks.CloseDir dir) = None
path_asked (asks.MakeDir path) = Some path
path_asked (asks.NewFile path) = Some path
path_asked (asks.Append path bytes) = Some path
path_asked (asks.Rename from to) = Some from
path_asked (asks.Remove path) = Some path

-- the answer is the tree's, unless the call failed or memory ran out
abbrev pub AnswersAsk : DiskAnswer → DiskAnswer → Type 0
AnswersAsk (answers.Refused errors.Failed) told = Unit {0}
AnswersAsk (answers.Refused errors.NoMemory) told = Unit {0}
AnswersAsk answer told = answer ≡ told

-- whether memory ran out
abbrev pub ran_out : DiskAnswer → Bool
ran_out (answers.Refused errors.NoMemory) = true
ran_out answer = false

-- the state after a call with this answer: its change is made if it was done
abbrev pub state_after : State → DiskAsk → DiskAnswer → State
state_after state ask answers.Done = written state (change_of_ask (tree_of state) ask)
state_after state ask answer = state

-- the state after a call, on a disk that may not report its state
abbrev pub state_told_after : Option State → DiskAsk → DiskAnswer → Option State
state_told_after None ask answer = None
state_told_after (Some state) ask answer = Some (state_after state ask answer)
