-- What the program promises of each status, by its words, its disk and its two sinks.
use Rattle.std.specs.Prelude.{◌≡◌, ◌⊎◌, ℕ, Bool, true, false, List, [], Option, Result, Ok, Err, if◌then◌else◌}
use Rattle.odb_base.specs.Faults.{Rose}
use Rattle.odb_disk.specs.Streams.{Streams}
use Rattle.odb_program.specs.Session.{Output, Wrote, WroteFront}
use Rattle.odb_disk.specs.Tree.{State}
use Rattle.walkdir.specs.OwnStreams.{AreBack}
use Rattle.list_walk.specs.Asked.{options_of}
use Rattle.list_walk.specs.Visits.{Moment, Visits, VisitsCut}
use Rattle.list_walk.specs.declared.line.LineError.{LineError}
use Rattle.list_walk.specs.declared.line.LineError.TheVariants as errors
use Rattle.list_walk.specs.declared.command.Command.{Command}
use Rattle.list_walk.specs.declared.command.Command.TheVariants.{Walk, Help, Version, NotUnderstood}
use Rattle.list_walk.specs.declared.words.Asked.{Asked}
use Rattle.list_walk.specs.declared.status.Status.{Status}
use Rattle.list_walk.specs.declared.status.Status.TheVariants as statuses

-- Before and after a session: what the words ask, and whether `help` is the only one; the disk, if it reports its tree, its
-- streams and its counts of faults; what was written on standard output and on standard error; and the texts that the
-- program writes about itself.
pub record Session : Type 0 where
  pub command : Command
  pub is_help : Bool
  pub state : Option State
  pub streams : Streams
  pub streams' : Streams
  pub disk_faults : ℕ
  pub disk_faults' : ℕ
  pub output : Output
  pub errors : Output
  pub help : List ℕ
  pub version : List ℕ
  pub refusal : List ℕ

abbrev pub first_of : Session → Moment
first_of s = record { streams = s.streams; disk_faults = s.disk_faults; held = s.output.held; told = s.errors.held }

abbrev pub last_of : Session → Moment
last_of s = record { streams = s.streams'; disk_faults = s.disk_faults'; held = s.output.held'; told = s.errors.held' }

-- all folders that are asked for were walked, and the status is theirs
pub record AllListed (s : Session) (status : Status) : Type 0 where
  pub asked : Asked
  pub asks : s.command ≡ Walk asked
  pub visits : Visits asked.choices s.state (first_of s) asked.folders (last_of s) status

-- the first folders were walked, and then a walk was cut off
pub record ListedCut (s : Session) : Type 0 where
  pub asked : Asked
  pub asks : s.command ≡ Walk asked
  pub visits : VisitsCut asked.choices s.state asked.folders (first_of s) (last_of s)

-- what a command writes about the program, with its status
abbrev pub TextOf : Session → Command → List ℕ → Status → Type 0
TextOf s (Walk asked) text status = ⊥
TextOf s Help text status = (text ≡ s.help) × (status ≡ statuses.Done)
TextOf s Version text status = (text ≡ s.version) × (status ≡ statuses.Done)
TextOf s (NotUnderstood told) text status = (text ≡ s.refusal) × (status ≡ statuses.NotUnderstood told)

-- such a text was written, and nothing on standard error
pub record Texts (s : Session) (status : Status) : Type 0 where
  pub text : List ℕ
  pub is : TextOf s s.command text status
  pub wrote : Wrote s.output text
  pub quiet : Wrote s.errors []

-- a prefix of such a text was written
pub record TextCut (s : Session) : Type 0 where
  pub text : List ℕ
  pub status : Status
  pub is : TextOf s s.command text status
  pub wrote : WroteFront s.output text
  pub quiet : Wrote s.errors []

-- What each status says. Out of memory is the one status without a cause.
abbrev pub Ends : Session → Status → Type 0
Ends s statuses.Done = AllListed s statuses.Done ⊎ Texts s statuses.Done
Ends s statuses.SomeErrors = (s.is_help ≡ false) × AllListed s statuses.SomeErrors
Ends s statuses.HelpSought = (s.is_help ≡ true) × AllListed s statuses.SomeErrors
Ends s (statuses.NotUnderstood told) = Texts s (statuses.NotUnderstood told)
Ends s statuses.WriteFault = Rose s.output.faults s.output.faults' × (ListedCut s ⊎ TextCut s)
Ends s statuses.ErrorFault = Rose s.errors.faults s.errors.faults' × ListedCut s
Ends s statuses.NoMemory = (Wrote s.output [] × Wrote s.errors []) ⊎ ListedCut s

-- the status for a line that failed
abbrev pub status_by : Result Status LineError → Status
status_by (Ok status) = status
status_by (Err errors.OutputFailed) = statuses.WriteFault
status_by (Err errors.ErrorsFailed) = statuses.ErrorFault
status_by (Err errors.NoMemory) = statuses.NoMemory

-- the status, with a hint at help if `help` is the only word and gave errors
abbrev pub hinted : Status → Bool → Status
hinted statuses.SomeErrors is_help = if is_help then statuses.HelpSought else statuses.SomeErrors
hinted status is_help = status

-- The disk's streams after a session: as they were. The walks had no more of their own than `max_open` at one time.
abbrev pub StreamsBack : Command → Streams → Streams → Type 0
StreamsBack (Walk asked) before now = AreBack before (options_of asked.choices).max_open now
StreamsBack command before now = now ≡ before
