-- What the program promises of each status, by its command line, its source and its sink.
use Rattle.std.specs.Prelude.{◌≡◌, ℕ, List, [], ◌∷◌, ◌++◌, codes, Option, IfSome, if◌then◌else◌}
use Rattle.std.specs.Fmt.{decimal}
use Rattle.odb_base.specs.Path.{same_name}
use Rattle.odb_disk.specs.MemDisk.{Volume}
use Rattle.odb_program.specs.Session.{FailedRead, FailedWrite, Finished, Input, Output, ReadToEnd, Wrote}
use Rattle.gix_odb_world.specs.Play.{IsPlayed}
use Rattle.gix_odb_calls.specs.declared.line.Line.{Line}
use Rattle.gix_odb_world.specs.declared.play.Play.{Play}
use Rattle.gitodb.specs.declared.command.Command.{Command}
use Rattle.gitodb.specs.declared.command.Command.TheVariants.{World, Help, Version, NoWords, NotUnderstood}
use Rattle.gitodb.specs.declared.status.Status.{Status}
use Rattle.gitodb.specs.declared.status.Status.TheVariants as statuses
use Rattle.odb_script.specs.declared.reader.Ending.{Ending}
use Rattle.odb_script.specs.declared.reader.Ending.TheVariants.{Whole, RefusedAt, NotBuiltAt}
use Rattle.odb_script.specs.Script.{reading_of, disk_of, lines_of}
use Rattle.odb_script.specs.Told.{told_of}
use Rattle.odb_script.specs.Print.{printed_at}

-- the command of the words of the command line
abbrev pub command_of : List (List ℕ) → Command
command_of [] = NoWords
command_of (word ∷ []) =
    if same_name word (codes "world") then World
    else if same_name word (codes "--help") then Help
    else if same_name word (codes "--version") then Version
    else NotUnderstood
command_of (word ∷ other ∷ words) = NotUnderstood

-- the text with which a script ends
abbrev pub ending_text : Ending → List ℕ
ending_text Whole = []
ending_text (RefusedAt line) = codes "line " ++ decimal line ++ codes " refused" ++ codes "\n"
ending_text (NotBuiltAt line) = codes "line " ++ decimal line ++ codes " not built" ++ codes "\n"

-- a script makes this disk, plays these lines on it, and has this ending
pub record Says (script : List ℕ) (disk : Volume) (lines : List Line) (ending : Ending) : Type 0 where
  pub disk_is : disk ≡ disk_of (reading_of script).script
  pub lines_are : lines ≡ lines_of (reading_of script).script
  pub ends : ending ≡ (reading_of script).ending

-- What `world` writes for a script with this ending: line after line, the printed outcome of the last step of that line, from a
-- run of the script's disk that meets the theorem of a world; and then the text of the ending.
pub record Answers (script written : List ℕ) (ending : Ending) : Type 0 where
  pub ends : (reading_of script).ending ≡ ending
  pub play : Play
  pub played : IsPlayed (disk_of (reading_of script).script) (lines_of (reading_of script).script) play
  pub written_is : written ≡ printed_at play.run.outcomes play.last ++ ending_text ending

-- the status of a script with this ending and this message
abbrev pub status_by : Ending → List ℕ → Status
status_by Whole told = statuses.Done
status_by (RefusedAt line) told = statuses.Refused told
status_by (NotBuiltAt line) told = statuses.NotBuilt told

-- What `world` writes, and its status. The status of a refused line has the reason, and that of a line that isn't built yet has
-- the field that isn't.
pub record AnswersWith (script written : List ℕ) (status : Status) : Type 0 where
  pub ending : Ending
  pub answers : Answers script written ending
  pub status_is : status ≡ status_by ending (told_of script)

-- A session, before and after: the command, what was read and what was written; and the two texts that the program writes about
-- itself.
pub record Session : Type 0 where
  pub command : Command
  pub input : Input
  pub output : Output
  pub help : List ℕ
  pub version : List ℕ

-- what is written if the words are no command
abbrev pub refusal : List ℕ
refusal = codes "words not understood\n"

-- what a command writes with a status, by the bytes of the source, if it reported them
abbrev pub WritesFor : List ℕ → List ℕ → Command → Option (List ℕ) → List ℕ → Status → Type 0
WritesFor help version World left written status = IfSome left (λ script. AnswersWith script written status)
WritesFor help version Help left written status = (status ≡ statuses.Done) × (written ≡ help)
WritesFor help version Version left written status = (status ≡ statuses.Done) × (written ≡ version)
WritesFor help version NoWords left written status = (status ≡ statuses.NoWords) × (written ≡ refusal)
WritesFor help version NotUnderstood left written status = (status ≡ statuses.NotUnderstood) × (written ≡ refusal)

abbrev pub Writes : Session → List ℕ → Status → Type 0
Writes s written status = WritesFor s.help s.version s.command s.input.left written status

-- a whole output was written with that status
abbrev pub Finishes : Session → Status → Type 0
Finishes s status = Finished (Writes s) s.output status

-- only `world` reads its source
abbrev pub ReadsIts : Command → Input → Type 0
ReadsIts World input = ReadToEnd input.left input.left'
ReadsIts command input = Unit {0}

-- What each status says. Running out of memory is the only status without a cause.
abbrev pub Ends : Session → Status → Type 0
Ends s statuses.Done = Finishes s statuses.Done × ReadsIts s.command s.input
Ends s statuses.NoWords = (s.command ≡ NoWords) × Finishes s statuses.NoWords
Ends s statuses.NotUnderstood = (s.command ≡ NotUnderstood) × Finishes s statuses.NotUnderstood
Ends s (statuses.Refused told) = (s.command ≡ World) × Finishes s (statuses.Refused told)
Ends s statuses.ReadFault = (s.command ≡ World) × FailedRead s.input s.output
Ends s statuses.WriteFault = FailedWrite (Writes s) s.output
Ends s statuses.NoMemory = (s.command ≡ World) × Wrote s.output []
Ends s (statuses.NotBuilt told) = (s.command ≡ World) × Finishes s (statuses.NotBuilt told)
