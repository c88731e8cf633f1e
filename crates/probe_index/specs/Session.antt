-- What the program promises of each status, by its words, its source and its sink.
use Rattle.std.specs.Prelude.{◌≡◌, ℕ, List, [], Option, IfSome}
use Rattle.odb_program.specs.Session.{FailedRead, FailedWrite, Finished, Input, Output, ReadToEnd, Wrote}
use Rattle.probe_index.specs.declared.asked.Asked.{Asked}
use Rattle.probe_index.specs.declared.command.Command.{Command}
use Rattle.probe_index.specs.declared.command.Command.TheVariants.{Probe, Help, Version, NoWords, NotUnderstood}
use Rattle.probe_index.specs.declared.status.Status.{Status}
use Rattle.probe_index.specs.declared.status.Status.TheVariants as statuses
use Rattle.probe_index.specs.Probe.{WritesOf}

-- the texts that the program writes about itself
pub record Texts : Type 0 where
  pub usage : List ℕ
  pub help : List ℕ
  pub version : List ℕ

-- Before and after a session: what the words ask, what was read and what was written; and the texts about the program.
pub record Session : Type 0 where
  pub command : Command
  pub input : Input
  pub output : Output
  pub texts : Texts

-- What is written with a status, by the bytes of the source, if it reported them. Words that ask for no ids are answered by
-- a text, whatever is in the source.
abbrev pub WritesFor : Texts → Command → Option (List ℕ) → List ℕ → Status → Type 0
WritesFor texts (Probe asked) left written status = IfSome left (λ file. WritesOf asked file written status)
WritesFor texts Help left written status = (status ≡ statuses.Done) × (written ≡ texts.help)
WritesFor texts Version left written status = (status ≡ statuses.Done) × (written ≡ texts.version)
WritesFor texts NoWords left written status = (status ≡ statuses.NoWords) × (written ≡ texts.usage)
WritesFor texts NotUnderstood left written status = (status ≡ statuses.NotUnderstood) × (written ≡ texts.usage)

abbrev pub Writes : Session → List ℕ → Status → Type 0
Writes s written status = WritesFor s.texts s.command s.input.left written status

-- a whole output was written with that status
abbrev pub Finishes : Session → Status → Type 0
Finishes s status = Finished (Writes s) s.output status

-- the words ask for ids
abbrev pub Asks : Session → Type 0
Asks s = (asked : Asked) × (s.command ≡ Probe asked)

-- only words that ask for ids read the source
abbrev pub ReadsIts : Command → Input → Type 0
ReadsIts (Probe asked) input = ReadToEnd input.left input.left'
ReadsIts command input = Unit {0}

-- only they change the source
abbrev pub LeavesIts : {S : Type 0} → Command → S → S → Type 0
LeavesIts (Probe asked) before now = Unit {0}
LeavesIts command before now = now ≡ before

-- What each status says. Out of memory is the one status without a cause.
abbrev pub Ends : Session → Status → Type 0
Ends s statuses.Done = Finishes s statuses.Done × ReadsIts s.command s.input
Ends s statuses.NoWords = (s.command ≡ NoWords) × Finishes s statuses.NoWords
Ends s statuses.NotUnderstood = (s.command ≡ NotUnderstood) × Finishes s statuses.NotUnderstood
Ends s (statuses.Refused why) = Asks s × Finishes s (statuses.Refused why)
Ends s statuses.ReadFault = Asks s × FailedRead s.input s.output
Ends s statuses.WriteFault = FailedWrite (Writes s) s.output
Ends s statuses.NoMemory = Wrote s.output []
