-- The exit status of each end of the program, and its message on standard error.
use Rattle.std.specs.Prelude.{ℕ, List, [], ◌++◌, codes}
use Rattle.probe_index.specs.Refusal.{reason_text}
use Rattle.probe_index.specs.declared.probe.Refusal.{Refusal}
use Rattle.probe_index.specs.declared.status.Status.{Status}
use Rattle.probe_index.specs.declared.status.Status.TheVariants.{Done, NoWords, NotUnderstood, Refused, ReadFault, WriteFault, NoMemory}

abbrev pub code_of : Status → ℕ
code_of Done = 0
code_of NoWords = 1
code_of NotUnderstood = 1
code_of (Refused why) = 2
code_of ReadFault = 3
code_of WriteFault = 4
code_of NoMemory = 5

-- the message on a file that is refused
abbrev pub refusal_note : Refusal → List ℕ
refusal_note why = codes "standard input is no such file: " ++ reason_text why

-- the message, without the program's name; none if all went well
abbrev pub note_of : Status → List ℕ
note_of Done = []
note_of NoWords = codes "no words: probe_index --help tells which there are"
note_of NotUnderstood = codes "each word has to be an id, and all of one length: see probe_index --help"
note_of (Refused why) = refusal_note why
note_of ReadFault = codes "standard input can't be read"
note_of WriteFault = codes "standard output can't be written"
note_of NoMemory = codes "out of memory"
