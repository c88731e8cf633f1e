-- The exit status of each end of the program, and the message on standard error.
use Rattle.std.specs.Prelude.{ℕ, List, [], codes}
use Rattle.gitodb.specs.declared.status.Status.{Status}
use Rattle.gitodb.specs.declared.status.Status.TheVariants.{Done, NoWords, NotUnderstood, Refused, ReadFault, WriteFault, NoMemory, NotBuilt}

abbrev pub code_of : Status → ℕ
code_of Done = 0
code_of NoWords = 1
code_of NotUnderstood = 1
code_of (Refused told) = 2
code_of ReadFault = 3
code_of WriteFault = 4
code_of NoMemory = 5
code_of (NotBuilt told) = 8

-- the message, without the program's name; nothing if all went well
abbrev pub note_of : Status → List ℕ
note_of Done = []
note_of NoWords = codes "no words: gitodb --help tells which there are"
note_of NotUnderstood = codes "no such words: gitodb --help tells which there are"
note_of (Refused told) = told
note_of ReadFault = codes "standard input can't be read"
note_of WriteFault = codes "standard output can't be written"
note_of NoMemory = codes "out of memory"
note_of (NotBuilt told) = told
