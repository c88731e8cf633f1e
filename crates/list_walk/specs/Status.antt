-- The exit status of each end of the program, and its message on standard error.
use Rattle.std.specs.Prelude.{ℕ, List, [], codes}
use Rattle.list_walk.specs.declared.status.Status.{Status}
use Rattle.list_walk.specs.declared.status.Status.TheVariants.{Done, NotUnderstood, SomeErrors, HelpSought, WriteFault, ErrorFault, NoMemory}

abbrev pub code_of : Status → ℕ
code_of Done = 0
code_of (NotUnderstood told) = 1
code_of SomeErrors = 2
code_of HelpSought = 2
code_of WriteFault = 4
code_of ErrorFault = 4
code_of NoMemory = 5

-- the message, without the program's name; none if the walks were made, whose errors have lines of their own
abbrev pub note_of : Status → List ℕ
note_of Done = []
note_of SomeErrors = []
note_of HelpSought = codes "`help` is taken for a folder: list_walk --help tells which words there are"
note_of (NotUnderstood told) = told
note_of WriteFault = codes "standard output can't be written"
note_of ErrorFault = codes "standard error can't be written"
note_of NoMemory = codes "out of memory"
