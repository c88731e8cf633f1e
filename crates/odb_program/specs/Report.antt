-- What a program writes to standard error.
use Rattle.std.specs.Prelude.{◌⊎◌, ℕ, List, [], ◌∷◌, ◌++◌, codes}
use Rattle.odb_base.specs.Faults.{Rose}
use Rattle.odb_program.specs.Session.{Output, Wrote}

-- a line after the program's name
abbrev pub line_of : List ℕ → List ℕ → List ℕ
line_of program told = program ++ (codes ": " ++ (told ++ codes "\n"))

-- a note is written as a line; an empty one isn't
unfoldable pub report_of : List ℕ → List ℕ → List ℕ
report_of program [] = []
report_of program (first ∷ told) = line_of program (first ∷ told)

-- it was written, or standard error failed
abbrev pub Tells : Output → List ℕ → Type 0
Tells errors told = Wrote errors told ⊎ Rose errors.faults errors.faults'
