-- The pieces of a line that is written to standard error.
use Rattle.std.proofs.Common.{ℕ, List, ◌++◌, codes, Option}
use Rattle.odb_mem_disk.specs.Source.{Adds}
use Rattle.odb_program.specs.Report.{line_of}
use Rattle.odb_program.proofs.AddsLaws.{adds_both}

pub adds_line : (before named parted told' now : Option (List ℕ)) (program told : List ℕ) → Adds before named program → Adds named parted (codes ": ") → Adds parted told' told
    → Adds told' now (codes "\n")
    → Adds before now (line_of program told)
adds_line before named parted told' now program told first second third last =
    adds_both before named now program (codes ": " ++ (told ++ codes "\n")) first
    (adds_both named parted now (codes ": ") (told ++ codes "\n") second (adds_both parted told' now told (codes "\n") third last))
