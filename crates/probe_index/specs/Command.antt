-- What the words of the command line ask for: a text about the program, or where ids are.
use Rattle.std.specs.Prelude.{ℕ, List, [], ◌∷◌, codes, Option, Some, None, if◌then◌else◌}
use Rattle.odb_base.specs.Path.{same_name}
use Rattle.probe_index.specs.Asked.{asked_of}
use Rattle.probe_index.specs.declared.asked.Asked.{Asked}
use Rattle.probe_index.specs.declared.command.Command.{Command}
use Rattle.probe_index.specs.declared.command.Command.TheVariants.{Probe, Help, Version, NoWords, NotUnderstood}

-- no words, or a single one that asks about the program
abbrev pub about : List (List ℕ) → Option Command
about [] = Some NoWords
about (word ∷ []) =
    if same_name word (codes "--help") then Some Help
    else if same_name word (codes "--version") then Some Version
    else None
about (word ∷ other ∷ words) = None

abbrev pub command_with : Option Asked → Command
command_with None = NotUnderstood
command_with (Some asked) = Probe asked

abbrev pub command_or : Option Command → Option Asked → Command
command_or (Some command) asked = command
command_or None asked = command_with asked

-- what the words of the command line ask for
abbrev pub command_of : List (List ℕ) → Command
command_of words = command_or (about words) (asked_of words)
