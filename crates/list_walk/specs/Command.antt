-- What the words of the command line ask for: a text about the program, or walks.
use Rattle.std.specs.Prelude.{ℕ, Bool, false, List, [], ◌∷◌, codes, Option, Some, None, Result, Ok, Err, if◌then◌else◌}
use Rattle.odb_base.specs.Path.{Path, same_name}
use Rattle.list_walk.specs.Told.{told_of}
use Rattle.list_walk.specs.Words.{asked_of}
use Rattle.list_walk.specs.declared.command.Command.{Command}
use Rattle.list_walk.specs.declared.command.Command.TheVariants.{Walk, Help, Version, NotUnderstood}
use Rattle.list_walk.specs.declared.misread.Misread.TheVariants.{NoWords}
use Rattle.list_walk.specs.declared.words.Asked.{Asked}

-- what a word decides, if anything: that the program is asked about, or, as `--` does, that it isn't
unfoldable pub decided : List ℕ → Option (Option Command)
decided word =
    if same_name word (codes "--") then Some None
    else if same_name word (codes "--help") then Some (Some Help)
    else if same_name word (codes "--version") then Some (Some Version)
    else None

abbrev pub by_first : Option (Option Command) → Option Command → Option Command
by_first (Some answer) later = answer
by_first None later = later

-- the first word before `--` that asks about the program, at any place
unfoldable pub about : List (List ℕ) → Option Command
about [] = None
about (word ∷ words) = by_first (decided word) (about words)

abbrev pub command_with : Result Asked (List ℕ) → Command
command_with (Err told) = NotUnderstood told
command_with (Ok asked) = Walk asked

-- words that don't ask about the program
abbrev pub walk_of_words : Option Path → List (List ℕ) → Command
walk_of_words home [] = NotUnderstood (told_of NoWords [])
walk_of_words home (word ∷ words) = command_with (asked_of home (word ∷ words))

abbrev pub command_or : Option Command → Command → Command
command_or (Some command) walk = command
command_or None walk = walk

-- whether `help` is the only word
abbrev pub seeks_help : List (List ℕ) → Bool
seeks_help [] = false
seeks_help (word ∷ []) = same_name word (codes "help")
seeks_help (word ∷ other ∷ words) = false

-- what the words of the command line ask for
abbrev pub command_of : Option Path → List (List ℕ) → Command
command_of home words = command_or (about words) (walk_of_words home words)
