-- The first field of a line that is wrong.
use Rattle.std.specs.Prelude.{ℕ, ◌+◌, List, [], ◌∷◌, Option, Some, None, if◌then◌else◌}
use Rattle.odb_script.specs.Split.{Fields}
use Rattle.odb_script.specs.Word.{change_word_of, word_of}
use Rattle.odb_script.specs.declared.word.ChangeWord.{ChangeWord}
use Rattle.odb_script.specs.declared.word.Word.{Word}
use Rattle.odb_script.specs.declared.word.Word.TheVariants as words
use Rattle.odb_script.specs.Expected.{expected_of, expected_of_change, further_of, is_spelled}
use Rattle.odb_script.specs.declared.expected.Expected.{Expected}
use Rattle.odb_script.specs.declared.expected.Expected.TheVariants.{Change}
use Rattle.odb_script.specs.declared.fault.Fault.{Fault}
use Rattle.odb_script.specs.declared.fault.Mistake.{Mistake}
use Rattle.odb_script.specs.declared.fault.Mistake.TheVariants.{NoSuchWord, NoSuchChange, Not, Missing, TooMany}

abbrev pub wrong : ℕ → Mistake → Option Fault
wrong number mistake = Some (record { field = number; mistake = mistake })

-- what the next field has to be, if there may be one
abbrev pub next_expected : Option Expected → List Expected → Option Expected
next_expected further [] = further
next_expected further (kind ∷ kinds) = Some kind

-- a line ends where a field has to follow
abbrev pub missing : List Expected → ℕ → Option Fault
missing [] number = None
missing (kind ∷ kinds) number = wrong number (Missing kind)

abbrev pub but_first : List Expected → List Expected
but_first [] = []
but_first (_ ∷ kinds) = kinds

-- the fault of a field that has to be this, if there may be one
abbrev pub judged : Option Expected → List ℕ → ℕ → Option Fault
judged None field number = wrong number TooMany
judged (Some kind) field number = if is_spelled kind field then None else wrong number (Not kind)

abbrev pub first_of : Option Fault → Option Fault → Option Fault
first_of (Some fault) later = Some fault
first_of None later = later

-- The first of some fields that isn't what it has to be; the first of them has this number. The fields have to be of these
-- kinds, and further ones, if there may be any, of one kind.
unfoldable pub first_wrong : Option Expected → List Expected → Fields → ℕ → Option Fault
first_wrong further kinds [] number = missing kinds number
first_wrong further kinds (field ∷ fields) number =
    first_of (judged (next_expected further kinds) field number) (first_wrong further (but_first kinds) fields (number + 1))

-- after `do` and its word
abbrev pub fault_of_change : Option ChangeWord → Fields → Option Fault
fault_of_change None fields = wrong 2 NoSuchChange
fault_of_change (Some word) fields = first_wrong None (expected_of_change word) fields 3

abbrev pub change_fault : Fields → Option Fault
change_fault [] = wrong 2 (Missing Change)
change_fault (word ∷ fields) = fault_of_change (change_word_of word) fields

-- by the first word of a line and the fields after it
abbrev pub fault_behind : Option Word → Fields → Option Fault
fault_behind None fields = wrong 1 NoSuchWord
fault_behind (Some words.NotBuilt) fields = None
fault_behind (Some words.Do) fields = change_fault fields
fault_behind (Some word) fields = first_wrong (further_of word) (expected_of word) fields 2

-- the first field of a line that is wrong, if any; its word is field 1
unfoldable pub fault_in : Fields → Option Fault
fault_in [] = None
fault_in (word ∷ fields) = fault_behind (word_of word) fields
