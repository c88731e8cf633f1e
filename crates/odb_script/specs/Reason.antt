-- Why a line of a script is refused.
use Rattle.std.specs.Prelude.{ℕ, ◌-◌, ◌&&◌, Bool, true, false, List, [], get_or, length, nat_le, Option, Some, None, if◌then◌else◌}
use Rattle.std.specs.Str.{is_utf8}
use Rattle.odb_script.specs.Line.{item_of}
use Rattle.odb_script.specs.Split.{fields_of, lines_in}
use Rattle.odb_script.specs.declared.item.Item.{Item}
use Rattle.odb_script.specs.declared.item.Item.TheVariants as items
use Rattle.odb_script.specs.declared.reader.Script.{Script}
use Rattle.odb_script.specs.declared.reader.Script.TheVariants.{Faults, Setup, Steps}
use Rattle.odb_script.specs.Fault.{fault_in}
use Rattle.odb_script.specs.declared.fault.Fault.{Fault}
use Rattle.odb_script.specs.declared.reason.Reason.{Reason}
use Rattle.odb_script.specs.declared.reason.Reason.TheVariants.{TooLong, NotText, Field, Impossible, OutOfPlace}

-- ---- of the line alone

-- a line of text whose fields are all right is out of place, if it is refused
abbrev pub by_fault : Option Fault → Reason
by_fault None = OutOfPlace
by_fault (Some fault) = Field fault.field fault.mistake

unfoldable pub line_reason : List ℕ → Reason
line_reason line = if is_utf8 line then by_fault (fault_in (fields_of line)) else NotText

-- whether a line is outside the language everywhere
abbrev pub is_outside : Item → Bool
is_outside items.Refused = true
is_outside item = false

-- ---- of a line of the language, after the lines before it

-- a change of the setup may come before the steps, if it is possible
abbrev pub of_change : Script → Reason
of_change (Faults numbers) = Impossible
of_change (Setup disk) = Impossible
of_change (Steps disk lines) = OutOfPlace

abbrev pub placed : Script → Item → Reason
placed script (items.Setup change) = of_change script
placed script item = OutOfPlace

-- why a script, read so far, refuses its next line, if it does
abbrev pub reason_of : Script → List ℕ → Reason
reason_of script line = if is_outside (item_of line) then line_reason line else placed script (item_of line)

-- ---- of a line by its number

-- the line with a number, counted from 1, without its line feed; empty if no line has it
abbrev pub line_at : List ℕ → ℕ → List ℕ
line_at bytes number = get_or (lines_in bytes) (number - 1) []

abbrev pub is_last : List ℕ → ℕ → Bool
is_last bytes number = nat_le (length (lines_in bytes)) number

-- Why the line with this number is refused, if a script, read up to it, refuses it. The last line of a prefix of a script
-- that is too long is refused for that.
abbrev pub reason_in : Bool → Script → List ℕ → ℕ → Reason
reason_in is_cut script bytes number =
    if is_cut && is_last bytes number then TooLong else reason_of script (line_at bytes number)
