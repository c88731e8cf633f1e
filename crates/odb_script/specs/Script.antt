-- A script: its lines, the disk after its setup, the lines to play, and where it ends.
use Rattle.std.specs.Prelude.{ℕ, ◌+◌, List, [], ◌∷◌, ◌++◌, length, map, take, nat_le, if◌then◌else◌, Bool, true, false}
use Rattle.std.specs.FinSet as set
use Rattle.odb_disk.specs.Tree.Change.{is_possible}
use Rattle.odb_disk.specs.MemDisk.{Volume, new_volume, after_outside_change}
use Rattle.odb_disk.specs.declared.change.Change.{Change}
use Rattle.gix_odb_calls.specs.declared.line.Line.{Line}
use Rattle.odb_script.specs.declared.item.Item.{Item}
use Rattle.odb_script.specs.declared.item.Item.TheVariants as items
use Rattle.odb_script.specs.declared.reader.Script.{Script}
use Rattle.odb_script.specs.declared.reader.Script.TheVariants.{Faults, Setup, Steps}
use Rattle.odb_script.specs.declared.reader.Taken.{Taken}
use Rattle.odb_script.specs.declared.reader.Taken.TheVariants.{GoesOn, RefusedHere, NotBuiltHere}
use Rattle.odb_script.specs.declared.reader.Ending.TheVariants.{Whole, RefusedAt, NotBuiltAt}
use Rattle.odb_script.specs.declared.reader.Reading.{Reading}
pub use Rattle.odb_script.specs.Split.{lines_in}
use Rattle.odb_script.specs.Line.{item_of}

-- the most bytes of a script, 64 MiB: a source that never ends is refused
abbrev pub script_limit : ℕ
script_limit = 67_108_864

-- all but the last
abbrev pub but_last : List (List ℕ) → List (List ℕ)
but_last [] = []
but_last (line ∷ []) = []
but_last (line ∷ other ∷ lines) = line ∷ but_last (other ∷ lines)

-- what the last line of a script says; it is refused if it is cut off
abbrev pub last_item : Bool → List ℕ → Item
last_item is_cut line = if is_cut then items.Refused else item_of line

-- what the lines of a script say, or of a prefix of one, whose last line is refused
abbrev pub items_in : Bool → List (List ℕ) → List Item
items_in false lines = map item_of lines
items_in true lines = map item_of (but_last lines) ++ items.Refused ∷ []

-- what the lines of a script say; if it is too long, the line with the first byte too many is refused
unfoldable pub items_of : List ℕ → List Item
items_of bytes =
    if nat_le (length bytes) script_limit
    then items_in false (lines_in bytes)
    else items_in true (lines_in (take script_limit bytes))

abbrev pub disk_with : List ℕ → Volume
disk_with numbers = new_volume (set.from_list numbers)

-- the disk after the script's setup, and the lines that it plays
abbrev pub disk_of : Script → Volume
disk_of (Faults numbers) = disk_with numbers
disk_of (Setup disk) = disk
disk_of (Steps disk lines) = disk

abbrev pub lines_of : Script → List Line
lines_of (Faults numbers) = []
lines_of (Setup disk) = []
lines_of (Steps disk lines) = lines

-- a change of the setup, which has to be possible
abbrev pub set_up : Script → Volume → Change → Taken
set_up script disk change = if is_possible disk.state change then GoesOn (Setup (after_outside_change disk change)) else RefusedHere script

-- after a line the script goes on, or ends there
unfoldable pub taken : Script → Item → Taken
taken script items.Blank = GoesOn script
taken script items.NotBuilt = NotBuiltHere script
taken script items.Refused = RefusedHere script
taken (Faults numbers) (items.Fail number) = GoesOn (Faults (numbers ++ number ∷ []))
taken (Faults numbers) (items.Setup change) = set_up (Faults numbers) (disk_with numbers) change
taken (Faults numbers) items.Steps = GoesOn (Steps (disk_with numbers) [])
taken (Setup disk) (items.Setup change) = set_up (Setup disk) disk change
taken (Setup disk) items.Steps = GoesOn (Steps disk [])
taken (Steps disk lines) (items.Play line) = GoesOn (Steps disk (lines ++ line ∷ []))
taken script item = RefusedHere script

abbrev pub carried : (Script → Reading) → ℕ → Taken → Reading
carried further number (GoesOn script) = further script
carried further number (RefusedHere script) = record { script = script; ending = RefusedAt number }
carried further number (NotBuiltHere script) = record { script = script; ending = NotBuiltAt number }

-- the reading of lines, the first of which has a number; numbers count from 1
unfoldable pub reading_from : List Item → ℕ → Script → Reading
reading_from [] number script = record { script = script; ending = Whole }
reading_from (item ∷ items) number script = carried (reading_from items (number + 1)) number (taken script item)

-- the reading of a script with its last line, which has a number
abbrev pub reading_at : ℕ → Taken → Reading
reading_at number last = carried (reading_from [] (number + 1)) number last

-- the reading of a whole script
abbrev pub reading_of : List ℕ → Reading
reading_of bytes = reading_from (items_of bytes) 1 (Faults [])
