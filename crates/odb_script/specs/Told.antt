-- Why a line is refused, or what of one isn't built yet, in the words on standard error.
use Rattle.std.specs.Prelude.{ℕ, ◌-◌, ◌&&◌, Bool, true, false, List, [], ◌∷◌, ◌++◌, codes, get_or, length, nat_le, take, if◌then◌else◌}
use Rattle.std.specs.List.{flat_map}
use Rattle.std.specs.Fmt.{decimal}
use Rattle.hex.specs.Hex.{encode_lower}
use Rattle.odb_script.specs.Script.{reading_of, script_limit}
use Rattle.odb_script.specs.Split.{fields_of}
use Rattle.odb_script.specs.declared.reader.Ending.{Ending}
use Rattle.odb_script.specs.declared.reader.Ending.TheVariants.{Whole, RefusedAt, NotBuiltAt}
use Rattle.odb_script.specs.declared.reader.Script.{Script}
use Rattle.odb_script.specs.Expected.{name_of}
use Rattle.odb_script.specs.Reason.{line_at, reason_in}
use Rattle.odb_script.specs.declared.fault.Mistake.{Mistake}
use Rattle.odb_script.specs.declared.fault.Mistake.TheVariants.{NoSuchWord, NoSuchChange, Not, Missing, TooMany}
use Rattle.odb_script.specs.declared.reason.Reason.{Reason}
use Rattle.odb_script.specs.declared.reason.Reason.TheVariants.{TooLong, NotText, Field, Impossible, OutOfPlace}

-- ---- a field as it is shown

-- whether a byte is a printed character of ASCII
abbrev pub is_printed : ℕ → Bool
is_printed byte = nat_le 33 byte && nat_le byte 126

-- a printed character as it is, and any other byte as `\x` and two hex digits
abbrev pub shown_byte : ℕ → List ℕ
shown_byte byte = if is_printed byte then byte ∷ [] else 92 ∷ 120 ∷ encode_lower (byte ∷ [])

unfoldable pub shown_bytes : List ℕ → List ℕ
shown_bytes bytes = flat_map shown_byte bytes

-- the most bytes of a field that are shown
abbrev pub most_shown : ℕ
most_shown = 60

-- a field, or the front of it and two dots
abbrev pub shown_part : List ℕ → List ℕ
shown_part field =
    if nat_le (length field) most_shown then shown_bytes field else shown_bytes (take most_shown field) ++ codes ".."

-- an empty one in words
abbrev pub shown : List ℕ → List ℕ
shown [] = codes "(nothing)"
shown (first ∷ rest) = shown_part (first ∷ rest)

-- ---- the words

-- what is wrong with a field
abbrev pub mistake_told : Mistake → List ℕ → List ℕ
mistake_told NoSuchWord field = codes "no such word: " ++ shown field
mistake_told NoSuchChange field = codes "no such word behind do: " ++ shown field
mistake_told (Not kind) field = codes "not " ++ name_of kind ++ codes ": " ++ shown field
mistake_told (Missing kind) field = codes "missing: " ++ name_of kind
mistake_told TooMany field = codes "one field too many: " ++ shown field

-- the field with a number, counted from 1; empty if no field has it
abbrev pub field_at : List ℕ → ℕ → List ℕ
field_at line number = get_or (fields_of line) (number - 1) []

-- the message on a line, after its number
abbrev pub reason_told : List ℕ → Reason → List ℕ
reason_told line TooLong = codes ": the script is longer than " ++ decimal script_limit ++ codes " bytes"
reason_told line NotText = codes ": not UTF-8"
reason_told line (Field number mistake) = codes ", field " ++ decimal number ++ codes ": " ++ mistake_told mistake (field_at line number)
reason_told line Impossible = codes ": impossible on the disk so far"
reason_told line OutOfPlace = codes ": not in this place"

-- the message on the refused line with this number, in a script or in a prefix of one that is too long
abbrev pub told : ℕ → List ℕ → Reason → List ℕ
told number line reason = codes "line " ++ decimal number ++ reason_told line reason

abbrev pub told_in : Bool → Script → List ℕ → ℕ → List ℕ
told_in is_cut script bytes number = told number (line_at bytes number) (reason_in is_cut script bytes number)

unfoldable pub told_at : Script → List ℕ → ℕ → List ℕ
told_at script bytes number =
    if nat_le (length bytes) script_limit
    then told_in false script bytes number
    else told_in true script (take script_limit bytes) number

-- the message on the line with this number, whose word isn't built yet
abbrev pub unbuilt_line : ℕ → List ℕ → List ℕ
unbuilt_line number line = codes "line " ++ decimal number ++ (codes ", field 1: not built yet: " ++ shown (field_at line 1))

unfoldable pub unbuilt_at : List ℕ → ℕ → List ℕ
unbuilt_at bytes number =
    if nat_le (length bytes) script_limit
    then unbuilt_line number (line_at bytes number)
    else unbuilt_line number (line_at (take script_limit bytes) number)

-- the message on a script that was read so far and ends so: why it refuses a line, or what of one isn't built yet
abbrev pub told_by : Script → List ℕ → Ending → List ℕ
told_by script bytes (RefusedAt number) = told_at script bytes number
told_by script bytes (NotBuiltAt number) = unbuilt_at bytes number
told_by script bytes Whole = []

-- the message on a script
unfoldable pub told_of : List ℕ → List ℕ
told_of bytes = told_by (reading_of bytes).script bytes (reading_of bytes).ending
