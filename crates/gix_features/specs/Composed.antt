-- Names in Unicode's form NFC.
use Rattle.std.specs.Prelude.{Bool, map, chars, encode_utf8_all, if◌then◌else◌}
use Rattle.unicode_normalization.specs.Forms.{nfc}
use Rattle.odb_base.specs.Path.{Path, Name, is_name}

-- a name, composed
unfoldable pub composed_name : Name → Name
composed_name name = encode_utf8_all (nfc (chars name))

-- a name of a path, composed if the result is still a name
abbrev pub composed_part : Name → Name
composed_part name = if is_name (composed_name name) then composed_name name else name

-- a path whose names are composed
unfoldable pub composed_path : Path → Path
composed_path path = map composed_part path

-- ---- if that is asked for

abbrev pub path_if : Bool → Path → Path
path_if composes path = if composes then composed_path path else path

abbrev pub name_if : Bool → Name → Name
name_if composes name = if composes then composed_name name else name
