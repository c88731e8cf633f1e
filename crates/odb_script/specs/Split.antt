-- How a script is split into lines, a line into fields, and a field into its parts.
use Rattle.std.specs.Prelude.{ℕ, ◌==◌, List, map}
use Rattle.std.specs.Borrow.{Bor}
use Rattle.std.specs.List.{slice_split, before_first, after_first}

-- ---- the bytes that separate, in ASCII

abbrev pub line_feed : ℕ
line_feed = 10

abbrev pub space : ℕ
space = 32

abbrev pub comma : ℕ
comma = 44

abbrev pub colon : ℕ
colon = 58

abbrev pub semicolon : ℕ
semicolon = 59

abbrev pub equals : ℕ
equals = 61

-- ---- lines

-- The lines of a script, between line feeds. A line feed at the end leaves an empty line after it, which says nothing.
abbrev pub lines_in : List ℕ → List (List ℕ)
lines_in bytes = slice_split (λ b. b == line_feed) bytes

-- ---- fields, separated by single spaces

abbrev pub Fields : Type 0
Fields = List (List ℕ)

abbrev pub fields_of : List ℕ → Fields
fields_of line = slice_split (λ b. b == space) line

-- the fields that references are to
abbrev pub texts_of : List (Bor (List ℕ)) → Fields
texts_of fields = map (λ field. field.now) fields

-- ---- parts of a field

abbrev pub before_colon : List ℕ → List ℕ
before_colon text = before_first (λ b. b == colon) text

abbrev pub after_colon : List ℕ → List ℕ
after_colon text = after_first (λ b. b == colon) text

abbrev pub before_equals : List ℕ → List ℕ
before_equals text = before_first (λ b. b == equals) text

abbrev pub after_equals : List ℕ → List ℕ
after_equals text = after_first (λ b. b == equals) text

-- the objects of a pack, and the packs of a multi-index
abbrev pub at_commas : List ℕ → List (List ℕ)
at_commas text = slice_split (λ b. b == comma) text

abbrev pub at_semicolons : List ℕ → List (List ℕ)
at_semicolons text = slice_split (λ b. b == semicolon) text
