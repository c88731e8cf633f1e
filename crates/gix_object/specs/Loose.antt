-- A loose object: a header, and then the data.
-- `IsLoose` is the grammar; `loose_of` computes it.
use Rattle.std.specs.Prelude.{◌≡◌, ℕ, ◌<◌, ◌≤◌, ◌^◌, ◌==◌, List, [], ◌∷◌, ◌++◌, length, take, codes, nat_lt, Option, Some, None, option_and_then, if◌then◌else◌}
use Rattle.std.specs.List.{position_or_len, before_first, after_first}
use Rattle.std.specs.Fmt.{decimal}
use Rattle.odb_base.specs.Decimal.{number_of}
use Rattle.gix_object.specs.Kind.{kind_of_word, kind_word}
use Rattle.gix_object.specs.declared.kind.Kind.{Kind}

-- in how many first bytes of a file a header ends: more than the longest header has
abbrev pub header_room : ℕ
header_room = 64

-- the length of the longest header: a word of 6 bytes, a space, 20 digits and NUL
abbrev pub longest_header : ℕ
longest_header = 28

-- the header: the kind's word, a space, the size in decimal without leading zeros, and NUL
unfoldable pub header_of : Kind → ℕ → List ℕ
header_of kind size = kind_word kind ++ codes " " ++ decimal size ++ 0 ∷ []

-- the bytes begin with the header of this kind and size, which ends in the first of them; the rest, of whatever length, follows it
pub record IsLoose (bytes : List ℕ) (kind : Kind) (size : ℕ) (rest : List ℕ) : Type 0 where
  pub whole : bytes ≡ header_of kind size ++ rest
  pub fits : size < 2 ^ 64
  pub early : length (header_of kind size) ≤ header_room

-- an object as its file spells it: the data, and the size that the header says
pub record LooseObject : Type 0 where
  pub kind : Kind
  pub size : ℕ
  pub rest : List ℕ

infixl 10 ◌>>=◌
abbrev ◌>>=◌ : {A B : Type 0} → Option A → (A → Option B) → Option B
found >>= f = option_and_then f found

-- the kind and the size of a header without its NUL, which are before and after its first space (byte 32), with the data
unfoldable pub spelled : List ℕ → List ℕ → Option LooseObject
spelled header rest = do
  kind ← kind_of_word (before_first (λ b. b == 32) header)
  size ← number_of (after_first (λ b. b == 32) header)
  Some (record { kind = kind; size = size; rest = rest })

-- the object that a file's bytes spell, if their first NUL is where a header may end
unfoldable pub loose_of : List ℕ → Option LooseObject
loose_of bytes =
    if nat_lt (position_or_len (λ b. b == 0) (take header_room bytes)) (length (take header_room bytes))
    then spelled (before_first (λ b. b == 0) bytes) (after_first (λ b. b == 0) bytes)
    else None

-- what a reader of the header returns of an object: the kind, the size, and the length of the header
abbrev pub head_of : LooseObject → Kind × ℕ × ℕ
head_of object = (object.kind, object.size, length (header_of object.kind object.size))
