-- Sources and sinks: which bytes a read takes, and what a write adds. One needn't report what it has left, or holds.
use Rattle.std.specs.Prelude.{◌≡◌, ℕ, ◌+◌, ◌<◌, ◌≤◌, List, [], ◌++◌, length, take, drop, Option, Some, None, Result, Ok, Err}
use Rattle.odb_base.specs.declared.source.Failed.{Failed}

-- a read took n bytes of `left`, put them at the front of the buffer, and left `rest`. It took none only at the end, or for an empty buffer
pub record Takes (left rest buffer : List ℕ) (n : ℕ) : Type 0 where
  pub in_buffer : n ≤ length buffer
  pub in_left : n ≤ length left
  pub front : take n buffer ≡ take n left
  pub rest_is : rest ≡ drop n left
  pub at_end : n ≡ 0 → 0 < length buffer → left ≡ []

-- what a read does to a source: one that fails takes nothing, and a source that reports its bytes still does
abbrev pub Reads : Option (List ℕ) → Option (List ℕ) → List ℕ → Result ℕ Failed → Type 0
Reads None now buffer result = now ≡ None
Reads (Some left) None buffer result = ⊥
Reads (Some left) (Some rest) buffer (Ok n) = Takes left rest buffer n
Reads (Some left) (Some rest) buffer (Err failed) = rest ≡ left

-- what a write does to a sink: the first n bytes are added after what it held, and none by a write that fails
abbrev pub Writes : Option (List ℕ) → Option (List ℕ) → List ℕ → Result ℕ Failed → Type 0
Writes None now bytes result = now ≡ None
Writes (Some held) now bytes (Ok n) = now ≡ Some (held ++ take n bytes)
Writes (Some held) now bytes (Err failed) = now ≡ Some held

-- a sink has these bytes after what it held, if it reports that; one that doesn't still doesn't
abbrev pub Adds : Option (List ℕ) → Option (List ℕ) → List ℕ → Type 0
Adds None now bytes = now ≡ None
Adds (Some held) now bytes = now ≡ Some (held ++ bytes)

-- The number of bytes of a file asked for at a time: as many as Linux's pipes hold, and few enough for the stack.
abbrev pub piece_length : ℕ
piece_length = 65_536

-- Bytes were read from a source: all that were left, or a prefix of them that is at most a piece longer than the limit.
abbrev pub ReadsFile : ℕ → Option (List ℕ) → Option (List ℕ) → List ℕ → Type 0
ReadsFile limit None now bytes = length bytes ≤ limit + piece_length
ReadsFile limit (Some left) now bytes = (rest : List ℕ) × (left ≡ bytes ++ rest) × (now ≡ Some rest) × (length bytes ≤ limit → rest ≡ []) × (length bytes ≤ limit + piece_length)
