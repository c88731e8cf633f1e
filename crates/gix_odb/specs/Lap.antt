-- How many turns a lap has: one way through all that a list names, and through the folders.
use Rattle.std.specs.Prelude.{ℕ, ◌+◌, ◌*◌, ◌≤◌, List, [], ◌∷◌, length, Option, Some, None}
use Rattle.gix_odb.specs.Exchange.{Exchange}
use Rattle.gix_odb.specs.Stream.{Stream, stream_by}

-- ---- what is known of streams: none gives more entries than so many

abbrev pub HasAtMost : (entries : ℕ) → Option Stream → Type 0
HasAtMost entries None = Unit {0}
HasAtMost entries (Some stream) = length stream.entries ≤ entries

-- after an open stream, or none
abbrev pub AreWithin : (entries : ℕ) → Option Stream → List Exchange → Type 0
AreWithin entries before [] = Unit {0}
AreWithin entries before (exchange ∷ exchanges) =
    HasAtMost entries (stream_by before exchange.ask exchange.answer) × AreWithin entries (stream_by before exchange.ask exchange.answer) exchanges

-- ---- a lap

-- the turns of one lap over a store with so many slots and folders, where a folder that is listed has at most so many entries
abbrev pub turns_of_lap : (slots folders entries : ℕ) → ℕ
turns_of_lap slots folders entries = 8 + 8 * slots + folders * (8 * entries + 16)
