-- A pipe: what was written, what was read, and what is still buffered of what came out of the channel.
use Rattle.std.specs.Prelude.{◌≡◌, ℕ, ◌<◌, Bool, true, false, List, [], ◌∷◌, ◌++◌, map, ⊤, ◌⊎◌}
use Rattle.std.specs.Borrow.{Bor}
use Rattle.crossbeam_channel.specs.Ends.{sends_on, receives_on}
use Rattle.crossbeam_channel.specs.Claims.{view}
use Rattle.crossbeam_channel.specs.Fifo.{Held}
use Rattle.gix_features_channel.specs.declared.pipe.ends.PipeError.{PipeError}
use Rattle.gix_features_channel.specs.declared.pipe.ends.Piece.{Piece}
use Rattle.gix_features_channel.specs.declared.pipe.ends.Piece.TheVariants.{Written, Failed}
use Rattle.gix_features_channel.specs.declared.pipe.writer.Writer.{Writer}
use Rattle.gix_features_channel.specs.declared.pipe.writer.Gone.{Gone}
use Rattle.gix_features_channel.specs.declared.pipe.writer.Gone.TheVariants as gone
use Rattle.gix_features_channel.specs.declared.pipe.reader.Reader.{Reader}

-- what comes through a pipe: bytes, and errors that the writer sent
pub data Item : Type 0 where
  Byte : ℕ → Item
  Failure : PipeError → Item

abbrev pub items_of : List Piece → List Item
items_of [] = []
items_of (Written bytes ∷ pieces) = map Byte bytes ++ items_of pieces
items_of (Failed error ∷ pieces) = Failure error ∷ items_of pieces

-- the pieces that were written, and those that were taken out of the channel
abbrev pub written : Writer → List Piece
written writer = (view writer.pass).sent

abbrev pub taken : Reader → List Piece
taken reader = (view reader.pass).taken

-- the two ends of one pipe
abbrev pub AreEnds : Writer → Reader → Type 0
AreEnds writer reader = receives_on reader.receiver ≡ sends_on writer.sender

-- nothing was taken yet
abbrev pub IsBegun : Reader → Type 0
IsBegun reader = (taken reader ≡ []) × (reader.next ≡ Written []) × (reader.has_ended ≡ false)

-- a piece with something to give
abbrev pub gives_something : Piece → Bool
gives_something (Written []) = false
gives_something (Written (byte ∷ bytes)) = true
gives_something (Failed error) = true

-- the buffered bytes
abbrev pub bytes_of : Piece → List ℕ
bytes_of (Written bytes) = bytes
bytes_of (Failed error) = []

abbrev pub at_hand : Reader → List ℕ
at_hand reader = bytes_of reader.next

-- These items were given: what was buffered, and was taken from the channel meanwhile, is what was given and is buffered
-- now.
pub record Reads (before after : Reader) (given : List Item) : Type 0 where
  pub pieces : List Piece
  pub took : taken after ≡ taken before ++ pieces
  pub in_order : items_of (before.next ∷ pieces) ≡ given ++ items_of (after.next ∷ [])
  pub channel : receives_on after.receiver ≡ receives_on before.receiver

-- What a channel says of its contents when it gives no more pieces. A pipe has no law, so this always holds and says
-- nothing.
abbrev pub HeldNone : Type 0
HeldNone = Held 0 (λ (pieces : List Piece). ⊤)

-- Nothing is buffered, and the reader has noted the end of the pipe. The rest always holds.
abbrev pub HasEnded : Reader → Type 0
HasEnded reader = (reader.next ≡ Written []) × (reader.has_ended ≡ true) × HeldNone

-- If the reader has noted the end of the pipe, nothing is buffered.
abbrev pub IsNoted : Reader → Type 0
IsNoted reader = reader.has_ended ≡ true → HasEnded reader

-- why a read gives fewer bytes than were asked for: an error is next, or the pipe ended
abbrev pub IsShort : Reader → ℕ → Type 0
IsShort after count = ((error : PipeError) × (after.next ≡ Failed error) × (0 < count)) ⊎ HasEnded after

-- why a piece wasn't written: it is returned, or memory ran out
abbrev pub IsUnwritten : List ℕ → Gone → Type 0
IsUnwritten bytes (gone.Piece piece) = piece ≡ bytes
IsUnwritten bytes gone.NoMemory = ⊤

-- nothing was given, and these bytes are buffered, none only at the end of the pipe; or this error was given
abbrev pub HasAtHand : Reader → Bor (List ℕ) → Type 0
HasAtHand before bytes = (after : Reader) × Reads before after [] × (at_hand after ≡ bytes.now) × (bytes.now ≡ [] → HasEnded after)

abbrev pub HasFailed : Reader → PipeError → Type 0
HasFailed before error = (after : Reader) × Reads before after (Failure error ∷ [])

-- all bytes of a piece are lent; or it is this error
abbrev pub LendsAll : Piece → Bor (List ℕ) → Type 0
LendsAll piece bytes = bytes.now ≡ bytes_of piece

abbrev pub IsFailure : Piece → PipeError → Type 0
IsFailure piece error = piece ≡ Failed error
