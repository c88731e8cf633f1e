-- What follows for callers from what is read from a pipe.
use Rattle.std.proofs.Common.{◌≡◌, List, ◌∷◌, [], ◌++◌, ap, ◌∙◌, append_assoc}
use Rattle.gix_features_channel.specs.declared.pipe.ends.Piece.{Piece}
use Rattle.gix_features_channel.specs.declared.pipe.reader.Reader.{Reader}
use Rattle.gix_features_channel.specs.declared.pipe.writer.Writer.{Writer}
use Rattle.gix_features_channel.specs.Pipe.{Item, items_of, taken, written, IsBegun, Reads}
use Rattle.gix_features_channel.proofs.PipeLemmas.{items_of-append, taken_prefix}

-- What was read from the beginning on is a prefix of what was written.
pub what_is_read_was_written : (begun reader : Reader) (writer : Writer) (given : List Item) (rest : List Piece) → IsBegun begun → Reads begun reader given
    → written writer ≡ taken reader ++ rest → (later : List Item) × (items_of (written writer) ≡ given ++ later)
what_is_read_was_written begun reader writer given rest begins reads prefix = (
  items_of (reader.next ∷ []) ++ items_of rest,
  ap items_of prefix ∙ items_of-append (taken reader) rest
      ∙ ap (λ l. l ++ items_of rest) (taken_prefix begun reader given begins.0 (ap (λ (piece : Piece). items_of (piece ∷ [])) begins.1) reads)
      ∙ append_assoc given (items_of (reader.next ∷ [])) (items_of rest),
)
