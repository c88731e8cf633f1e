-- The model of a core: its history. Its present shape is what the history replays to.
use Rattle.std.specs.Prelude.{ℕ, List, []}
use Rattle.gix_odb_core.specs.Replay.{replay}
use Rattle.gix_odb_core.specs.Steps.{opening_shape}
use Rattle.gix_odb_core.specs.declared.journal.Entry.{Entry}
use Rattle.gix_odb_core.specs.declared.shape.Shape.{Shape}

-- the shape that it was made with, and the entries of its journal
pub record History : Type 0 where
  pub opening : Shape
  pub entries : List Entry

abbrev pub present : History → Shape
present history = replay history.opening history.entries

abbrev pub opened : ℕ → ℕ → ℕ → ℕ → History
opened slots folders generation state = record { opening = opening_shape slots folders generation state; entries = [] }
