-- Shapes that a core is made with, and what holds of the journals of cores, for laws of what journals replay to.
use Rattle.std.specs.Prelude.{◌≡◌, Bool, true, false, ◌==◌, ◌&&◌, not, List, [], ◌∷◌, ℕ, Err}
use Rattle.std.specs.List.{AllPass}
use Rattle.gix_odb_core.specs.Replay.{CanHappen, after_entry}
use Rattle.gix_odb_events.specs.Answers.{Answer}
use Rattle.gix_odb_core.specs.Steps.{opening_shape}
use Rattle.gix_odb_events.specs.declared.event.Event.{Event}
use Rattle.gix_odb_events.specs.declared.event.Event.TheVariants as event
use Rattle.gix_odb_events.specs.declared.event.Refusal.TheVariants as refusals
use Rattle.gix_odb_core.specs.declared.journal.Entry.{Entry}
use Rattle.gix_odb_core.specs.declared.shape.Shape.{Shape}

-- a core is made with this shape
pub record IsOpened (opening : Shape) : Type 0 where
  pub slots : ℕ
  pub folders : ℕ
  pub generation : ℕ
  pub state : ℕ
  pub is : opening ≡ opening_shape slots folders generation state

-- each event could happen when it came
abbrev pub IsPossible : Shape → List Entry → Type 0
IsPossible shape [] = Unit {0}
IsPossible shape (entry ∷ entries) = CanHappen shape entry.seat entry.event × IsPossible (after_entry shape entry) entries

-- whether an answer reports that memory ran out
abbrev pub lacks_memory : Answer → Bool
lacks_memory (Err refusals.NoMemory) = true
lacks_memory answer = false

-- no entry was refused for lack of memory
abbrev pub IsComplete : List Entry → Type 0
IsComplete entries = AllPass (λ entry. not (lacks_memory entry.answer)) entries

abbrev pub is_remove : Event → Bool
is_remove event.Remove = true
is_remove other = false

-- no entry removes the handle of a seat
abbrev pub IsNeverRemoved : ℕ → List Entry → Type 0
IsNeverRemoved seat entries = AllPass (λ entry. not (entry.seat == seat && is_remove entry.event)) entries
