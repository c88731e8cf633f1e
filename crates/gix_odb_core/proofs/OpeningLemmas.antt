-- The state of a new core.
use Rattle.std.proofs.Common.{◌≡◌, ℕ, ◌≤◌, false, All, List, [], length, replicate, None, sym, ap, subst, ◌∙◌, arith}
use Rattle.std.proofs.lemmas.List.{length-replicate}
use Rattle.std.proofs.lemmas.List.Elements.{All-replicate}
use Rattle.gix_odb_events.specs.Slots.{HasFewPacks, Slot}
use Rattle.gix_odb_core.specs.Countable.{IsCountable}
use Rattle.gix_odb_core.specs.Replay.{passed_in, refreshes_in}
use Rattle.gix_odb_core.specs.Shelf.{shown_of, without_handles}
use Rattle.gix_odb_core.specs.State.{IsKept, entries_in, newest}
use Rattle.gix_odb_core.specs.Steps.{opening_shape}
use Rattle.gix_odb_core.specs.Views.{view_of}
use Rattle.gix_odb_core.specs.declared.journal.Entry.{Entry}
use Rattle.gix_odb_core.specs.declared.shape.Shape.{Shape}
use Rattle.gix_odb_core.specs.declared.shape.Shelf.{Shelf}
use Rattle.gix_odb_core.specs.declared.state.State.{State}

few-empty : (n : ℕ) → All HasFewPacks (replicate n None)
few-empty n = All-replicate HasFewPacks n None tt

opening_countable : (slots folders generation state : ℕ) → slots ≤ 32767 → IsCountable (opening_shape slots folders generation state)
opening_countable slots folders generation state few =
    record { packs = few-empty slots; few = omega (arith, few, length-replicate {A = Slot} slots None); short = omega arith }

pub opening-kept : (slots folders generation state : ℕ) (made : State) (shelf : Shelf) → slots ≤ 32767
    → shelf ≡ record { slots = replicate slots None; list = []; read = false; list_no = 0; generation = generation; state_id = state }
    → made.shape ≡ without_handles folders shelf
    → made.view ≡ shown_of shelf 0 → made.passed ≡ [] → entries_in made ≡ [] → made.refreshes ≡ 0 → IsKept made
opening-kept slots folders generation state made shelf few shelf_is shape_is view_is passed_is entries_is refreshes_is =
    let shape : made.shape ≡ opening_shape slots folders generation state = shape_is ∙ ap (without_handles folders) shelf_is in
    record {
      shown = view_is ∙ ap (λ (s : Shape). view_of s 0) (sym shape_is) ∙ ap (λ (l : List Entry). view_of made.shape (newest l)) (sym entries_is);
      passed = passed_is ∙ ap passed_in (sym entries_is);
      counted = refreshes_is ∙ ap refreshes_in (sym entries_is);
      numbered = subst (λ (s : Shape). s.list_no ≤ s.state_id) (sym shape) (omega arith);
      countable = subst IsCountable (sym shape) (opening_countable slots folders generation state few);
      room = omega (arith, ap (λ (s : Shape). length s.handles) shape);
    }
