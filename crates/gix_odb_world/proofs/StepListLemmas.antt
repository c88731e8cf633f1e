-- The steps of entries, one after another.
use Rattle.std.proofs.Common.{◌≡◌, ℕ, ◌+◌, List, [], ◌∷◌, ◌++◌, replicate, sym, ◌∙◌, ap}
use Rattle.std.proofs.lemmas.Grind.{flat_map-append}
use Rattle.std.proofs.lemmas.List.{append-nil, replicate-append-replicate}
use Rattle.gix_odb_calls.specs.declared.step.Step.TheVariants.{Turn}
use Rattle.gix_odb_world.specs.declared.step_list.Entry.{Entry}
use Rattle.gix_odb_world.specs.StepList.{steps_in, steps_of}

-- one more entry
pub entry_added : (entries : List Entry) (entry : Entry) → steps_of (entries ++ entry ∷ []) ≡ steps_of entries ++ steps_in entry
entry_added entries entry =
    flat_map-append steps_in entries (entry ∷ []) ∙ ap (λ steps. steps_of entries ++ steps) (append-nil (steps_in entry))

-- one more turn
pub turn_added : (handle count : ℕ) → replicate (count + 1) (Turn handle) ≡ replicate count (Turn handle) ++ Turn handle ∷ []
turn_added handle count = sym (replicate-append-replicate count 1 (Turn handle))
