-- A core that isn't whole has no handle; a core with a registered handle is held; and no entry of an empty journal lacks memory.
use Rattle.std.proofs.Common.{◌≡◌, ℕ, [], ◌∷◌, length, subst, arith}
use Rattle.std.proofs.lemmas.List.Elements.{All-nil}
use Rattle.gix_odb_core.specs.Handles.{Handles, IsRegistered}
use Rattle.gix_odb_core.specs.History.{History, present}
use Rattle.gix_odb_core.specs.Possible.{IsComplete}
use Rattle.gix_odb_history.specs.Held.{IsHeld}
use Rattle.gix_odb_history.specs.KeptCore.{HasNoneIfLeft, history_in}
use Rattle.gix_odb_history.specs.declared.kept_core.CoreState.{CoreState}
use Rattle.gix_odb_history.specs.declared.kept_core.CoreState.TheVariants.{Held, Left}

none_in_none : (handles : Handles) (seat : ℕ) → IsRegistered handles seat → length handles ≡ 0 → ⊥
none_in_none [] seat some none = cc some
none_in_none (handle ∷ handles) seat some none = absurd (omega (arith, none))

pub held_by : (history : History) (seat : ℕ) → IsRegistered (present history).handles seat → IsHeld history
held_by history seat is = λ none. none_in_none (present history).handles seat is none

pub whole_if_held : (state : CoreState) (history remains : History) → history_in state ≡ history → HasNoneIfLeft state → state ≡ Left remains
    → IsHeld history → ⊥
whole_if_held (Held core) history remains view has is held = absurd (cc is)
whole_if_held (Left rest) history remains view has is held = held (subst (λ (h : History). length (present h).handles ≡ 0) view has)

pub whole_if_registered : (state : CoreState) (history remains : History) (seat : ℕ) → history_in state ≡ history → HasNoneIfLeft state
    → state ≡ Left remains → IsRegistered (present history).handles seat → ⊥
whole_if_registered state history remains seat view has is registered = whole_if_held state history remains view has is (held_by history seat registered)

-- no entry of an empty journal lacks memory
pub nothing_lacks : IsComplete []
nothing_lacks = All-nil _
