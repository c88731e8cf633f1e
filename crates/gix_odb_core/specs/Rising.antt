-- Handles in the order of their seats, for laws of events of handles.
use Rattle.std.specs.Prelude.{Bool, true, false, ◌<◌, [], ◌∷◌}
use Rattle.std.specs.List.{AllByRecursion}
use Rattle.gix_odb_core.specs.Handles.{Handles}
use Rattle.gix_odb_events.specs.declared.event.Event.{Event}
use Rattle.gix_odb_events.specs.declared.event.Event.TheVariants as event

-- the seats rise
abbrev pub IsRising : Handles → Type 0
IsRising [] = Unit {0}
IsRising (handle ∷ handles) = AllByRecursion (λ other. handle.0 < other.0) handles × IsRising handles

-- an event that changes only the handles
abbrev pub is_of_handle : Event → Bool
is_of_handle (event.Register stable) = true
is_of_handle event.Upgrade = true
is_of_handle event.Remove = true
is_of_handle other = false
