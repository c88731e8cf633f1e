-- Shapes over which counts are numbers of 64 bits. No public clause cites this.
use Rattle.std.specs.Prelude.{◌≤◌, All, length, Option}
use Rattle.std.specs.Option.{IfSome}
use Rattle.gix_odb_events.specs.Slots.{HasFewPacks}
use Rattle.gix_odb_events.specs.declared.event.Event.{Event}
use Rattle.gix_odb_events.specs.declared.event.Event.TheVariants as event
use Rattle.gix_odb_core.specs.declared.shape.Shape.{Shape}
use Rattle.gix_odb_core.specs.declared.shape.Shelf.{Shelf}
use Rattle.gix_odb_events.specs.PackId.{most_slots}

-- the slots that a listing leaves, if it changes something, have few packs each
abbrev pub LeavesFewPacks : Event → Option Shelf → Type 0
LeavesFewPacks (event.Publish listing) shelf = IfSome shelf (λ shelf. All HasFewPacks shelf.slots)
LeavesFewPacks other shelf = Unit {0}

-- the counts over a shape are small, since its slots have few packs each, and its list is short
pub record IsCountable (shape : Shape) : Type 0 where
  pub packs : All HasFewPacks shape.slots
  pub few : length shape.slots ≤ most_slots
  pub short : length shape.list ≤ most_slots
