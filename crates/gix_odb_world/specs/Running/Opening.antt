-- What an opening knows since it began. No public clause cites this.
use Rattle.std.specs.Prelude.{◌≡◌, ℕ, ◌≤◌, List, length}
use Rattle.odb_disk.specs.MemDisk.{Volume}
use Rattle.gix_odb.specs.OpenExchanges.{AreAsked}
use Rattle.gix_odb.specs.declared.open_state.OpenStage.{OpenStage}
use Rattle.gix_odb.specs.declared.open_state.OpenStage.TheVariants as opens
use Rattle.gix_odb_world.specs.AtWork.{OpenStore, Running, setting_in}
use Rattle.gix_odb_world.specs.Causes.{Sometime, ShowsDirectory}
use Rattle.gix_odb_history.specs.Event.{Event}
pub use Rattle.gix_odb_world.specs.Machines.Openings.{opening, opening_fed}
use Rattle.gix_odb_history.specs.Run.{tree_at}
use Rattle.gix_odb_world.specs.Running.Answered.{IsAnsweredWell}
use Rattle.gix_odb_world.specs.Running.Listed.{AreGiven}
use Rattle.gix_odb_world.specs.Told.{opening_now, told_since}

-- after its stat an opening has seen the directory
abbrev pub HasSeen : Volume → List Event → Running → OpenStage → Type 0
HasSeen first events running opens.Looking = Unit {0}
HasSeen first events running (opens.Done reply) = ⊥
HasSeen first events running state = Sometime running.begun (length events) (λ moment. ShowsDirectory (tree_at first events moment) running.store.parts.objects)

-- An opening is at the stage after all answers to its handle since it began, each of which answered its ask then, and had a turn for each.
pub record IsOpening (first : Volume) (events : List Event) (handle : ℕ) (running : Running) (state : OpenStage) : Type 0 where
  pub task : running.task ≡ OpenStore
  pub since : running.begun ≤ length events
  pub is : state ≡ opening_now events handle running.store running.begun
  pub asked : AreAsked (setting_in running.store) running.store.parts.slots opens.Looking (told_since events handle running.begun)
  pub turns : running.turns ≡ length (told_since events handle running.begun)
  pub well : IsAnsweredWell first events handle running.store running.begun
  pub given : AreGiven first events handle running.begun
  pub seen : HasSeen first events running state
