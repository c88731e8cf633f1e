-- What a handle at work knows since its task was set. No public clause needs more of it than its name.
pub mod Answered
pub mod Listed
pub mod Opening
pub mod PackedStill
pub mod Query
pub mod Refused
pub mod Write
use Rattle.std.specs.Prelude.{ℕ, ◌≤◌, List, take, length}
use Rattle.odb_disk.specs.MemDisk.{Volume}
use Rattle.gix_odb.specs.declared.call_state.CallStage.TheVariants as calls
use Rattle.gix_odb_world.specs.Work.{Work}
use Rattle.gix_odb_world.specs.Work as works
use Rattle.gix_odb_history.specs.Event.{Event}
use Rattle.gix_odb_world.specs.Machine.{Machine}
use Rattle.gix_odb_world.specs.Machines.{at}
use Rattle.gix_odb_world.specs.Running.Opening.{IsOpening}
use Rattle.gix_odb_world.specs.Running.Query.{IsLooking}
use Rattle.gix_odb_world.specs.Running.Write.{KnowsOfWrite}
use Rattle.gix_odb_world.specs.Status.{Running, Status, Working, status_of}

-- what a handle at a state of a machine knows of the events since its task was set, and how its turns are counted
abbrev pub KnowsAt : Machine → Type 1
KnowsAt m = Volume → List Event → (handle : ℕ) → Running → m.State → Type 0

-- What it knows at the machine of each work. Another machine has one line here.
abbrev pub known_at : (work : Work) → KnowsAt (at work).machine
known_at (works.Opening state) = IsOpening
known_at (works.Calling (calls.Looking state)) = IsLooking
known_at (works.Calling (calls.Refreshing refresh call)) = KnowsOfWrite
known_at (works.Calling (calls.Writing call)) = KnowsOfWrite
known_at (works.Calling (calls.Refused error)) = KnowsOfWrite

-- what the work of a handle knows
abbrev pub Knows : Volume → List Event → (handle : ℕ) → Running → Work → Type 0
Knows first events handle running work = known_at work first events handle running (at work).state

-- A handle at work began in one of the events, and knows what its work knows.
abbrev pub Runs : Volume → List Event → ℕ → Status → Type 0
Runs first events handle (Working running) = (running.begun ≤ length events) × Knows first events handle running running.work
Runs first events handle status = Unit {0}

-- after each of the events each handle knew what its status says
abbrev pub RunsThroughout : Volume → List Event → Type 0
RunsThroughout first events = (now handle : ℕ) → now ≤ length events → Runs first (take now events) handle (status_of (take now events) handle)
