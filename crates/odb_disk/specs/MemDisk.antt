-- A disk in memory: its state, its open streams, and its calls, some of which will fail.
use Rattle.std.specs.Prelude.{Bool, refl}
use Rattle.std.specs.Ordering.{nat_cmp}
use Rattle.std.specs.FinSet as set
use Rattle.std.specs.Coded.{Coded, code_by, coded×}
use Rattle.odb_base.specs.Calls as calls
use Rattle.odb_base.specs.Calls.{Calls, coded_calls, no_calls}
use Rattle.odb_disk.specs.Tree.{State, coded_state, state_of, bare_tree}
use Rattle.odb_disk.specs.Tree.Change.{after_change}
use Rattle.odb_disk.specs.Streams.{Streams, coded_streams, no_streams}
use Rattle.odb_disk.specs.declared.change.Change.{Change}

-- a disk in memory at one moment
pub record Volume : Type 0 where
  pub state : State
  pub streams : Streams
  pub calls : Calls

abbrev pub coded_volume : Coded Volume
coded_volume =
    code_by (State × (Streams × Calls)) (coded× coded_state (coded× coded_streams coded_calls)) (λ v. (v.state, (v.streams, v.calls)))
    (λ p. record { state = p.0; streams = p.1.0; calls = p.1.1 }) (λ _. refl)

-- whether the next call fails
abbrev pub next_fails : Volume → Bool
next_fails volume = calls.next_fails volume.calls

-- the disk after a call that changes no tree and no stream
unfoldable pub after_call : Volume → Volume
after_call volume = record volume { calls = calls.after_call (next_fails volume) volume.calls }

-- the disk after a change that another program made
unfoldable pub after_outside_change : Volume → Change → Volume
after_outside_change volume change = record volume { state = after_change volume.state change }

-- a new disk: the root alone, and the calls that will fail
unfoldable pub new_volume : set.FinSet nat_cmp → Volume
new_volume listed = record { state = state_of bare_tree; streams = no_streams; calls = no_calls listed }
