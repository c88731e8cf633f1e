-- How the code makes cores. No public clause cites this.
use Rattle.std.specs.Prelude.{ℕ, false, List}
use Rattle.gix_odb_core.specs.History.{History, opened}
use Rattle.gix_odb_events.specs.declared.event.Event.TheVariants as events
use Rattle.gix_odb_history.specs.Cores.{answer_behind, history_at}
use Rattle.gix_odb_history.specs.Event.{CoreAnswer}

-- the answer of a new core to the registration of a seat
abbrev pub first_answer : (slots folders seat : ℕ) → CoreAnswer
first_answer slots folders seat = answer_behind (opened slots folders 0 0) seat (events.Register false)

-- the answer of a store's core to the registration of a seat
abbrev pub joined_answer : List History → (store seat : ℕ) → CoreAnswer
joined_answer cores store seat = answer_behind (history_at cores store) seat (events.Register false)
