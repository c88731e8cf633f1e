-- Entries of a journal that change nothing, for laws of what journals replay to.
use Rattle.std.specs.Prelude.{Bool, true, false, ◌||◌, Ok, Err}
use Rattle.gix_odb_events.specs.Answers.{Answer}
use Rattle.gix_odb_events.specs.declared.event.Effect.TheVariants as effects
use Rattle.gix_odb_events.specs.declared.event.Event.{Event}
use Rattle.gix_odb_events.specs.declared.event.Event.TheVariants as event
use Rattle.gix_odb_core.specs.declared.journal.Entry.{Entry}

-- an event that only reads
abbrev pub only_asks : Event → Bool
only_asks event.Look = true
only_asks event.Report = true
only_asks other = false

-- an answer that reports no change: a refusal, an outdated listing, or a file that wasn't stored
abbrev pub is_idle : Answer → Bool
is_idle (Err refusal) = true
is_idle (Ok (effects.Outdated list_no)) = true
is_idle (Ok (effects.Put view false)) = true
is_idle other = false

abbrev pub has_no_effect : Entry → Bool
has_no_effect entry = only_asks entry.event || is_idle entry.answer
