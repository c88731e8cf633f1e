-- What the core of a store refused a handle since its work began. No public clause needs more of it than its name.
use Rattle.std.specs.Prelude.{ℕ, List, Err}
use Rattle.gix_odb_events.specs.declared.answer.Answer.TheVariants as told
use Rattle.gix_odb_events.specs.declared.answer.Ask.TheVariants as asks
use Rattle.gix_odb_events.specs.declared.event.Refusal.{Refusal}
use Rattle.gix_odb.specs.LookExchanges.{WasTold}
use Rattle.gix_odb_history.specs.Event.{CoreEvent, Event}
use Rattle.gix_odb_world.specs.Refused.{RefusedSince}
use Rattle.gix_odb_world.specs.Told.{told_since}

-- each refusal that the handle got since then has its cause
abbrev pub AreRefused : List Event → (handle core begun : ℕ) → Type 0
AreRefused events handle core begun =
    (event : CoreEvent) (refusal : Refusal) → WasTold (told_since events handle begun) (asks.Core event) (told.Core (Err refusal))
    → RefusedSince events handle core begun refusal
