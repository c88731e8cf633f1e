-- What loading the next index leads to.
use Rattle.std.specs.Prelude.{◌||◌, Bool, true, false}
use Rattle.gix_odb_events.specs.declared.event.PassWhy.{PassWhy}
use Rattle.gix_odb_events.specs.declared.event.PassWhy.TheVariants as whys
use Rattle.gix_odb_search.specs.Search.{tried}
use Rattle.gix_odb_search.specs.declared.goal.Goal.{Goal}
use Rattle.gix_odb_search.specs.declared.index_loader.LoadStep.{LoadStep}
use Rattle.gix_odb_search.specs.declared.index_loader.LoadStep.TheVariants as steps
use Rattle.gix_odb_search.specs.declared.search.Notes.{Notes}
use Rattle.gix_odb_search.specs.declared.trier.Ahead.{Ahead}
use Rattle.gix_odb_search.specs.declared.trier.Stage.TheVariants as stages
use Rattle.gix_odb_search.specs.declared.trier.Tried.{Tried}
use Rattle.gix_odb_search.specs.declared.trier.Tried.TheVariants as ends
use Rattle.gix_odb_search.specs.TryOrder.Seek.{at, at_search, seek}

abbrev pub is_failed : PassWhy → Bool
is_failed whys.Failed = true
is_failed why = false

-- a read that failed is remembered
abbrev pub noting : Notes → PassWhy → Notes
noting notes why = record notes { failed = notes.failed || is_failed why }

-- a loaded index is searched; where it was passed over, the search goes on without it
abbrev pub after_load : Goal → Ahead → LoadStep → Tried
after_load goal ahead (steps.More loader) = at goal ahead (stages.Loading loader)
after_load goal ahead (steps.Loaded index) = at_search goal ahead (tried goal ahead.notes.absent index)
after_load goal ahead (steps.Missed why) = seek goal (record ahead { notes = noting ahead.notes why })
after_load goal ahead (steps.Broken refusal) = ends.Broken refusal
