use Rattle.std.proofs.Common.{◌∙◌}
use Rattle.gix_odb_core.proofs.LoopLemmas.{filter_map-option_map}
use Rattle.gix_odb_events.specs.Slots.{listed_of, slot_at}
use Rattle.gix_odb_core.proofs.report.report_listed.Goals as goal

pub returns : goal.returns
returns c = record { listed = c.in_ok-new.ensures.value ∙ c.in_ok-list.ensures.listed ∙ filter_map-option_map listed_of (slot_at c.args.slots.now) c.args.places.now }
