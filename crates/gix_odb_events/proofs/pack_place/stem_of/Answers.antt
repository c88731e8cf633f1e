use Rattle.gix_odb_events.proofs.PackPathLemmas.{stem_of-stripped, stem_of-whole}
use Rattle.gix_odb_events.proofs.pack_place.stem_of.Goals as goal

pub returns-in-Some : goal.returns-in-Some
returns-in-Some c = record { stem = stem_of-stripped _ _ c.in-Some.ensures.cases }

pub returns-in-None : goal.returns-in-None
returns-in-None c = record { stem = stem_of-whole _ c.in-None.ensures.cases }
