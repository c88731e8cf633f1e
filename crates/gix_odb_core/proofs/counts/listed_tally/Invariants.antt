use Rattle.std.proofs.Common.{◌≡◌, drop}
use Rattle.gix_odb_core.specs.Tally.{no_tally, with_places}
use Rattle.gix_odb_core.proofs.counts.listed_tally.Given as goal

abbrev pub invariant-loop-place : goal.invariant-loop-place
invariant-loop-place l = with_places l.slots l.tally (drop l.place-index l.list) ≡ with_places l.slots no_tally l.list
