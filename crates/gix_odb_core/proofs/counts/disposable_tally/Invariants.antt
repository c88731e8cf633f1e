use Rattle.std.proofs.Common.{◌≡◌, drop}
use Rattle.gix_odb_core.specs.Tally.{no_tally, with_disposable}
use Rattle.gix_odb_core.proofs.counts.disposable_tally.Given as goal

abbrev pub invariant-loop-place : goal.invariant-loop-place
invariant-loop-place l = with_disposable l.tally (drop l.place l.slots) ≡ with_disposable no_tally l.slots
