use Rattle.std.proofs.Common.{◌≡◌, ◌≤◌, take}
use Rattle.gix_odb_core.specs.Counts.{loaded_packs}
use Rattle.gix_odb_core.proofs.counts.loaded_packs.Given as goal

abbrev pub invariant-loop-place : goal.invariant-loop-place
invariant-loop-place l = record { loaded : l.loaded ≡ loaded_packs (take l.place l.packs); within : l.loaded ≤ l.place }
