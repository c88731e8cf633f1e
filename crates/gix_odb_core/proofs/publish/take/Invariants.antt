use Rattle.std.proofs.Common.{◌≡◌, ◌<◌, All, drop, length}
use Rattle.std.specs.List.{zip}
use Rattle.gix_odb_core.specs.Publish.{new_rows, with_taken}
use Rattle.gix_odb_events.specs.Slots.{HasFewPacks}
use Rattle.gix_odb_core.proofs.publish.take.Given as goal

abbrev pub invariant-loop-place : goal.invariant-loop-place
invariant-loop-place l = record {
  taken : with_taken (zip l.left (new_rows l.matched.slots.now (drop l.place l.matched.rows.now))) l.after.items
      ≡ with_taken (zip l.free (new_rows l.matched.slots.now l.matched.rows.now)) l.initial.after.items;
  within : All (λ place. place < length l.after.items) l.left;
  packs : All HasFewPacks l.after.items;
}
