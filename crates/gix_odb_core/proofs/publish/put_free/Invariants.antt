use Rattle.std.proofs.Common.{◌≡◌, ◌++◌, ◌-◌, ◌<◌, All, filter, length}
use Rattle.std.specs.List.{range_with_len}
use Rattle.gix_odb_core.specs.Publish.{is_free}
use Rattle.gix_odb_events.specs.Slots.{slot_at}
use Rattle.gix_odb_core.proofs.publish.put_free.Given as goal

abbrev pub invariant-loop-place : goal.invariant-loop-place
invariant-loop-place l = record {
  put : l.places.items ≡ l.fn.places.items ++ filter (λ place. is_free l.stable l.matched.rows.now (slot_at l.matched.slots.now place)) (range_with_len l.from (l.place - l.from));
  within : All (λ place. place < length l.matched.slots.now) l.places.items;
}
