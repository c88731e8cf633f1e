-- Counts over a core.
use Rattle.std.specs.Prelude.{ℕ, length, count_by, sum_by, is_none}
use Rattle.gix_odb_core.specs.Counts.{disposable_in, listed_in, loaded_packs}
use Rattle.gix_odb_events.specs.Slots.{is_index_loaded}
use Rattle.gix_odb_events.specs.declared.metrics.Metrics.{Metrics}
use Rattle.gix_odb_core.specs.declared.shape.Shape.{Shape}

-- the counts over a shape, with the number of listings that were published or confirmed the list
abbrev pub metrics_of : Shape → ℕ → Metrics
metrics_of shape refreshes =
    let listed = listed_in shape.slots shape.list in
    let disposable = disposable_in shape.slots in
    record {
      num_handles = length shape.handles;
      num_refreshes = refreshes;
      open_reachable_indices = count_by (λ filled. is_index_loaded filled.index) listed;
      known_reachable_indices = length listed;
      open_reachable_packs = sum_by (λ filled. loaded_packs filled.packs) listed;
      known_packs = sum_by (λ filled. length filled.packs) listed;
      unused_slots = count_by is_none shape.slots;
      unreachable_indices = length disposable;
      unreachable_packs = sum_by (λ filled. loaded_packs filled.packs) disposable;
      loose_dbs = shape.folders;
    }
