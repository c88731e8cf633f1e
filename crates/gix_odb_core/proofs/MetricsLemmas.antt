-- The counts over a shape are those over its listed slots, over those with garbage or a missing file, and over the empty ones.
use Rattle.std.proofs.Common.{◌≡◌, ℕ, length, ap, ◌∙◌}
use Rattle.std.specs.List.{count_by}
use Rattle.std.specs.Option.{is_none}
use Rattle.gix_odb_core.specs.Metrics.{metrics_of}
use Rattle.gix_odb_events.specs.declared.metrics.Metrics.{Metrics}
use Rattle.gix_odb_core.specs.declared.shape.Shape.{Shape}
use Rattle.gix_odb_core.specs.Counts.{disposable_in, listed_in}
use Rattle.gix_odb_core.specs.Tally.{tally_of}
use Rattle.gix_odb_core.specs.declared.counts.Tally.{Tally}

abbrev measured : Shape → (handles refreshes unused : ℕ) → (listed disposable : Tally) → Metrics
measured shape handles refreshes unused listed disposable =
    record {
      num_handles = handles;
      num_refreshes = refreshes;
      open_reachable_indices = listed.open_indices;
      known_reachable_indices = listed.indices;
      open_reachable_packs = listed.open_packs;
      known_packs = listed.packs;
      unused_slots = unused;
      unreachable_indices = disposable.indices;
      unreachable_packs = disposable.open_packs;
      loose_dbs = shape.folders;
    }

pub metrics_from : (shape : Shape) (handles refreshes unused : ℕ) (listed disposable : Tally) → handles ≡ length shape.handles → unused ≡ count_by is_none shape.slots
    → listed ≡ tally_of (listed_in shape.slots shape.list) → disposable ≡ tally_of (disposable_in shape.slots)
    → measured shape handles refreshes unused listed disposable ≡ metrics_of shape refreshes
metrics_from shape handles refreshes unused listed disposable h u l d =
    ap (λ (n : ℕ). measured shape n refreshes unused listed disposable) h
    ∙ ap (λ (n : ℕ). measured shape (length shape.handles) refreshes n listed disposable) u
    ∙ ap (λ (t : Tally). measured shape (length shape.handles) refreshes (count_by is_none shape.slots) t disposable) l
    ∙ ap (λ (t : Tally). measured shape (length shape.handles) refreshes (count_by is_none shape.slots) (tally_of (listed_in shape.slots shape.list)) t) d
