use Rattle.std.proofs.Common.{◌≤◌, ◌∙◌, ℕ, All, List, ap, is_none, length, subst, sym}
use Rattle.std.specs.List.{count_by}
use Rattle.gix_odb_events.specs.Slots.{HasFewPacks, Slot}
use Rattle.gix_odb_core.specs.Counts.{disposable_in, listed_in}
use Rattle.gix_odb_core.specs.Tally.{tally_of}
use Rattle.gix_odb_core.proofs.MetricsLemmas.{metrics_from}
use Rattle.gix_odb_core.proofs.shape.Shape.metrics.Goals as goal

pub listed_tally-listed-requires : goal.listed_tally-listed-requires
listed_tally-listed-requires c = record {
  packs = subst (All HasFewPacks) (sym c.list-slots.ensures.slots) c.requires.countable.packs;
  short = subst (λ (l : List ℕ). length l ≤ 32767) (sym c.as_slice.ensures.places) c.requires.countable.short;
}

pub returns : goal.returns
returns c = record {
  metrics =
      metrics_from c.args.self.now c.len.result c.args.refreshes c.count_unused.result c.listed_tally-listed.result c.disposable_tally-disposable.result c.len.ensures.len
      (c.count_unused.ensures.unused ∙ ap (λ (s : List Slot). count_by is_none s) c.list-slots.ensures.slots)
      (c.listed_tally-listed.ensures.tally
      ∙ ap (λ (l : List ℕ). tally_of (listed_in c.list-slots.result.now l)) c.as_slice.ensures.places
      ∙ ap (λ (s : List Slot). tally_of (listed_in s c.args.self.now.list)) c.list-slots.ensures.slots)
      (c.disposable_tally-disposable.ensures.tally ∙ ap (λ (s : List Slot). tally_of (disposable_in s)) c.list-slots.ensures.slots);
}
