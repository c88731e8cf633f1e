use Rattle.std.proofs.Common.{ℕ, ◌+◌, ◌∙◌, ap, arith, sym}
use Rattle.gix_odb_events.specs.OnDiskFile.{is_loaded}
use Rattle.gix_odb_events.specs.PackFiles.{PackFile}
use Rattle.gix_odb_core.proofs.CountsLemmas.{count_by-no, count_by-yes}
use Rattle.gix_odb_core.proofs.counts.loaded_packs.Goals as goal
use Rattle.gix_odb_core.proofs.counts.loaded_packs.Goals.{then-is_loaded_at, else-is_loaded_at}

pub loop-place-preserved : goal.loop-place-preserved
loop-place-preserved c = elim c.if-is_loaded_at.branch [
  | then-is_loaded_at w ↦ record {
    loaded = w.loaded-is ∙ ap (λ (n : ℕ). n + 1) c.loop-place.invariant.loaded
        ∙ sym (count_by-yes (λ (pack : PackFile). is_loaded pack.state) c.args.packs.now c.loop-place.place (omega arith) c.is_loaded_at.result c.is_loaded_at.ensures.loaded w.if-is_loaded_at.true);
    within = omega (arith, w.loaded-is, c.loop-place.invariant.within);
  }
  | else-is_loaded_at w ↦ record {
    loaded = w.loaded-is ∙ c.loop-place.invariant.loaded
        ∙ sym (count_by-no (λ (pack : PackFile). is_loaded pack.state) c.args.packs.now c.loop-place.place (omega arith) c.is_loaded_at.result c.is_loaded_at.ensures.loaded w.if-is_loaded_at.false);
    within = omega (arith, w.loaded-is, c.loop-place.invariant.within);
  }
]
