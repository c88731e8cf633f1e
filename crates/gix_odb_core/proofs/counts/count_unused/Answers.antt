use Rattle.std.proofs.Common.{ℕ, ◌+◌, ◌∙◌, ap, arith, sym}
use Rattle.gix_odb_core.proofs.CountsLemmas.{count_unused-no, count_unused-yes}
use Rattle.gix_odb_core.proofs.counts.count_unused.Goals as goal
use Rattle.gix_odb_core.proofs.counts.count_unused.Goals.{then-is_empty, else-is_empty}

pub loop-place-preserved : goal.loop-place-preserved
loop-place-preserved c = elim c.if-is_empty.branch [
  | then-is_empty w ↦ record {
    unused = w.unused-is ∙ ap (λ (n : ℕ). n + 1) c.loop-place.invariant.unused
        ∙ sym (count_unused-yes c.args.slots.now c.loop-place.place (omega arith) (sym w.if-is_empty.true ∙ c.is_empty.ensures.empty));
    within = omega (arith, w.unused-is, c.loop-place.invariant.within);
  }
  | else-is_empty w ↦ record {
    unused = w.unused-is ∙ c.loop-place.invariant.unused
        ∙ sym (count_unused-no c.args.slots.now c.loop-place.place (omega arith) (sym w.if-is_empty.false ∙ c.is_empty.ensures.empty));
    within = omega (arith, w.unused-is, c.loop-place.invariant.within);
  }
]
