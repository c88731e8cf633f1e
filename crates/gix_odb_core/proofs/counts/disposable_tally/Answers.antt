use Rattle.std.proofs.Common.{◌∙◌, ◌+◌, ap, arith, drop, sym}
use Rattle.std.proofs.lemmas.List.{drop_all}
use Rattle.gix_odb_core.proofs.CountsLemmas.{disposable_tally-counts, disposable_tally-small, disposable_tally-step}
use Rattle.gix_odb_core.proofs.SmallLemmas.{disposable_small}
use Rattle.gix_odb_core.specs.Tally.{with_disposable}
use Rattle.gix_odb_core.proofs.counts.disposable_tally.Goals as goal

pub with_disposable-tally-requires : goal.with_disposable-tally-requires
with_disposable-tally-requires c =
    let small = disposable_small c.args.slots.now c.requires.packs c.requires.few in
    record { small = disposable_tally-small c.args.slots.now c.loop-place.place c.loop-place.tally (omega arith) c.loop-place.invariant small }

pub loop-place-preserved : goal.loop-place-preserved
loop-place-preserved c =
    ap (λ tally. with_disposable tally (drop (c.loop-place.place + 1) c.args.slots.now)) c.with_disposable-tally.ensures.tally
    ∙ disposable_tally-step c.args.slots.now c.loop-place.place c.loop-place.tally (omega arith) c.loop-place.invariant

pub returns : goal.returns
returns c =
    let whole = ap (with_disposable c.loop-place.tally) (sym (drop_all c.loop-place.place c.args.slots.now (omega arith))) ∙ c.loop-place.invariant in
    record { tally = whole ∙ disposable_tally-counts c.args.slots.now }
