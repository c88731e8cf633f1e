use Rattle.std.proofs.Common.{◌∙◌, ap, sym}
use Rattle.std.proofs.lemmas.List.{drop_all}
use Rattle.gix_odb_core.proofs.CountsLemmas.{listed_tally-counts, listed_tally-small}
use Rattle.gix_odb_core.proofs.SmallLemmas.{listed_small}
use Rattle.gix_odb_core.specs.Tally.{with_places}
use Rattle.gix_odb_core.proofs.counts.listed_tally.Goals as goal

pub with_place-tally-requires : goal.with_place-tally-requires
with_place-tally-requires c =
    let small = listed_small c.args.slots.now c.args.list.now c.requires.packs c.requires.short in
    record { small = listed_tally-small c.args.slots.now c.args.list.now c.loop-place.place-index c.loop-place.tally c.loop-place-test.true c.loop-place.invariant small }

pub returns : goal.returns
returns c =
    let whole = ap (with_places c.args.slots.now c.loop-place.tally) (sym (drop_all c.loop-place.place-index c.args.list.now c.loop-place-test.false)) ∙ c.loop-place.invariant in
    record { tally = whole ∙ listed_tally-counts c.args.slots.now c.args.list.now }
