use Rattle.std.proofs.Common.{◌<◌, List, length, sym, subst}
use Rattle.gix_odb_events.specs.Lent.{lent_index}
use Rattle.gix_odb_events.specs.declared.loaded.SnapshotIndex.{SnapshotIndex}
use Rattle.gix_odb_search.proofs.SearchLemmas.{shorter}
use Rattle.gix_odb_search.proofs.multi_pack.loaded_before.Goals as goal

pub loop-index-smaller : goal.loop-index-smaller
loop-index-smaller c = subst (λ (left : List SnapshotIndex). length left < length c.loop-index.rest) (sym c.pass.ensures.rest)
    (shorter (lent_index c.in-Some-first.index) c.loop-index.rest c.in-Some-first.ensures.lent)
