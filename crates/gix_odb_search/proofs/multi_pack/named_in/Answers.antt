use Rattle.gix_odb_search.proofs.MultiPackLemmas.{row_put}
use Rattle.gix_odb_search.proofs.multi_pack.named_in.Goals as goal

pub loop-row-preserved : goal.loop-row-preserved
loop-row-preserved c = λ path.
    row_put c.args.rows.now c.loop-row.row-index c.row-item.result c.loop-row-test.true c.row-item.is path _ _ _
    (c.loop-row.invariant path) (c.in_ok-put_named.ensures.put path)
