use Rattle.gix_odb_search.proofs.MultiPackLemmas.{name_put}
use Rattle.gix_odb_search.proofs.multi_pack.put_names.Goals as goal

pub loop-name-preserved : goal.loop-name-preserved
loop-name-preserved c = λ path.
    name_put c.args.folder.now c.args.names.now c.loop-name.name-index c.name-item.result c.loop-name-test.true c.name-item.is path _ _ _
    (c.loop-name.invariant path) (c.in_ok-put_name.ensures.put path)
