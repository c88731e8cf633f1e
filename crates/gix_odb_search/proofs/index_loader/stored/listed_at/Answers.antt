use Rattle.std.proofs.Common.{◌∙◌}
use Rattle.gix_odb_search.proofs.InSlotLemmas.{found_at}
use Rattle.gix_odb_search.proofs.index_loader.stored.listed_at.Goals as goal

pub returns : goal.returns
returns c = let only = c.in_ok-shown.ensures in
    record { listed = c.at_path.ensures.at ∙ found_at c.args.place.now c.in_ok-shown.shown c.args.view.now.snapshot.indices only.first only.only }
