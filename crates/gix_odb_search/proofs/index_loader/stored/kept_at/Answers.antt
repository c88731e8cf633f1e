use Rattle.std.proofs.Common.{◌∙◌}
use Rattle.gix_odb_search.proofs.InSlotLemmas.{found_at}
use Rattle.gix_odb_search.proofs.index_loader.stored.kept_at.Goals as goal

pub returns : goal.returns
returns c = let only = c.in_ok-shown.ensures in
    record { kept = c.at_path.ensures.at ∙ found_at c.args.place.now c.in_ok-shown.shown c.args.view.now.snapshot.kept only.first only.only }
