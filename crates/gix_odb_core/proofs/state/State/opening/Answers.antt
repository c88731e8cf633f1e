use Rattle.std.proofs.Common.{refl}
use Rattle.gix_odb_core.proofs.OpeningLemmas.{opening-kept}
use Rattle.gix_odb_core.proofs.state.State.opening.Goals as goal

pub returns-clause-kept : goal.returns-clause-kept
returns-clause-kept c =
    opening-kept c.args.slots c.args.folders c.args.generation c.args.state_id _
    c.opening-shelf.result c.requires.few c.opening-shelf.ensures.opening c.without_handles.ensures.shape c.in_ok-view.ensures.view c.empty.ensures.empty c.new.ensures.entries refl
