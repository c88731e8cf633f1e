use Rattle.gix_odb_history.proofs.KeptCoreLemmas.{whole_if_registered}
use Rattle.gix_odb_history.proofs.kept_core.KeptCore.answer.Goals as goal

pub unreachable-requires : goal.unreachable-requires
unreachable-requires c =
    whole_if_registered c.self.inside.state c.args.self.now _ c.args.seat c.self.view_is c.self.invariant.left c.in-Left.is c.requires.registered
