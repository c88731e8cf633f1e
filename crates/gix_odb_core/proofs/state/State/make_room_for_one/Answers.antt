use Rattle.gix_odb_core.proofs.StateLemmas.{roomier-same}
use Rattle.gix_odb_core.proofs.state.State.make_room_for_one.Goals as goal

pub returns-clause-same : goal.returns-clause-same
returns-clause-same c = roomier-same c.args.self.now c.make_room.new.self c.requires.kept c.make_room.ensures.entries c.make_room.ensures.grows
