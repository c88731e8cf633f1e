use Rattle.gix_odb_core.proofs.CoreLemmas.{core-same}
use Rattle.gix_odb_core.proofs.apply.Core.with_room.Goals as goal

-- a core with more spare room is the same
pub invariant_of-core : goal.invariant_of-core
invariant_of-core c = core-same c.self.inside.opening c.self.inside.state c.make_room_for_one.new.self c.self.invariant c.make_room_for_one.ensures.same

pub invariant_of-ready : goal.invariant_of-ready
invariant_of-ready c =
    record {
      core = core-same c.self.inside.opening c.self.inside.state c.make_room_for_one.new.self c.self.invariant c.make_room_for_one.ensures.same;
      room = c.in-Ok.ensures.room;
    }
