use Rattle.std.proofs.Common.{ap}
use Rattle.gix_odb.specs.OpenOrder as openings
use Rattle.gix_odb_world.proofs.turn.opened.Goals as goal

-- its opening asks for a core
pub into_state-requires : goal.into_state-requires
into_state-requires c = record {
  registers = (c.args.slots, ap (openings.ask_of c.args.opening.info.value.objects c.args.opening.info.value.folders) c.requires.registers);
}
