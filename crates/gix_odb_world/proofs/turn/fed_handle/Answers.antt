use Rattle.std.proofs.Common.{ap}
use Rattle.gix_odb_world.specs.Handle.{seen, seen_at}
use Rattle.gix_odb_world.proofs.FedLemmas.{turns_by}
use Rattle.gix_odb_world.proofs.turn.fed_handle.Goals as goal

pub returns-in-Opening : goal.returns-in-Opening
returns-in-Opening c = record {
  turned = turns_by (seen c.args.handle) _ _ c.args.told c.fed_opening.result (ap (seen_at c.args.handle.core) c.in-Opening.is) c.fed_opening.ensures.turned;
}

pub returns-in-Calling : goal.returns-in-Calling
returns-in-Calling c = record {
  turned = turns_by (seen c.args.handle) _ _ c.args.told c.fed_call.result (ap (seen_at c.args.handle.core) c.in-Calling.is) c.fed_call.ensures.turned;
}
