use Rattle.std.proofs.Common.{None, Some, arith}
use Rattle.gix_odb_events.proofs.PackIdLemmas.{pack_id_of-intrinsic}
use Rattle.gix_odb_events.proofs.pack_id.PackId.to_intrinsic_pack_id.Goals as goal

pub returns-in-None-clause-kept : goal.returns-in-None-clause-kept
returns-in-None-clause-kept c = pack_id_of-intrinsic c.args.self None c.in-None.is (omega arith)

pub returns-in-Some-clause-kept : goal.returns-in-Some-clause-kept
returns-in-Some-clause-kept c = pack_id_of-intrinsic c.args.self (Some c.in-Some.place) c.in-Some.is (omega arith)
