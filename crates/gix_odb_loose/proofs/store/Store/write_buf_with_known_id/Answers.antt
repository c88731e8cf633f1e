use Rattle.std.proofs.Common.{length}
use Rattle.gix_odb_loose.specs.WriteRuns.{write_head}
use Rattle.gix_odb_loose.proofs.WriteRunsLemmas.Calls.{runs_at_hand, wrote_known}
use Rattle.gix_odb_loose.proofs.store.Store.write_buf_with_known_id.Goals as goal

pub returns-clause-run : goal.returns-clause-run
returns-clause-run g c = runs_at_hand (write_head c.args.self.now c.args.kind (length c.args.from.now)) _ _ _ _ _ _ c.new-data.ensures.whole c.run_write.ensures.run

pub returns-clause-id : goal.returns-clause-id
returns-clause-id g c = wrote_known (write_head c.args.self.now c.args.kind (length c.args.from.now)) _ _ _ _ c.args.id c.run_write.ensures.run
