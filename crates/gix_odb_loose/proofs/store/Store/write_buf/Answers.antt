use Rattle.std.specs.Prelude.{IfOk, ◌≡◌}
use Rattle.gix_object.specs.Id.{object_id}
use Rattle.std.proofs.Common.{subst, length}
use Rattle.gix_odb_loose.specs.Store.{store_hash}
use Rattle.gix_odb_loose.specs.WriteRuns.{write_head}
use Rattle.gix_odb_loose.proofs.WriteRunsLemmas.Calls.{runs_at_hand, wrote_id, wrote_kind}
use Rattle.gix_odb_loose.proofs.store.Store.write_buf.Goals as goal

pub returns-clause-run : goal.returns-clause-run
returns-clause-run g c = runs_at_hand (write_head c.args.self.now c.args.kind (length c.args.from.now)) _ _ _ _ _ _ c.new-data.ensures.whole c.run_write.ensures.run

pub returns-clause-id : goal.returns-clause-id
returns-clause-id g c =
    subst (λ bytes. IfOk c.run_write.result (λ id. id ≡ object_id (store_hash c.args.self.now) c.args.kind bytes)) c.new-data.ensures.whole
    (wrote_id (write_head c.args.self.now c.args.kind (length c.args.from.now)) _ _ _ _ c.run_write.ensures.run)

pub returns-clause-kind : goal.returns-clause-kind
returns-clause-kind g c = wrote_kind (write_head c.args.self.now c.args.kind (length c.args.from.now)) _ _ _ _ c.run_write.ensures.run
