use Rattle.std.proofs.Common.{Some}
use Rattle.gix_odb_loose.specs.WriteRuns.{write_head}
use Rattle.gix_odb_loose.proofs.WriteRunsLemmas.Calls.{drawn_from, wrote_spared, wrote_whole, wrote_known}
use Rattle.gix_odb_loose.proofs.store.Store.write_stream_with_known_id.Goals as goal

pub returns-clause-from : goal.returns-clause-from
returns-clause-from g c = drawn_from c.args.size _ _ _ _ c.run_write.ensures.taken

pub returns-clause-whole : goal.returns-clause-whole
returns-clause-whole g c =
    wrote_whole (write_head c.args.self.now c.args.kind c.args.size) _ _ _ _ (Some c.args.id) _ _ _ c.run_write.ensures.run c.run_write.ensures.taken c.run_write.ensures.ended

pub returns-clause-id : goal.returns-clause-id
returns-clause-id g c = wrote_known (write_head c.args.self.now c.args.kind c.args.size) _ _ _ _ c.args.id c.run_write.ensures.run

pub returns-clause-spared : goal.returns-clause-spared
returns-clause-spared g c = wrote_spared (write_head c.args.self.now c.args.kind c.args.size) _ _ _ _ (Some c.args.id) c.run_write.ensures.run
