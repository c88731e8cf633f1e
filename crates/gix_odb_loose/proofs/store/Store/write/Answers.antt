use Rattle.std.proofs.Common.{None, Some, ◌≡◌, length, refl, sym, ◌∙◌}
use Rattle.gix_odb_loose.specs.Asked.{AreAllCalls}
use Rattle.gix_odb_loose.specs.StreamJobs.Progress.{begun_in}
use Rattle.gix_odb_loose.proofs.WriteRunsLemmas.Calls.{runs_of_object, put_all, runs_at_hand}
use Rattle.gix_odb_loose.proofs.WriteRunsLemmas.Ends.{runs_nothing}
use Rattle.gix_odb_loose.proofs.store.Store.write.Goals as goal

pub returns-then-is_err-clause-run : goal.returns-then-is_err-clause-run
returns-then-is_err-clause-run g c =
    let bytes = g.O.WriteTo.bytes c.args.object.now in
    let w = begun_in c.args.self.now (g.O.WriteTo.kind c.args.object.now) (length bytes) None (Some bytes) 0 (g.D.Disk.state c.args.disk.now) (g.D.Disk.faults c.args.disk.now) in
    runs_at_hand _ _ _ _ _ _ _ refl (runs_nothing (λ exchanges. AreAllCalls g.D.Disk.answered exchanges c.args.disk.now c.args.disk.now) w refl _ refl)

pub returns-clause-run : goal.returns-clause-run
returns-clause-run g c =
    let bytes = g.O.WriteTo.bytes c.args.object.now in
    let bytes_are : c.bytes.result.now ≡ bytes = c.bytes.ensures.value ∙ put_all bytes _ _ c.write_to.result c.write_to.ensures.bytes
    (sym c.is_err.ensures.value ∙ c.if-is_err.false) c.new-data.ensures.held in
    runs_of_object c.args.self.now _ _ _ _ _ _ _ _ c.kind.ensures.kind bytes_are c.write_buf.ensures.run
