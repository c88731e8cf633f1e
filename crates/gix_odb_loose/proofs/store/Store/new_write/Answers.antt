use Rattle.std.proofs.Common.{ap, ◌∙◌}
use Rattle.odb_base.specs.Path.{Path}
use Rattle.gix_odb_loose.specs.declared.write_order.WriteHead.{WriteHead}
use Rattle.gix_odb_loose.specs.WriteRuns.{write_head}
use Rattle.gix_odb_loose.proofs.WriteRunsLemmas.Begins.{new_in}
use Rattle.gix_odb_loose.proofs.store.Store.new_write.Goals as goal

pub returns : goal.returns
returns c =
    let head_of : Path → WriteHead = λ p. record { objects = p; kind = c.args.kind; size = c.args.size } in
    let same = ap head_of (c.in_ok-try_clone.ensures.copy ∙ c.path.ensures.path) in
    let started = c.start.ensures in
    record {
      begun =
          new_in (write_head c.args.self.now c.args.kind c.args.size) _ _ c.object_hash.result c.args.known c.start.result same c.object_hash.ensures.hash
          started.head started.stage started.has_ended started.naming started.removal;
    }
