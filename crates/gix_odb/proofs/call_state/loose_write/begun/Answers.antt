use Rattle.std.proofs.Common.{◌≡◌, sym, subst}
use Rattle.gix_hash.specs.ObjectId.{kind_of}
use Rattle.gix_odb_loose.specs.LooseFile.{id_asked}
use Rattle.gix_odb_loose.specs.declared.call.LooseJob.TheVariants as jobs
use Rattle.gix_odb.proofs.WriteLemmas.{start_fits}
use Rattle.gix_odb.proofs.call_state.loose_write.begun.Goals as goal

pub start-requires : goal.start-requires
start-requires c =
    record {
      hash = subst (λ hash. kind_of (id_asked hash (jobs.Write c.args.kind c.args.size c.args.bytes c.args.id)) ≡ hash) (sym c.in_ok-store.ensures.hash)
          (start_fits c.args.kind c.args.size c.args.bytes c.args.id c.args.hash c.requires.of_hash);
    }
