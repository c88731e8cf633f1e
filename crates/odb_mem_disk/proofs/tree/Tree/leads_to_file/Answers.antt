use Rattle.std.proofs.Common.{◌∙◌, sym}
use Rattle.odb_disk.proofs.WriteCallsLemmas.Changes.{leads_to_file, no_file_there}
use Rattle.odb_mem_disk.proofs.tree.Tree.leads_to_file.Goals as goal
use Rattle.odb_mem_disk.proofs.tree.Tree.leads_to_file.Goals.{in-Ok, in-Err+in-Impossible, in-Err+in-NoMemory}

pub returns : goal.returns
returns c = record {
  leads = let t = c.args.self.now in
      let path = c.args.path.now in
      elim c.match-file_spot.branch [
        | in-Ok w ↦ rw w.result-is (sym (leads_to_file t path _ w.in-Ok.ensures.told))
        | in-Err+in-Impossible w ↦ rw w.result-is (sym (no_file_there t path w.in-Err.error w.in-Err.ensures.told (sym w.impossible_by.ensures.cause ∙ w.in-Impossible.is)))
        | in-Err+in-NoMemory w ↦ rw w.result-is tt
      ];
}
