use Rattle.std.proofs.Common.{◌∙◌, sym}
use Rattle.std.proofs.lemmas.Bool.{false≢true}
use Rattle.odb_disk.proofs.WriteCallsLemmas.Changes.{no_file_there}
use Rattle.odb_mem_disk.proofs.tree.Tree.file_led_to.Goals as goal

pub unreachable-requires : goal.unreachable-requires
unreachable-requires c =
    false≢true (sym (no_file_there c.args.self.now c.args.path.now c.in-Err.error c.in-Err.ensures.told (sym c.impossible_by.ensures.cause ∙ c.in-Impossible.is)) ∙ c.requires.leads)
