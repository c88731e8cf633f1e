use Rattle.std.proofs.Common.{◌∙◌, sym}
use Rattle.std.proofs.lemmas.Result.{on_ok_weaker}
use Rattle.odb_disk.proofs.TreeLemmas.Change.{made-make_dir}
use Rattle.odb_disk.proofs.TreeLemmas.Possible.{can_make_dir}
use Rattle.odb_mem_disk.proofs.tree.Tree.apply_make_dir.Goals as goal

pub put_new-requires-clause-lies : goal.put_new-requires-clause-lies
put_new-requires-clause-lies c = (can_make_dir _ _ _ c.requires.possible).lies

pub put_new-requires-clause-no_directory : goal.put_new-requires-clause-no_directory
put_new-requires-clause-no_directory c = (can_make_dir _ _ _ c.requires.possible).no_directory

pub returns-clause-made : goal.returns-clause-made
returns-clause-made c = on_ok_weaker c.put_new.result (λ is. is ∙ sym (made-make_dir c.args.self.now c.args.path.now c.args.dev)) c.put_new.ensures.made
