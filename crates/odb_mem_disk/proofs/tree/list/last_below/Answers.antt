use Rattle.odb_disk.proofs.TreeLemmas.Moved.{begins-own}
use Rattle.odb_mem_disk.proofs.tree.list.last_below.Goals as goal

pub returns-in_default-clause-below : goal.returns-in_default-clause-below
returns-in_default-clause-below c = begins-own c.args.path.now

pub returns-clause-below : goal.returns-clause-below
returns-clause-below c = begins-own c.args.path.now
