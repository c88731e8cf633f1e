use Rattle.gix_odb_loose.proofs.NameSetLemmas.{has_more}
use Rattle.gix_odb_loose.proofs.name_set.add.Goals as goal

pub returns-clause-added : goal.returns-clause-added
returns-clause-added c = λ other. has_more c.args.id other _ _ (c.in_ok-insert.ensures.updates.0 other)
