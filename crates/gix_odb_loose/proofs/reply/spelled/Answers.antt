use Rattle.gix_odb_loose.proofs.LooseOrderLaws.File.{spelled_in-IsLoose}
use Rattle.gix_odb_loose.proofs.reply.spelled.Goals as goal

pub returns-in-Ok-clause-found : goal.returns-in-Ok-clause-found
returns-in-Ok-clause-found c = spelled_in-IsLoose c.args.bytes.now _ _ _ c.in-Ok.ensures.found
