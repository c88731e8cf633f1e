-- Both tests are true exactly if packs can be written.
use Rattle.odb_script.proofs.PackLemmas.{can_be_written-same}
use Rattle.odb_script.proofs.objects.can_be_written.Goals as goal

pub returns-clause-exact : goal.returns-clause-exact
returns-clause-exact c = can_be_written-same _ _ c.can_be_written.ensures.exact
