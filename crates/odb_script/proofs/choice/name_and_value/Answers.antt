use Rattle.odb_script.proofs.OpeningLemmas.{has_value-split}
use Rattle.odb_script.proofs.choice.name_and_value.Goals as goal

pub returns-clause-found : goal.returns-clause-found
returns-clause-found c = has_value-split c.args.option.now _ c.split_once.ensures.cases
