use Rattle.gix_odb_loose.proofs.PrefixFoundLemmas.{none_gain, none_stay}
use Rattle.gix_odb_loose.proofs.store.Store.lookup_prefix.Goals as goal

pub returns-in-None-clause-gathered : goal.returns-in-None-clause-gathered
returns-in-None-clause-gathered g c = rw c.in-None.is (none_gain _ c.outcome.result)

pub returns-in-None-clause-refused : goal.returns-in-None-clause-refused
returns-in-None-clause-refused g c = rw c.in-None.is (none_stay c.outcome.result)

pub returns-in-None-clause-asked : goal.returns-in-None-clause-asked
returns-in-None-clause-asked g c = rw c.in-None.is c.outcome.ensures.asked

pub returns-in-Some-clause-gathered : goal.returns-in-Some-clause-gathered
returns-in-Some-clause-gathered g c = rw c.in-Some.is c.gather.ensures.gathered

pub returns-in-Some-clause-refused : goal.returns-in-Some-clause-refused
returns-in-Some-clause-refused g c = rw c.in-Some.is c.gather.ensures.refused

pub returns-in-Some-clause-asked : goal.returns-in-Some-clause-asked
returns-in-Some-clause-asked g c = rw c.in-Some.is c.gather.ensures.asked
