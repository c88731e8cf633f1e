use Rattle.gix_odb_search.proofs.RestLemmas.{first_left}
use Rattle.gix_odb_search.proofs.rest.Rest.first.Goals as goal

pub returns : goal.returns
returns g c = let left = first_left c.self.inside.list c.self.inside.next in record { first = cc }
