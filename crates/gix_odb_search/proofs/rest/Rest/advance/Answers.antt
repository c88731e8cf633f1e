use Rattle.std.proofs.lemmas.List.{drop-drop}
use Rattle.gix_odb_search.proofs.rest.Rest.advance.Goals as goal

pub returns-then-self-len : goal.returns-then-self-len
returns-then-self-len g c = let left = drop-drop 1 c.self.inside.next c.self.inside.list in record { rest = cc }
