use Rattle.gix_odb_core.proofs.MatchedLemmas.{new_at}
use Rattle.gix_odb_core.proofs.matched.Matched.is_new.Goals as goal

pub returns : goal.returns
returns c = record {
  new = λ row at. new_at c.args.self.now.slots.now c.args.self.now.rows.now c.args.self.now.places.items c.args.place row c.index.result.now c.is_none.result c.requires.within
      c.args.self.now.places_of_rows at c.index.ensures c.is_none.ensures;
}
