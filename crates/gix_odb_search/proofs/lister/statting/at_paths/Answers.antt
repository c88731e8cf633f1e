use Rattle.std.proofs.Common.{◌∙◌, ◌∷◌, ap, drop}
use Rattle.gix_odb_search.specs.ListedStore.{listed_store}
use Rattle.gix_odb_search.specs.ListOrder.{at_paths}
use Rattle.gix_odb_search.proofs.RestLemmas.{first_rest}
use Rattle.gix_odb_search.proofs.lister.statting.at_paths.Goals as goal

pub returns-in-Ok : goal.returns-in-Ok
returns-in-Ok c = record {
  at =
      c.at_path.ensures.at (listed_store c.args.store.now)
      ∙ ap (at_paths (listed_store c.args.store.now) c.args.head)
      (ap (λ rest. c.in-Ok.path ∷ rest) c.advance.ensures.rest ∙ ap (λ path. path ∷ drop 1 c.args.left) c.in-Ok.ensures.copy
      ∙ first_rest c.args.left c.in-Some.path.now c.in-Some.ensures.first);
}
