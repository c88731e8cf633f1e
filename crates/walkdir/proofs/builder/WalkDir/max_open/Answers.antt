-- The walk gives the same list, however many directories may be open.
use Rattle.std.proofs.Common.{subst}
use Rattle.walkdir.specs.BuiltWalk.{walking}
use Rattle.walkdir.specs.WalkLaws.{GiveOneList}
use Rattle.walkdir.proofs.OneListLaws.{one_with_most}
use Rattle.walkdir.proofs.builder.WalkDir.max_open.Goals as goal

pub returns-clause-same : goal.returns-clause-same
returns-clause-same g c = λ tree order.
    let inside = c.self.inside in
    subst
    (λ built. GiveOneList (walking order tree built)
    (walking order tree (record {
      root = inside.root;
      options = record inside.options { max_open = c.max-self-inside.result };
      sorter = inside.sorter;
    })))
    c.self.view_is (one_with_most order tree (record { root = inside.root; options = inside.options; sorter = inside.sorter })
    c.max-self-inside.result)
