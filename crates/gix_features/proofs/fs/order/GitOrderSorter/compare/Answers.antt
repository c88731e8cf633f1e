-- The bytes of a name and the slash after it are compared one after the other.
use Rattle.std.proofs.Common.{◌≡◌, refl, ap, ◌∙◌}
use Rattle.std.specs.Iterator.Adapters.{chain_first_done, chain_second_done}
use Rattle.std.specs.Ordering.{nat_cmp}
use Rattle.std.proofs.lemmas.Iterator.{YieldsList-from_slice}
use Rattle.std.proofs.lemmas.Iterator.Consumers.{YieldsList-from_chain}
use Rattle.std.proofs.lemmas.Iterator.Search.{cmp_from_yields_List}
use Rattle.walkdir.specs.Entry.{file_name_of}
use Rattle.gix_features.specs.GitOrder.{slash_behind}
use Rattle.gix_features.proofs.fs.order.GitOrderSorter.compare.Goals as goal

pub returns : goal.returns
returns c =
    let a = c.args.a.now in
    let b = c.args.b.now in
    record {
      compared = cmp_from_yields_List (λ x y. y ≡ x) _ nat_cmp _ c.cmp.ensures.ran
          (YieldsList-from_chain (YieldsList-from_slice (file_name_of a) cc) (YieldsList-from_slice (slash_behind a) cc)
          c.chain-own.ensures.first_done c.chain-own.ensures.second_done)
          (λ it e.
          YieldsList-from_chain (YieldsList-from_slice (file_name_of b) cc) (YieldsList-from_slice (slash_behind b) cc)
          (ap chain_first_done e ∙ c.chain-other.ensures.first_done) (ap chain_second_done e ∙ c.chain-other.ensures.second_done))
          (λ x y. refl);
    }
