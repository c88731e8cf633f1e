-- One call more of a look-up of a prefix.
use Rattle.std.proofs.Common.{◌≡◌, List, [], ◌∷◌, ◌++◌, refl, sym, subst}
use Rattle.odb_disk.specs.declared.ask.DiskAnswer.{DiskAnswer}
use Rattle.odb_disk.specs.declared.ask.DiskAsk.{DiskAsk}
use Rattle.gix_odb_loose.specs.PrefixOrder.{ask_of, fed}
use Rattle.gix_odb_loose.specs.PrefixRuns.{Comes}
use Rattle.gix_odb_loose.specs.declared.prefix_search.PrefixSearch.{PrefixSearch}
use Rattle.gix_odb_loose.specs.declared.prefix_search.SearchStep.{SearchStep}
use Rattle.gix_odb_loose.specs.declared.prefix_search.SearchStep.TheVariants.{More, Done}

module _ {D : Type 0} (answered : D → DiskAsk → DiskAnswer → D → Type 0) where
  pub comes_further : (given : List DiskAnswer) (step : SearchStep) (before between after : D) (search : PrefixSearch) (answer : DiskAnswer) (end : SearchStep)
      → Comes answered given step before between (More search) → answered between (ask_of search) answer after → end ≡ fed search answer → Comes answered (given ++ answer ∷ []) step before after end
  comes_further [] step before between after search answer end came was is =
      subst (λ (s : SearchStep). Comes answered (answer ∷ []) s before after end) (sym came.1) (after, subst (λ (d : D). answered d (ask_of search) answer after) (sym came.0) was, (refl, sym is))
  comes_further (first ∷ given) (More own) before between after search answer end came was is =
      (came.0, came.1, comes_further given (fed own first) came.0 between after search answer end came.2 was is)
  comes_further (first ∷ given) (Done found) before between after search answer end came was is = absurd came
