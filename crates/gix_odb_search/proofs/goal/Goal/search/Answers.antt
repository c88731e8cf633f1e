use Rattle.std.proofs.Common.{◌≡◌, ◌<◌, List, length, sym, ap, ◌∙◌, subst}
use Rattle.gix_odb_events.specs.Lent.{lent_index}
use Rattle.gix_odb_events.specs.declared.loaded.SnapshotIndex.{SnapshotIndex}
use Rattle.gix_odb_search.specs.Search.{rest_behind, search, tried}
use Rattle.gix_odb_search.specs.declared.search.Sought.TheVariants.{Nowhere}
use Rattle.gix_odb_search.proofs.SearchLemmas.{rest_at, rest_end, rest_on, search_at, search_end, search_on, shorter}
use Rattle.gix_odb_search.proofs.goal.Goal.search.Goals as goal

pub loop-index-smaller : goal.loop-index-smaller
loop-index-smaller c = subst (λ (left : List SnapshotIndex). length left < length c.loop-index.indices) (sym c.pass.ensures.rest)
    (shorter (lent_index c.in-Some.index) c.loop-index.indices c.in-Some.ensures.lent)

-- the index has nothing, and is skipped
pub loop-index-preserved : goal.loop-index-preserved
loop-index-preserved c =
    let first = c.in-Some.ensures.lent in
    let nowhere = sym c.in_ok-found.ensures.search ∙ c.in-Nowhere.is in (
      ap (search c.args.self.now c.args.notes.now.absent) c.pass.ensures.rest
          ∙ search_on c.args.self.now c.args.notes.now.absent (lent_index c.in-Some.index) c.loop-index.indices first nowhere ∙ c.loop-index.invariant.0,
      ap (rest_behind c.args.self.now c.args.notes.now.absent) c.pass.ensures.rest
          ∙ rest_on c.args.self.now c.args.notes.now.absent (lent_index c.in-Some.index) c.loop-index.indices first nowhere ∙ c.loop-index.invariant.1,
    )

-- the search ends at the index
pub returns-in_default-found : goal.returns-in_default-found
returns-in_default-found c =
    let first = c.in-Some.ensures.lent in
    let index = lent_index c.in-Some.index in
    let other : tried c.args.self.now c.args.notes.now.absent index ≡ Nowhere → ⊥ = λ is. c.in_default-found.not-Nowhere (c.in_ok-found.ensures.search ∙ is) in
    record {
      search = c.in_ok-found.ensures.search
          ∙ search_at c.args.self.now c.args.notes.now.absent index c.loop-index.indices first other ∙ c.loop-index.invariant.0;
      rest = c.pass.ensures.rest
          ∙ rest_at c.args.self.now c.args.notes.now.absent index c.loop-index.indices first other ∙ c.loop-index.invariant.1;
    }

-- no index is left
pub returns-clause-search : goal.returns-clause-search
returns-clause-search c =
    search_end c.args.self.now c.args.notes.now.absent c.loop-index.indices c.in_default.ensures.lent ∙ c.loop-index.invariant.0

pub returns-clause-rest : goal.returns-clause-rest
returns-clause-rest c =
    c.pass-2.ensures.rest ∙ rest_end c.args.self.now c.args.notes.now.absent c.loop-index.indices c.in_default.ensures.lent ∙ c.loop-index.invariant.1
