mod FoundLemmas
mod CostLemmas
