mod ObjectLemmas
mod ReadLemmas
mod WrittenLemmas
mod ConditionLemmas
