pub mod WrittenPackLemmas
pub mod PlacedLemmas
pub mod TableLemmas
pub mod WrittenTableLemmas
mod ReadHeaderLemmas
mod ReadBackLemmas
mod PackExamples
mod WrittenIndexLemmas
mod IndexExamples
pub mod ExampleIds
mod MultiIndexExamples
mod PlacedPackRowLemmas
mod WrittenMultiIndexLemmas
mod WrittenChunkLemmas
mod WrittenPartsLemmas
mod ReadMultiIndexLemmas
