pub mod ListLemmas
pub mod RowsLemmas
pub mod OffsetLaws
pub mod RisingLemmas
pub mod SearchLemmas
mod FirstByteLemmas
pub mod LookUpLaws
mod PrefixRunLemmas
mod PackLemmas
pub mod EntryLemmas
mod IndexLemmas
mod IndexRowsLemmas
mod ChunkLemmas
mod PackRowLemmas
mod NameLemmas
mod PartLemmas
mod ReadLemmas
