-- When two paths are the same, for other crates, and lemmas of this crate.
pub mod SamePathLaws
pub mod PackListLaws
pub mod ShownLemmas
mod LentLemmas
mod PackIdLemmas
mod PlacesLemmas
mod PackPathLemmas
mod ValuesLemmas
