mod DealtLemmas
mod WorkersLemmas
mod ReducedLemmas
pub mod WorkersLaws
mod RoundsLemmas
