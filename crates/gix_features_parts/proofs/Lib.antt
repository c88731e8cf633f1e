mod InterruptLemmas
mod ChunksLemmas
mod Leb64Lemmas
pub mod Leb64Laws
mod NumberedLemmas
mod InOrderLemmas
pub mod InOrderLaws
