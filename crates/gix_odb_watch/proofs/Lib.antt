-- Lemmas of this crate; callers may cite those that are public.
pub mod KeepsLaws
pub mod ReadLaws
mod ListLemmas
mod OverLemmas
mod SightLemmas
mod EntryLemmas
mod FilesLemmas
mod TouchedLemmas
mod RevealedLemmas
mod KeptLemmas
