-- Lemmas of this crate; callers may cite those that are public.
-- Lemmas of this crate.
mod PathLemmas
mod JoinedPathLemmas
mod PathHeadLemmas
pub mod DecimalLemmas
mod ParseLemmas
mod BlocksLemmas
mod CallsLemmas
pub mod SourceLemmas
