-- Lemmas of this crate; callers may cite those that are public.
mod WellKeptLemmas
mod TreeCallsLemmas
mod NamesLemmas
mod EntriesLemmas
mod LastNodeLemmas
mod TreeMovesLemmas
mod ListingLemmas
mod NodeMapLemmas
mod WaysLemmas
