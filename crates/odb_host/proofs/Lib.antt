-- Lemmas of this crate.
mod OwingLemmas
mod HostListingLemmas
