-- Laws of look-ups, and of what they are shown, that other crates may cite; and the lemmas of this crate.
-- Laws of listings and of refreshes that other crates may cite; and the lemmas of this crate.
-- Laws of openings that other crates may cite; and the lemmas of this crate.
-- Further laws of look-ups and of listings, and their lemmas.
pub mod CauseLaws
pub mod FoundLaws
pub mod MissLaws
pub mod TurnLaws
pub mod StreamLaws
pub mod HandedLaws
pub mod OpenedLaws
pub mod ListerLaws
pub mod AskedLemmas
pub mod RefreshLaws
pub mod AskLaws
pub mod OpenLaws
mod CallLemmas
mod ModeLemmas
mod HandleLemmas
mod SlotsLemmas
mod WriteLemmas
mod AnySearch
mod TrierAtHand
mod LastExchange
mod PathsApart
pub mod ReadLaws
pub mod NextLaws
pub mod OnceLaws
pub mod HashLaws
pub mod ListingLaws
pub mod MovedLaws
pub mod PublishedLaws
