-- Laws of trying indices, that other crates may cite; and the lemmas of this crate.
pub mod SeekLaws
mod RestLemmas
mod InSlotLemmas
mod SearchLemmas
mod TodoLemmas
mod SpotLemmas
mod SingleSpotLemmas
mod MultiSpotLemmas
mod LongestFirstLemmas
mod FirstsLemmas
mod IndexPathsLemmas
mod MultiPackLemmas
mod PackAmongLemmas
pub mod LoadLaws
pub mod TrierLaws
pub mod ReachLemmas
pub mod ReachLaws
pub mod NotedLaws
pub mod TryTurnLaws
pub mod MultiReadLaws
pub mod UnnamedLaws
pub mod MultiRowLaws
