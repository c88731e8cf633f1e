-- Laws of trees, and lemmas; those after the laws are for the proofs of a tree in memory.
-- Laws of calls, and lemmas; callers may cite those that are public.
pub mod TreeLemmas
pub mod TreeNumbersLemmas
pub mod MovedNumbersLemmas
pub mod WriteCallsLemmas
pub mod WriteLaws
mod WayLemmas
pub mod WayLaws
pub mod WayWriteLaws
pub mod OwnFileLaws
pub mod OwnWayLaws
pub mod CrossesLaws
pub mod RefusalLaws
mod FollowExamples
mod WayExamples
pub mod MemDiskLemmas
pub mod AskLemmas
pub mod StreamAsksLemmas
pub mod AskedLaws
pub mod StillAskLaws
pub mod StreamsLemmas
pub mod CallsMadeLaws
