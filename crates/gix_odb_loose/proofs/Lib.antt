mod LooseExamples
mod LoosePathLemmas
pub mod LooseOrderLaws
pub mod CauseLaws
pub mod ExchangeLaws
pub mod ReplyLaws
pub mod AsksLeftLemmas
pub mod StillAskLaws
pub mod NameLaws
mod AskedLemmas
mod RunLemmas
pub mod RoomLemmas
mod WriteOrderLemmas
mod WriteJobsLemmas
mod WriteStreamsLemmas
pub mod AskLaws
pub mod WriteHistoryLaws
pub mod WriteMadeLaws
pub mod WriteDoneLaws
pub mod WriteShownLaws
pub mod WriteCauseLaws
pub mod ReadBackLaws
pub mod FoundLaws
mod StreamJobsLemmas
mod WriteRunsLemmas
mod NameSetLemmas
mod PrefixOrderLemmas
mod PrefixWayLaws
mod PrefixNamesLemmas
mod PrefixListLemmas
pub mod PrefixFolderLaws
mod PrefixSearchesLemmas
mod PrefixSetLemmas
mod PrefixRunsLemmas
mod PrefixFoundLemmas
