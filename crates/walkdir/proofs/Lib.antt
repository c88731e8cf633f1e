mod OwnStreamsLemmas
mod StackLemmas
pub mod FailuresLaws
mod WorkLemmas
mod SkippedLemmas
mod StepLemmas
mod ReadLemmas
mod ProgressLemmas
mod StandsForLemmas
mod DrawsLemmas
mod TurnsLemmas
mod SkipLemmas
mod DirectoryLemmas
mod WithinLemmas
mod InnermostLemmas
mod SoundLemmas
mod HeldLemmas
mod OrderLemmas
mod ContainsLemmas
mod HandlesLemmas
mod RootLemmas
mod AboveLemmas
mod AnsweredLemmas
mod RefusedLemmas
mod EnteredLemmas
mod SortedLemmas
mod WalkLaws
mod StableLaws
mod WalkCases
pub mod OneListLaws
pub mod EnteredLaws
mod FilterLemmas
mod StillGivesLemmas
pub mod WholeWalks
pub mod SameWalks
pub mod AnsweredLaws
pub mod FilteredWalks
pub mod SkipLaws
mod FilteredWalkLemmas
pub mod FilteredWalkLaws
pub mod FilterLaws
mod CausesLemmas
