mod AlongRun
mod BegunLemmas
mod BoundLemmas
mod CarriedLemmas
mod CloneLemmas
mod FedLemmas
mod FolderLemmas
mod HandleLemmas
mod DistinctLemmas
mod StepListLemmas
pub mod PlayLemmas
pub mod HistoryLemmas
pub mod RunSteps
mod LawfulRun
mod FileSteps
mod OwnFiles
mod CutFiles
mod StandAlone
pub mod SeatLemmas
mod ExplainedLemmas
mod ExplainedSeats
mod EntryLemmas
mod NameSteps
mod RunLaws
mod RunEnds
mod KnowsLemmas
pub mod MachineLaws
pub mod QueryCalls
mod QuietTurn
mod ListedRows
mod CountedFiles
mod OpeningMachine
mod LookMachine
mod WriteMachine
mod Machines
mod WorkLaws
mod StartLemmas
mod StepLemmas
mod TurnLaw
mod DiskTurns
mod WriteCalls
mod TurnLemmas
mod WorldLemmas
pub mod ValidLaws
mod WatchLemmas
mod FitsLemmas
mod JudgedLemmas
mod OneContent
mod StoreContents
mod PackPaths
mod MultiSlots
mod ReadsShown
mod WriteKept
mod WriteTurn
mod WriteGoes
mod WriteFive
mod OpenFacts
mod SettingLemmas
pub mod ToldLemmas
mod ToldWell
mod AnsweredLemmas
mod FrontLemmas
mod RefusedLemmas
mod LookPromise
pub mod Stock
mod ToldLists
pub mod DiskTold
pub mod Streams
pub mod PackedStill
mod CoreLaws
mod HappenLaws
mod RefreshHappenLaws
mod ViewLaws
