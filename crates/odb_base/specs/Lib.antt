-- Paths, counts of faults, numbers as texts and limits of sizes, in the order to read them.
-- Lists in blocks.
-- What sources and sinks take and give; how calls in memory are counted, and which of them fail.
pub mod Path
pub mod JoinedPath
pub mod PathLaws
pub mod Faults
pub mod Decimal
pub mod Limit
pub mod Blocks
pub mod Source
pub mod Retry
pub mod Calls
pub mod MemStream
