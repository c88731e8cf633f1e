-- A run by its events: the cores of its stores, its disk, and what its records say; Made and KeptCore are for the code of cores.
pub mod Event
pub mod Cores
pub mod JournalKept
pub mod Held
pub mod Turned
pub mod PathRecorded
pub mod Run
pub mod Writing
pub mod Entries
pub mod Made
pub mod KeptCore
