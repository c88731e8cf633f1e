-- Laws of a call that is given as a value, on every disk and on a disk in memory.
pub mod Carried
pub mod InMemory
pub mod Writes
