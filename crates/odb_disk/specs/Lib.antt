-- What a tree is, what it lists, and what calls answer; from TreeNumbers on, what only proofs of a tree in memory cite.
-- What calls of a disk answer and do to its streams, on any disk and on one in memory.
pub mod Node
pub mod Tree
pub mod Entries
pub mod Answers
pub mod OwnFile
pub mod TreeNumbers
pub mod TreeCalls
pub mod Disk
pub mod Streams
pub mod StreamNumbers
pub mod MemDisk
pub mod Told
pub mod StreamAsks
pub mod Ask
pub mod CallsMade
