-- What a tree is, from the crate below; from WellKept on, what only this crate's own proofs cite.
pub use Rattle.odb_disk.specs.Node
pub use Rattle.odb_disk.specs.Tree
pub use Rattle.odb_disk.specs.Entries
pub use Rattle.odb_disk.specs.Answers
pub use Rattle.odb_disk.specs.OwnFile
pub use Rattle.odb_disk.specs.TreeNumbers
pub use Rattle.odb_disk.specs.TreeCalls
-- What calls of a disk answer and do to its streams, on any disk and on one in memory; sources, sinks and counts of calls are those of the crate below.
pub use Rattle.odb_base.specs.Faults
pub use Rattle.odb_disk.specs.Disk
pub use Rattle.odb_disk.specs.Streams
pub use Rattle.odb_disk.specs.StreamNumbers
pub use Rattle.odb_disk.specs.MemDisk
pub use Rattle.odb_disk.specs.Told
pub use Rattle.odb_disk.specs.StreamAsks
pub use Rattle.odb_disk.specs.Ask
pub use Rattle.odb_disk.specs.CallsMade
pub use Rattle.odb_base.specs.Source
pub use Rattle.odb_base.specs.MemStream
pub use Rattle.odb_base.specs.Calls
pub mod WellKept
pub mod PassCalls
pub mod TreeMoves
pub mod Listing
