-- Where a look-up of a prefix stands after an answer.
pub mod Names
pub mod Streams
pub mod Ends
pub mod Matches
pub mod Turns
pub mod Links
pub mod Reads
pub mod Answered
pub mod Drives
