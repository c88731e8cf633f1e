-- Laws of the calls that write, by their steps.
pub mod Spots
pub mod Changes
