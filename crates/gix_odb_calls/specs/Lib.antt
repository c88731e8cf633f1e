pub mod Hashes
pub mod Query
pub mod Replacements
pub mod Slots
pub mod StoreParts
pub mod Verdict
