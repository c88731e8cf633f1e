-- The lines that are written for outcomes.
pub mod Split
pub mod Word
pub mod Content
pub mod Change
pub mod Opening
pub mod Line
pub mod Script
pub mod Expected
pub mod Fault
pub mod Reason
pub mod Told
pub mod Print
