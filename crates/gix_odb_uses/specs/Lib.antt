pub mod Objects
pub mod Reads
pub mod Written
pub mod Conditions
