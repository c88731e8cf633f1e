pub mod Asked
pub mod Command
pub mod Refusal
pub mod Status
pub mod Lines
pub mod Probe
pub mod Session
