-- What a session does to its source and its sink.
pub mod Session
pub mod Report
