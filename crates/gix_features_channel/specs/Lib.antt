-- There is one proof of an end's pass; then what was written and read, in the order to read them.
-- A worker's messages, and what was taken from them.
-- What a worker begins with, and what an iterator has given whose items it draws ahead.
pub mod Ends
pub mod PipeSeats
pub mod Pipe
pub mod Messages
pub mod Taking
pub mod EagerJobs
pub mod Eager
