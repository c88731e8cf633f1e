-- Lemmas on the promises of a write: its start, what refused its asks, its run, and the clauses of each call.
pub mod RefusedAsks
pub mod Begins
pub mod Ends
pub mod Calls
