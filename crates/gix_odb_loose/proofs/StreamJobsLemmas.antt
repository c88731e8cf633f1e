-- Lemmas on writes from a source, turn by turn.
pub mod SameAsks
pub mod ReadsOn
pub mod GoesOn
pub mod Kept
pub mod Turn
pub mod Turns
pub mod Ends
