-- Lemmas on runs, which those on worlds cite.
pub mod FailedLemmas
pub mod WriteAsk
pub mod RefusedLemmas
pub mod KeptCoreLemmas
pub mod TakenLemmas
