-- Flags, counts, numbers, chunks and items in order, in the order to read them.
pub mod Flag
pub mod Interrupt
pub mod InterruptedCall
pub mod Progress
pub mod Leb64
pub mod Leb64Reads
pub mod Chunks
pub mod Sizes
pub mod InOrder
pub mod InOrderState
pub mod InOrderRuns
