-- The numbers of a tree's nodes stay well kept.
pub mod Taken
pub mod Kept
pub use Taken.*
pub use Kept.*
