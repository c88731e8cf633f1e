-- The turns of a listing: from each entry of a directory to the first node after all that is below it.
pub mod Behind
pub mod Turns
pub use Behind.*
pub use Turns.*
