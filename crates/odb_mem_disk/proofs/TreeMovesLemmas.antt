-- The steps of a directory's move: the paths below it, the copies, and what is removed.
pub mod Below
pub mod Copies
pub use Below.*
pub use Copies.*
