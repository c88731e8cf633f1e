-- A path as one text: the names in it, its order, and its parts.
pub mod Names
pub mod Parts
pub mod Fronts
pub use Names.*
pub use Parts.*
pub use Fronts.*
