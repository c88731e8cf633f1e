-- Laws of the streams of a disk, which other calls and other programs leave alone: what a stream gives is what its folder's
-- directory listed when it was opened.
mod Numbers
mod Entries
mod Looks
pub mod Calls
pub mod Directories
pub mod Exchanges
pub use Calls.*
pub use Directories.*
pub use Exchanges.*
