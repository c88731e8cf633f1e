pub mod Kind
pub mod Loose
pub mod Id
pub mod Data
pub mod Stream
pub use Rattle.odb_base.specs.Limit
