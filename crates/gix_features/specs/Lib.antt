pub mod Composed
pub mod GitOrder
pub mod Wrapped
