pub mod Kind
pub mod ObjectId
pub mod IdOrder
pub mod Prefix
pub mod Hash
pub mod Steps
