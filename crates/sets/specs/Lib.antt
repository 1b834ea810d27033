pub mod Set
pub mod Order
pub mod Ids
pub mod Lent
