pub mod Packed
pub mod LentPlaces
pub mod Lent
pub mod LentArranged
pub mod LentOwn
