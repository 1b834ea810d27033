pub mod RowSize
pub mod RunSize
pub mod StartSize
pub mod Values
pub mod Theorems
