pub mod Placing
pub mod Lent
