pub mod Lent
pub mod Check
