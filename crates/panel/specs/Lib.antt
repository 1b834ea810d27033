pub mod Taken
pub mod Panelled
pub mod LentOdd
