pub mod Answers
pub mod Keeping
pub mod LentKeep
pub mod KeptTold
