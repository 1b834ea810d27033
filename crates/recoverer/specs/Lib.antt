pub mod Answers
pub mod Recover
pub mod Exactly
