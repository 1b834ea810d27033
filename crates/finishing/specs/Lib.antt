pub mod Answers
pub mod Buffers
pub mod Late
pub mod Lent
