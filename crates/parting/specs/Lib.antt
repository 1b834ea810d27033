pub mod Answers
pub mod Part
pub mod LentPart
pub mod PartTold
