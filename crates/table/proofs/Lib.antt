pub mod TableSteps
pub mod Unique
