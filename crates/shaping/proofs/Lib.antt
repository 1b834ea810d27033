pub mod WidthSteps
pub mod CoverSteps
pub mod Unique
