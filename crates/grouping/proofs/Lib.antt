pub mod AddSteps
pub mod GroupSteps
