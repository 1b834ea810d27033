pub mod CountSteps
pub mod DealSteps
