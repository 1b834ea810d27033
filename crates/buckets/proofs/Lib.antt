pub mod NumberLaws
pub mod LaidLaws
pub mod GatherSteps
pub mod LinkSteps
pub mod RunSteps
pub mod KeptSteps
