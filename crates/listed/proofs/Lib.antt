pub mod OrderedLaws
pub mod StepLaws
pub mod WholeSteps
