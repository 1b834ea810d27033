pub mod FirstLaws
pub mod FirstSteps
pub mod ScreenLaws
pub mod IdentifySteps
