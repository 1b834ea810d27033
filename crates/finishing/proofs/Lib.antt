pub mod StoreLaws
pub mod LoopLaws
pub mod WordsLaws
pub mod FrontLaws
pub mod FinishLaws
pub mod DoneLaws
pub mod Same
