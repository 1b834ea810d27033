pub mod EndLaws
pub mod PartLaws
pub mod FoundLaws
pub mod Same
