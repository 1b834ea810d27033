pub mod ShownTells
pub mod WhyTells
pub mod Same
