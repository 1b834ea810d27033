pub mod SeenLaws
pub mod LookLaws
pub mod Unique
