pub mod SetLaws
pub mod Exactly
