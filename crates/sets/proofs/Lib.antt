pub mod SetLaws
pub mod PartLaws
pub mod IdLaws
pub mod HeldLaws
pub mod Unique
