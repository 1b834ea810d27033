pub mod WideLaws
pub mod CloseLaws
pub mod Unique
