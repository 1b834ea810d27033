pub mod SideLaws
pub mod Unique
