pub mod RowLaws
pub mod Unique
