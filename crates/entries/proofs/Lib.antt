pub mod EntryLaws
pub mod OrderLaws
pub mod MergeLaws
pub mod HalfLaws
pub mod InsertLaws
pub mod TabledLaws
pub mod Unique
