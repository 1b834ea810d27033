pub mod StoreLaws
pub mod MarkLaws
pub mod ColumnLaws
pub mod Worked
