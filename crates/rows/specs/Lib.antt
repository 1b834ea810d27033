pub mod Columns
pub mod Row
pub mod Subtable
pub mod Lent
