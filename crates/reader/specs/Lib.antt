pub mod Store
pub mod LentMarks
