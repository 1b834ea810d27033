pub mod LayLaws
pub mod PassLaws
pub mod RowLaws
pub mod WordLaws
pub mod Unique
