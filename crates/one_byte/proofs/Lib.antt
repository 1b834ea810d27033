pub mod RecordLaws
pub mod Theorems
pub mod Worked
