pub mod Exactly
pub mod Counts
pub mod BadRecord
pub mod Fine
pub mod OddRecords
