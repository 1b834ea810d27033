pub mod Numbering
pub mod LentBuckets
