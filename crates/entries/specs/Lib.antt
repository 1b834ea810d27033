pub mod Lent
pub mod LentHalves
pub mod LentInserts
pub mod LentTabled
