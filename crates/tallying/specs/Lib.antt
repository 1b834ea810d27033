pub mod LentTally
