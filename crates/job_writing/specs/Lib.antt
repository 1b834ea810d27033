pub mod LentWrite
