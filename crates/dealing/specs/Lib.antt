pub mod LentHomes
